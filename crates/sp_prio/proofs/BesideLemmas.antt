-- The copies beside a message, with the message among them.
use Rattle.std.proofs.Common.{◌≡◌, ◌≤◌, ℕ, zero, suc, ◌+◌, List, [], ◌∷◌, ◌++◌, length, replicate, refl, sym, ap, ◌∙◌, arith}
use Rattle.std.proofs.lemmas.List.{length-replicate}
use Rattle.sp_msg.specs.declared.kept.Kept.{Kept}
use Rattle.sp_prio.specs.Parcel.{AreBeside, beside_count}

-- with the message itself there are enough
pub enough_beside : (copies : ℕ) → copies ≤ beside_count copies + 1
enough_beside zero = omega arith
enough_beside (suc zero) = omega arith
enough_beside (suc (suc n)) = omega arith

one_more : (n : ℕ) (x : Kept) → replicate n x ++ x ∷ [] ≡ replicate (suc n) x
one_more zero x = refl
one_more (suc n) x = ap (λ (xs : List Kept). x ∷ xs) (one_more n x)

-- and all are alike
pub alike_with : (kept : Kept) (copies room : ℕ) (beside all : List Kept) → AreBeside kept copies beside room → all ≡ beside ++ kept ∷ []
    → (all ≡ replicate (length all) kept) × (copies ≤ length all)
alike_with kept copies room beside all stands is =
    let same : all ≡ replicate (suc (beside_count copies)) kept =
    is ∙ ap (λ (xs : List Kept). xs ++ kept ∷ []) stands.alike ∙ one_more (beside_count copies) kept in
    let long : length all ≡ suc (beside_count copies) = ap length same ∙ length-replicate (suc (beside_count copies)) kept in
    (same ∙ ap (λ (n : ℕ). replicate n kept) (sym long), omega (arith, long, enough_beside copies))
