-- What an image of a torn file still has.
use Rattle.std.proofs.Common.{◌≡◌, ℕ, zero, suc, ◌+◌, ◌<◌, ◌≤◌, ◌⊎◌, inl, inr, max, true, false, List, [], ◌∷◌, length, take, drop, Option, None, Some, refl}
use Rattle.std.proofs.Common.{sym, ap, subst, ◌∙◌, arith}
use Rattle.std.specs.Prelude.{◌==◌, slice_get}
use Rattle.std.proofs.lemmas.Bool.Decides.{nat_tests}
use Rattle.std.proofs.lemmas.Option.{none-some}
use Rattle.sp_outside.specs.Disk.{after_write, over, patched, still, sure}
use Rattle.sp_outside.proofs.DiskLemmas.{bytes_of-after_write, bytes_of-still, only_image, over_there, own_image}
use Rattle.sp_keystate.specs.Changes.{IsTorn}

true_not_false : true ≡ false → ⊥
true_not_false is = cc

-- a place that isn't among n from at on
abbrev pub IsOut : ℕ → ℕ → ℕ → Type 0
IsOut at n i = (i < at) ⊎ (at + n ≤ i)

next_out : (at n i : ℕ) → IsOut (suc at) n (suc i) → IsOut at n i
next_out at n i (inl h) = inl (omega (arith, h))
next_out at n i (inr h) = inr (omega (arith, h))

rest_out : (n i : ℕ) → IsOut 0 (suc n) (suc i) → IsOut 0 n i
rest_out n i (inl h) = absurd (omega (arith, h))
rest_out n i (inr h) = inr (omega (arith, h))

not_first : {X : Type 0} (n : ℕ) → IsOut 0 (suc n) 0 → X
not_first n (inl h) = absurd (omega (arith, h))
not_first n (inr h) = absurd (omega (arith, h))

-- a byte of the file is there in each image
not_gone : {X : Type 0} (x b : ℕ) → (over (sure x) b).is_there ≡ false → X
not_gone x b h = absurd (true_not_false (sym (over_there (sure x) b) ∙ h))

-- a torn file is as long as before at least
pub torn_long : (f : List ℕ) (at : ℕ) (bs c : List ℕ) → IsTorn f at bs c → length f ≤ length c
torn_long f at [] c h = let same = ap (λ (l : List ℕ). length l) (only_image f c h) in omega (arith, same)
torn_long [] at (b ∷ bs) c h = omega arith
torn_long (x ∷ f) zero (b ∷ bs) [] h = not_gone x b h
torn_long (x ∷ f) zero (b ∷ bs) (y ∷ c) h = let rest = torn_long f zero bs c h.1 in omega (arith, rest)
torn_long (x ∷ f) (suc at) (b ∷ bs) [] h = absurd (true_not_false h)
torn_long (x ∷ f) (suc at) (b ∷ bs) (y ∷ c) h = let rest = torn_long f at (b ∷ bs) c h.1 in omega (arith, rest)

-- and no longer than the written one
pub torn_short : (f : List ℕ) (at : ℕ) (bs c : List ℕ) → IsTorn f at bs c → length c ≤ max (length f) (at + length bs)
torn_short f at [] c h = let same = ap (λ (l : List ℕ). length l) (only_image f c h) in omega (arith, same)
torn_short f at (b ∷ bs) [] h = omega arith
torn_short [] zero (b ∷ bs) (y ∷ c) h = let rest = torn_short [] zero bs c h.1 in omega (arith, rest)
torn_short (x ∷ f) zero (b ∷ bs) (y ∷ c) h = let rest = torn_short f zero bs c h.1 in omega (arith, rest)
torn_short [] (suc at) (b ∷ bs) (y ∷ c) h = let rest = torn_short [] at (b ∷ bs) c h.1 in omega (arith, rest)
torn_short (x ∷ f) (suc at) (b ∷ bs) (y ∷ c) h = let rest = torn_short f at (b ∷ bs) c h.1 in omega (arith, rest)

-- other bytes stay
pub torn_same : (f : List ℕ) (at : ℕ) (bs c : List ℕ) (i : ℕ) → IsTorn f at bs c → IsOut at (length bs) i → i < length f → slice_get c i ≡ slice_get f i
torn_same f at [] c i h out inside = ap (λ (l : List ℕ). slice_get l i) (only_image f c h)
torn_same [] at (b ∷ bs) c i h out inside = absurd (omega (arith, inside))
torn_same (x ∷ f) zero (b ∷ bs) c zero h out inside = not_first (length bs) out
torn_same (x ∷ f) zero (b ∷ bs) [] (suc i) h out inside = not_gone x b h
torn_same (x ∷ f) zero (b ∷ bs) (y ∷ c) (suc i) h out inside = torn_same f zero bs c i h.1 (rest_out (length bs) i out) (omega (arith, inside))
torn_same (x ∷ f) (suc at) (b ∷ bs) [] i h out inside = absurd (true_not_false h)
torn_same (x ∷ f) (suc at) (b ∷ bs) (y ∷ c) zero h out inside = ap (λ (n : ℕ). Some n) (h.0 refl)
torn_same (x ∷ f) (suc at) (b ∷ bs) (y ∷ c) (suc i) h out inside = torn_same f at (b ∷ bs) c i h.1 (next_out at (suc (length bs)) i out) (omega (arith, inside))

same_number : (n : ℕ) → (n == n) ≡ true
same_number n = grind (arith, nat_tests)

-- a byte that is written over itself stays
over_same : (b : ℕ) → over (sure b) b ≡ sure b
over_same b = rw (same_number b) refl

pub torn_kept : (f : List ℕ) (at b : ℕ) (c : List ℕ) → IsTorn f at (b ∷ []) c → slice_get f at ≡ Some b → slice_get c at ≡ Some b
torn_kept [] at b c h is = absurd (none-some b is)
torn_kept (x ∷ f) zero b [] h is = not_gone x b h
torn_kept (x ∷ f) zero b (y ∷ c) h is =
    let same : x ≡ b = ap (λ (o : Option ℕ). elim o [ None ↦ x | Some z ↦ z ]) is in
    let stays : over (sure x) b ≡ sure b = ap (λ (z : ℕ). over (sure z) b) same ∙ over_same b in
    let now : y ≡ (over (sure x) b).now = h.0 (ap (λ k. k.is_fixed) stays) in
    ap (λ (z : ℕ). Some z) (now ∙ ap (λ k. k.now) stays)
torn_kept (x ∷ f) (suc at) b [] h is = absurd (true_not_false h)
torn_kept (x ∷ f) (suc at) b (y ∷ c) h is = torn_kept f at b c h.1 is

-- ---- the patched file

-- it is one of its own images
pub patched_torn : (f : List ℕ) (at : ℕ) (bs : List ℕ) → IsTorn f at bs (patched f at bs)
patched_torn f at bs =
    subst (IsTorn f at bs) (bytes_of-after_write (still f) at bs ∙ ap (λ (l : List ℕ). patched l at bs) (bytes_of-still f))
    (own_image (after_write (still f) at bs))

-- the patch stands in it
pub patched_has : (f : List ℕ) (at : ℕ) (bs : List ℕ) → take (length bs) (drop at (patched f at bs)) ≡ bs
patched_has f at [] = refl
patched_has [] zero (b ∷ bs) = ap (λ (l : List ℕ). b ∷ l) (patched_has [] zero bs)
patched_has (x ∷ f) zero (b ∷ bs) = ap (λ (l : List ℕ). b ∷ l) (patched_has f zero bs)
patched_has [] (suc at) (b ∷ bs) = patched_has [] at (b ∷ bs)
patched_has (x ∷ f) (suc at) (b ∷ bs) = patched_has f at (b ∷ bs)
