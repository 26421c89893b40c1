-- The first values from a place on, one at a time.
use Rattle.std.proofs.Common.{◌≡◌, ◌<◌, ℕ, zero, suc, ◌+◌, ◌-◌, List, ◌∷◌, take, drop, Some, ap, ◌∙◌, arith}
use Rattle.std.specs.List.{slice_get}
use Rattle.sp_base.proofs.FewLemmas.{drop_first}

-- they begin with what stands there
pub take_first : {X : Type 0} (xs : List X) (i room : ℕ) (x : X) → 0 < room → slice_get xs i ≡ Some x
    → take room (drop i xs) ≡ x ∷ take (room - 1) (drop (i + 1) xs)
take_first xs i zero x some at = absurd (omega (arith, some))
take_first {X} xs i (suc room) x some at =
    let less : room ≡ suc room - 1 = omega arith in
    ap (take (suc room)) (drop_first xs i x at) ∙ ap (λ (n : ℕ). x ∷ take n (drop (i + 1) xs)) less
