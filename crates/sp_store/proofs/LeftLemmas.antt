-- The list without the first that passes: how many are left, in all and of each source.
use Rattle.std.proofs.Common.{◌≡◌, ◌≤◌, ◌+◌, Bool, true, false, List, [], ◌∷◌, length, Some, None, refl, ap, arith, cond, find}
use Rattle.sp_rules.specs.Choices.{less_first}

pub none_left : {X : Type 0} (test : X → Bool) (xs : List X) → find test xs ≡ None → less_first test xs ≡ xs
none_left test [] none = refl
none_left {X} test (x ∷ xs) none = go (test x) none (λ rest. none_left test xs rest)
  where
    go : (t : Bool) → cond t (Some x) (find test xs) ≡ None → (find test xs ≡ None → less_first test xs ≡ xs) → cond t xs (x ∷ less_first test xs) ≡ x ∷ xs
    go true none rest = absurd (cc)
    go false none rest = ap (λ (ys : List X). x ∷ ys) (rest none)

pub one_less : {X : Type 0} (test : X → Bool) (xs : List X) (y : X) → find test xs ≡ Some y → length xs ≡ length (less_first test xs) + 1
one_less test [] y found = absurd (cc)
one_less {X} test (x ∷ xs) y found = go (test x) found (λ rest. one_less test xs y rest)
  where
    go : (t : Bool) → cond t (Some x) (find test xs) ≡ Some y → (find test xs ≡ Some y → length xs ≡ length (less_first test xs) + 1) →
        length (x ∷ xs) ≡ length (cond t xs (x ∷ less_first test xs)) + 1
    go true found rest = omega arith
    go false found rest = omega (arith, rest found)

pub no_more : {X : Type 0} (test : X → Bool) (xs : List X) → length (less_first test xs) ≤ length xs
no_more test [] = omega arith
no_more {X} test (x ∷ xs) = go (test x) (no_more test xs)
  where
    go : (t : Bool) → length (less_first test xs) ≤ length xs → length (cond t xs (x ∷ less_first test xs)) ≤ length (x ∷ xs)
    go true rest = omega arith
    go false rest = omega (arith, rest)
