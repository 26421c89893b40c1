-- What is read from a table in which a row was replaced.
use Rattle.std.proofs.Common.{◌≡◌, Bool, true, false, List, [], ◌∷◌, refl, inl, inr}
use Rattle.std.specs.List.{list_any}
use Rattle.std.proofs.lemmas.Bool.{cases_Bool}
use Rattle.sp_base.specs.Rows.{first_where, replace_where}

-- a row that passes is read back, where there was one
pub first_replaced : {X : Type 0} (test : X → Bool) (none y : X) (xs : List X) → test y ≡ true → list_any test xs ≡ true
    → first_where test none (replace_where test y xs) ≡ y
first_replaced test none y [] is there = absurd (cc)
first_replaced test none y (x ∷ xs) is there = elim (cases_Bool (test x)) [
  | inl t ↦ rw (t, is) refl
  | inr t ↦ rw (t, t) (first_replaced test none y xs is (rw t at there))
]

-- a test that passes no row of the other one doesn't see the change
pub other_replaced : {X : Type 0} (test other : X → Bool) (none y : X) (xs : List X) → ((x : X) → test x ≡ true → other x ≡ false) → other y ≡ false
    → first_where other none (replace_where test y xs) ≡ first_where other none xs
other_replaced test other none y [] apart not_y = refl
other_replaced test other none y (x ∷ xs) apart not_y = elim (cases_Bool (test x)) [
  | inl t ↦ let not_x = apart x t in rw (t, not_x, not_y) refl
  | inr t ↦
      let rest = other_replaced test other none y xs apart not_y in
      elim (cases_Bool (other x)) [ inl s ↦ rw (t, s) refl | inr s ↦ rw (t, s) rest ]
]
