-- Tables as lists of rows: the first row that a test finds, and a row put in the place of the first that a test finds.
use Rattle.std.specs.Prelude.{ℕ, ◌≡◌, ◌<◌, Bool, true, false, List, [], ◌∷◌, length, slice_index_or, if◌then◌else◌}

-- the first row of the test, or what stands for none
abbrev pub first_where : {X : Type 0} → (X → Bool) → X → List X → X
first_where test none [] = none
first_where test none (x ∷ xs) = if test x then x else first_where test none xs

-- the table with this row in the place of the first of the test. A table without one stays as it is
abbrev pub replace_where : {X : Type 0} → (X → Bool) → X → List X → List X
replace_where test y [] = []
replace_where test y (x ∷ xs) = if test x then y ∷ xs else x ∷ replace_where test y xs

-- the table with this row in the place of the first of the test, or at the end where there is none
abbrev pub put_where : {X : Type 0} → (X → Bool) → X → List X → List X
put_where test y [] = y ∷ []
put_where test y (x ∷ xs) = if test x then y ∷ xs else x ∷ put_where test y xs

-- the row at this place is the first that passes
pub record IsFirstAt {X : Type 0} (test : X → Bool) (xs : List X) (i : ℕ) (d : X) : Type 0 where
  pub within : i < length xs
  pub passes : test (slice_index_or xs i d) ≡ true
  pub before : (k : ℕ) → k < i → test (slice_index_or xs k d) ≡ false
