-- A table by places: what a test finds stands at the test's position.
use Rattle.std.proofs.Common.{◌≡◌, ◌<◌, ℕ, zero, suc, Bool, true, false, List, [], ◌∷◌, ◌++◌, length, get_or, set, Some, None, refl, sym, ap, ◌∙◌, arith, cond}
use Rattle.std.proofs.Common.{nat_lt}
use Rattle.std.specs.List.{position, position_or_len, find}
use Rattle.std.proofs.lemmas.List.{get_or_default}
use Rattle.std.proofs.lemmas.List.Quantifiers.{position-Some}
use Rattle.std.proofs.lemmas.List.Sums.{fails_before_first}
use Rattle.std.proofs.lemmas.Bool.Decides.{nat_tests}
use Rattle.sp_base.specs.Rows.{IsFirstAt, first_where, replace_where, put_where}

-- the place that `position` tells is that of the first item that passes
pub is_first : {X : Type 0} (test : X → Bool) (xs : List X) (i : ℕ) (d : X) → position test xs ≡ Some i → IsFirstAt test xs i d
is_first test xs i d at =
    let facts = position-Some test xs i d at in
    record { within = facts.0; passes = facts.1; before = facts.2 }

later : {X : Type 0} (test : X → Bool) (x : X) (xs : List X) (i : ℕ) (d : X) → IsFirstAt test (x ∷ xs) (suc i) d → IsFirstAt test xs i d
later test x xs i d first = record {
  within = omega (arith, first.within);
  passes = first.passes;
  before = λ k below. first.before (suc k) (omega arith);
}

pub first_at : {X : Type 0} (test : X → Bool) (none : X) (xs : List X) (i : ℕ) → IsFirstAt test xs i none → first_where test none xs ≡ get_or xs i none
first_at test none [] i first = absurd (omega (arith, first.within))
first_at test none (x ∷ xs) zero first = rw first.passes refl
first_at test none (x ∷ xs) (suc i) first = rw (first.before 0 (omega arith)) (first_at test none xs i (later test x xs i none first))

pub replace_at : {X : Type 0} (test : X → Bool) (y : X) (xs : List X) (i : ℕ) (d : X) → IsFirstAt test xs i d → replace_where test y xs ≡ set xs i y
replace_at test y [] i d first = absurd (omega (arith, first.within))
replace_at test y (x ∷ xs) zero d first = rw first.passes refl
replace_at test y (x ∷ xs) (suc i) d first = rw (first.before 0 (omega arith)) (ap (λ rest. x ∷ rest) (replace_at test y xs i d (later test x xs i d first)))

pub put_at : {X : Type 0} (test : X → Bool) (y : X) (xs : List X) (i : ℕ) (d : X) → IsFirstAt test xs i d → put_where test y xs ≡ set xs i y
put_at test y [] i d first = absurd (omega (arith, first.within))
put_at test y (x ∷ xs) zero d first = rw first.passes refl
put_at test y (x ∷ xs) (suc i) d first = rw (first.before 0 (omega arith)) (ap (λ rest. x ∷ rest) (put_at test y xs i d (later test x xs i d first)))

pub find_at_first : {X : Type 0} (test : X → Bool) (d : X) (xs : List X) (i : ℕ) → IsFirstAt test xs i d → find test xs ≡ Some (get_or xs i d)
find_at_first test d [] i first = absurd (omega (arith, first.within))
find_at_first test d (x ∷ xs) zero first = rw first.passes refl
find_at_first test d (x ∷ xs) (suc i) first = rw (first.before 0 (omega arith)) (find_at_first test d xs i (later test x xs i d first))

-- ---- where the test has a position

pub first_where-position : {X : Type 0} (test : X → Bool) (none : X) (xs : List X) (i : ℕ) → position test xs ≡ Some i
    → first_where test none xs ≡ get_or xs i none
first_where-position test none xs i at = first_at test none xs i (is_first test xs i none at)

-- where `position` tells a place, replacing sets the item there
pub replace_where-position : {X : Type 0} (test : X → Bool) (y : X) (xs : List X) (i : ℕ) → position test xs ≡ Some i → replace_where test y xs ≡ set xs i y
replace_where-position test y xs i at = replace_at test y xs i y (is_first test xs i y at)

-- where `position` tells a place, putting sets the item there
pub put_where-position : {X : Type 0} (test : X → Bool) (y : X) (xs : List X) (i : ℕ) → position test xs ≡ Some i → put_where test y xs ≡ set xs i y
put_where-position test y xs i at = put_at test y xs i y (is_first test xs i y at)

-- where `position` tells a place, `find` gives the item there
pub find-position : {X : Type 0} (test : X → Bool) (d : X) (xs : List X) (i : ℕ) → position test xs ≡ Some i → find test xs ≡ Some (get_or xs i d)
find-position test d xs i at = find_at_first test d xs i (is_first test xs i d at)

-- ---- where it has none

AllFail : {X : Type 0} → (X → Bool) → List X → X → Type 0
AllFail test xs d = (k : ℕ) → k < length xs → test (get_or xs k d) ≡ false

all_fail : {X : Type 0} (test : X → Bool) (xs : List X) (d : X) → position test xs ≡ None → AllFail test xs d
unfolding AllFail
all_fail test xs d none = go (nat_lt (position_or_len test xs) (length xs)) refl
  where
    go : (t : Bool) → nat_lt (position_or_len test xs) (length xs) ≡ t → (k : ℕ) → k < length xs → test (get_or xs k d) ≡ false
    go true is k below = let e = rw is at none in cc
    go false is k below = fails_before_first test xs k d (grind (arith, nat_tests))

first_of_none : {X : Type 0} (test : X → Bool) (none : X) (xs : List X) → AllFail test xs none → first_where test none xs ≡ none
unfolding AllFail
first_of_none test none [] fail = refl
first_of_none test none (x ∷ xs) fail = rw (fail 0 (omega arith)) (first_of_none test none xs (λ k below. fail (suc k) (omega arith)))

replace_of_none : {X : Type 0} (test : X → Bool) (y d : X) (xs : List X) → AllFail test xs d → replace_where test y xs ≡ xs
unfolding AllFail
replace_of_none test y d [] fail = refl
replace_of_none test y d (x ∷ xs) fail = rw (fail 0 (omega arith)) (ap (λ rest. x ∷ rest) (replace_of_none test y d xs (λ k below. fail (suc k) (omega arith))))

put_of_none : {X : Type 0} (test : X → Bool) (y d : X) (xs : List X) → AllFail test xs d → put_where test y xs ≡ xs ++ y ∷ []
unfolding AllFail
put_of_none test y d [] fail = refl
put_of_none test y d (x ∷ xs) fail = rw (fail 0 (omega arith)) (ap (λ rest. x ∷ rest) (put_of_none test y d xs (λ k below. fail (suc k) (omega arith))))

-- where nothing passes, the first that passes is the default
pub first_where-no_position : {X : Type 0} (test : X → Bool) (none : X) (xs : List X) → position test xs ≡ None → first_where test none xs ≡ none
first_where-no_position test none xs no_place = first_of_none test none xs (all_fail test xs none no_place)

-- where nothing passes, replacing changes nothing
pub replace_where-no_position : {X : Type 0} (test : X → Bool) (y : X) (xs : List X) → position test xs ≡ None → replace_where test y xs ≡ xs
replace_where-no_position test y xs no_place = replace_of_none test y y xs (all_fail test xs y no_place)

-- where nothing passes, the item is put behind the others
pub put_where-no_position : {X : Type 0} (test : X → Bool) (y : X) (xs : List X) → position test xs ≡ None → put_where test y xs ≡ xs ++ y ∷ []
put_where-no_position test y xs no_place = put_of_none test y y xs (all_fail test xs y no_place)

-- ---- reading what was written

-- a row that passes is read back
pub first_where-put : {X : Type 0} (test : X → Bool) (none y : X) (xs : List X) → test y ≡ true → first_where test none (put_where test y xs) ≡ y
first_where-put test none y [] passes = rw passes refl
first_where-put test none y (x ∷ xs) passes = go (test x) refl (first_where-put test none y xs passes)
  where
    go : (t : Bool) → test x ≡ t → first_where test none (put_where test y xs) ≡ y → first_where test none (put_where test y (x ∷ xs)) ≡ y
    go true is rest = rw (is, passes) refl
    go false is rest = rw (is, is) rest

-- a test that passes no row of the other one doesn't see the write
pub first_where-put_other : {X : Type 0} (test other : X → Bool) (none y : X) (xs : List X) → ((x : X) → test x ≡ true → other x ≡ false) → other y ≡ false
    → first_where other none (put_where test y xs) ≡ first_where other none xs
first_where-put_other test other none y [] apart fails = rw fails refl
first_where-put_other test other none y (x ∷ xs) apart fails = go (test x) refl (first_where-put_other test other none y xs apart fails)
  where
    go : (t : Bool) → test x ≡ t → first_where other none (put_where test y xs) ≡ first_where other none xs
        → first_where other none (put_where test y (x ∷ xs)) ≡ first_where other none (x ∷ xs)
    go true is rest = rw (is, apart x is, fails) refl
    go false is rest = rw is (ap (λ found. cond (other x) x found) rest)

-- what was read at the position of a test is its first row
pub first_where-read : {X : Type 0} (test : X → Bool) (none : X) (xs : List X) (i : ℕ) (x : X) → position test xs ≡ Some i → x ≡ get_or xs i x
    → first_where test none xs ≡ x
first_where-read test none xs i x at is = first_where-position test none xs i at ∙ get_or_default xs i none x (is_first test xs i none at).within ∙ sym is

-- what a table gives and becomes, by the position of a test
pub ruleset placed = (first_where-read, replace_where-position, first_where-no_position, replace_where-no_position)

pub ruleset put_placed = (first_where-read, put_where-position, first_where-no_position, put_where-no_position)
