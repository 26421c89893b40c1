-- What a choice by an order gives: it goes on from element to element, and none goes before it. What is left without the first that passes.
use Rattle.std.proofs.Common.{◌≡◌, ◌<◌, ℕ, zero, suc, ◌+◌, Bool, true, false, List, [], ◌∷◌, ◌++◌, length, get_or, Option, Some, None, refl, sym, ap, subst}
use Rattle.std.proofs.Common.{◌∙◌, arith, cond, nat_lt}
use Rattle.std.specs.Prelude.{Contains, find, position}
use Rattle.std.specs.List.{position_or_len, range_with_len, remove}
use Rattle.std.proofs.lemmas.Bool.Decides.{nat_tests}
use Rattle.std.proofs.lemmas.List.Sums.{fails_before_first}
use Rattle.sp_base.specs.Rows.{IsFirstAt}
use Rattle.sp_base.proofs.RowLemmas.{is_first}
use Rattle.sp_rules.specs.Choices.{first_by, less_first, sooner}

-- ---- orders

-- none goes before itself; what goes before goes on, and so does what doesn't
pub record IsOrder {X : Type 0} (goes_before : X → X → Bool) : Type 0 where
  pub itself : (x : X) → goes_before x x ≡ false
  pub before : (x y z : X) → goes_before x y ≡ true → goes_before y z ≡ true → goes_before x z ≡ true
  pub not_before : (x y z : X) → goes_before x y ≡ false → goes_before y z ≡ false → goes_before x z ≡ false

-- the greater number first
pub more_first : {X : Type 0} (key : X → ℕ) → IsOrder (λ a b. nat_lt (key b) (key a))
more_first key = record {
  itself = λ x. grind (arith, nat_tests);
  before = λ x y z xy yz. grind (arith, nat_tests);
  not_before = λ x y z xy yz. grind (arith, nat_tests);
}

-- the lesser number first
pub fewer_first : {X : Type 0} (key : X → ℕ) → IsOrder (λ a b. nat_lt (key a) (key b))
fewer_first key = record {
  itself = λ x. grind (arith, nat_tests);
  before = λ x y z xy yz. grind (arith, nat_tests);
  not_before = λ x y z xy yz. grind (arith, nat_tests);
}

-- ---- the choice of one more

-- the first of x, b and y is that of y and the first of x and b
sooner_of_three : {X : Type 0} (R : X → X → Bool) → IsOrder R → (x b y : X) → sooner R x (Some (sooner R b (Some y))) ≡ sooner R (sooner R x (Some b)) (Some y)
sooner_of_three {X} R order x b y = go (R b x) (R y b) (R y x) refl refl refl
  where
    go : (bx yb yx : Bool) → R b x ≡ bx → R y b ≡ yb → R y x ≡ yx → sooner R x (Some (sooner R b (Some y))) ≡ sooner R (sooner R x (Some b)) (Some y)
    go true true true p q r = simp (p, q, r)
    go true true false p q r = absurd (let no : true ≡ false = sym (order.before y b x q p) ∙ r in cc)
    go true false yx p q r = simp (p, q)
    go false true yx p q r = simp (p, q)
    go false false true p q r = absurd (let no : true ≡ false = sym r ∙ order.not_before y b x q p in cc)
    go false false false p q r = simp (p, q, r)

-- what is chosen where one more comes after these
abbrev pub with_last : {X : Type 0} → (X → X → Bool) → Option X → X → X
with_last R None y = y
with_last R (Some b) y = sooner R b (Some y)

-- one more item is the first in an order where it comes before the first of the others
pub first_by_push : {X : Type 0} (R : X → X → Bool) → IsOrder R → (xs : List X) (y : X) → first_by R (xs ++ y ∷ []) ≡ Some (with_last R (first_by R xs) y)
first_by_push R order [] y = refl
first_by_push {X} R order (x ∷ xs) y = go (first_by R xs) refl (first_by_push R order xs y)
  where
    go : (f : Option X) → first_by R xs ≡ f → first_by R (xs ++ y ∷ []) ≡ Some (with_last R f y) → Some (sooner R x (first_by R (xs ++ y ∷ [])))
        ≡ Some (sooner R (sooner R x (first_by R xs)) (Some y))
    go None is rest = rw (rest, is) refl
    go (Some b) is rest = rw (rest, is) (ap (λ (z : X). Some z) (sooner_of_three R order x b y))

-- ---- what is chosen

-- something is chosen of what isn't empty
pub some_first : {X : Type 0} (R : X → X → Bool) (xs : List X) → 0 < length xs → (x : X) × (first_by R xs ≡ Some x)
some_first R [] some = absurd (omega arith)
some_first R (x ∷ xs) some = (sooner R x (first_by R xs), refl)

-- it is there
pub first_is_there : {X : Type 0} (R : X → X → Bool) (xs : List X) (b : X) → first_by R xs ≡ Some b → Contains xs b
first_is_there R [] b is = absurd (cc)
first_is_there {X} R (x ∷ xs) b is = go (first_by R xs) refl (λ c chosen. first_is_there R xs c chosen)
  where
    later : (c : X) → Contains xs c → Contains (x ∷ xs) c
    later c there = (suc there.0, omega (arith, there.1), there.2)

    here : x ≡ b → Contains (x ∷ xs) b
    here same = subst (λ (z : X). Contains (x ∷ xs) z) same (zero, omega arith, refl)

    of_two : (c : X) (t : Bool) → R c x ≡ t → sooner R x (Some c) ≡ b → Contains xs c → Contains (x ∷ xs) b
    of_two c true goes chosen there = subst (λ (z : X). Contains (x ∷ xs) z) (rw goes at chosen) (later c there)
    of_two c false goes chosen there = here (rw goes at chosen)

    go : (f : Option X) → first_by R xs ≡ f → ((c : X) → first_by R xs ≡ Some c → Contains xs c) → Contains (x ∷ xs) b
    go None none rest =
        let chosen : Some (sooner R x None) ≡ Some b = rw none at is in
        here (let same : x ≡ b = cc in same)
    go (Some c) some rest =
        let chosen : Some (sooner R x (Some c)) ≡ Some b = rw some at is in
        of_two c (R c x) refl (let same : sooner R x (Some c) ≡ b = cc in same) (rest c some)

nothing_chosen : {X : Type 0} (R : X → X → Bool) (xs : List X) → first_by R xs ≡ None → xs ≡ []
nothing_chosen R [] none = refl
nothing_chosen R (x ∷ xs) none = absurd (cc)

-- none goes before it
pub none_before : {X : Type 0} (R : X → X → Bool) → IsOrder R → (xs : List X) (b d : X) → first_by R xs ≡ Some b → (k : ℕ) → k < length xs →
    R (get_or xs k d) b ≡ false
none_before R order [] b d is k inside = absurd (omega arith)
none_before {X} R order (x ∷ xs) b d is k inside = go (first_by R xs) refl (λ c chosen. none_before R order xs c d chosen)
  where
    at : (c : X) (t : Bool) → R c x ≡ t → sooner R x (Some c) ≡ b → ((j : ℕ) → j < length xs → R (get_or xs j d) c ≡ false) → (j : ℕ) →
        j < length (x ∷ xs) → R (get_or (x ∷ xs) j d) b ≡ false
    at c true goes chosen rest zero within =
        let same : c ≡ b = rw goes at chosen in
        ap (R x) (sym same) ∙ back (R x c) refl
      where
        back : (t : Bool) → R x c ≡ t → R x c ≡ false
        back false e = e
        back true e = absurd (let no : true ≡ false = sym (order.before c x c goes e) ∙ order.itself c in cc)
    at c true goes chosen rest (suc j) within =
        let same : c ≡ b = rw goes at chosen in
        ap (R (get_or xs j d)) (sym same) ∙ rest j (omega arith)
    at c false goes chosen rest zero within =
        let same : x ≡ b = rw goes at chosen in
        ap (R x) (sym same) ∙ order.itself x
    at c false goes chosen rest (suc j) within =
        let same : x ≡ b = rw goes at chosen in
        ap (R (get_or xs j d)) (sym same) ∙ order.not_before (get_or xs j d) c x (rest j (omega arith)) goes

    alone : xs ≡ [] → x ≡ b → (j : ℕ) → j < length (x ∷ xs) → R (get_or (x ∷ xs) j d) b ≡ false
    alone none same zero within = ap (R x) (sym same) ∙ order.itself x
    alone none same (suc j) within = absurd (omega (arith, within, ap length none))

    go : (f : Option X) → first_by R xs ≡ f → ((c : X) → first_by R xs ≡ Some c → (j : ℕ) → j < length xs → R (get_or xs j d) c ≡ false) →
        R (get_or (x ∷ xs) k d) b ≡ false
    go None none rest =
        let chosen : Some (sooner R x None) ≡ Some b = rw none at is in
        alone (nothing_chosen R xs none) (let same : x ≡ b = cc in same) k inside
    go (Some c) some rest =
        let chosen : Some (sooner R x (Some c)) ≡ Some b = rw some at is in
        at c (R c x) refl (let same : sooner R x (Some c) ≡ b = cc in same) (rest c some) k inside

-- ---- a range of numbers

-- a range that is one longer has its last number more
pub range_push : (first count : ℕ) → range_with_len first (count + 1) ≡ range_with_len first count ++ (first + count) ∷ []
range_push first zero = ap (λ (n : ℕ). n ∷ []) (let e : first ≡ first + 0 = omega arith in e)
range_push first (suc count) =
    ap (range_with_len first) (let e : suc count + 1 ≡ suc (count + 1) = omega arith in e)
    ∙ ap (λ (ns : List ℕ). first ∷ ns) (range_push (first + 1) count ∙ ap (λ (n : ℕ). range_with_len (first + 1) count ++ n ∷ [])
    (let e : first + 1 + count ≡ first + suc count = omega arith in e))

-- ---- the first that passes is left out

less_first_at : {X : Type 0} (test : X → Bool) (xs : List X) (i : ℕ) (d : X) → IsFirstAt test xs i d → less_first test xs ≡ remove xs i
less_first_at test [] i d first = absurd (omega (arith, first.within))
less_first_at test (x ∷ xs) zero d first = rw first.passes refl
less_first_at {X} test (x ∷ xs) (suc i) d first =
    rw (first.before 0 (omega arith)) (ap (λ (rest : List X). x ∷ rest) (less_first_at test xs i d (record {
      within = omega (arith, first.within);
      passes = first.passes;
      before = λ k below. first.before (suc k) (omega arith);
    })))

-- taking away the first that passes removes the item at its place
pub less_first-position : {X : Type 0} (test : X → Bool) (xs : List X) (i : ℕ) → position test xs ≡ Some i → less_first test xs ≡ remove xs i
less_first-position test [] i at = absurd (cc)
less_first-position test (x ∷ xs) i at = less_first_at test (x ∷ xs) i x (is_first test (x ∷ xs) i x at)

-- ---- none passes

at_end : (t : Bool) (n : ℕ) → cond t (Some n) None ≡ None → t ≡ false
at_end true n none = absurd (cc)
at_end false n none = refl

none_passes : {X : Type 0} (test : X → Bool) (x : X) (xs : List X) → position test (x ∷ xs) ≡ None → (test x ≡ false) × (position test xs ≡ None)
none_passes test x xs none = (fails, rw past refl)
  where
    whole : nat_lt (position_or_len test (x ∷ xs)) (suc (length xs)) ≡ false
    whole = at_end (nat_lt (position_or_len test (x ∷ xs)) (suc (length xs))) (position_or_len test (x ∷ xs)) none

    long : length xs < position_or_len test (x ∷ xs)
    long = let e = whole in grind (arith, nat_tests)

    fails : test x ≡ false
    fails = fails_before_first test (x ∷ xs) 0 x (let e = long in omega arith)

    same : position_or_len test (x ∷ xs) ≡ 1 + position_or_len test xs
    same = let e = fails in rw e refl

    past : nat_lt (position_or_len test xs) (length xs) ≡ false
    past = let e : length xs < position_or_len test (x ∷ xs) = long in let f = same in grind (arith, nat_tests)

-- where nothing passes nothing is found
pub find-no_position : {X : Type 0} (test : X → Bool) (xs : List X) → position test xs ≡ None → find test xs ≡ None
find-no_position test [] none = refl
find-no_position test (x ∷ xs) none = let rest = none_passes test x xs none in rw rest.0 (find-no_position test xs rest.1)

pub less_first-no_position : {X : Type 0} (test : X → Bool) (xs : List X) → position test xs ≡ None → less_first test xs ≡ xs
less_first-no_position test [] none = refl
less_first-no_position {X} test (x ∷ xs) none = let rest = none_passes test x xs none in rw rest.0 (ap (λ (ys : List X). x ∷ ys)
    (less_first-no_position test xs rest.1))
