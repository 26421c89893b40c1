-- The chains of two leaves, one leaf's behind the other's: their steps, and that they are those of the standard.
use Rattle.std.proofs.Common.{◌≡◌, ℕ, zero, suc, ◌+◌, ◌-◌, ◌<◌, ◌≤◌, List, [], ◌++◌, length, take, slice_index, slice_index_or, refl, sym, ◌∙◌, ap, arith, inl}
use Rattle.std.proofs.Common.{inr}
use Rattle.std.proofs.lemmas.Bool.{cases_lt}
use Rattle.std.proofs.lemmas.Bool.Decides.{nat_tests}
use Rattle.std.proofs.lemmas.List.{append_assoc, length-append, take_at}
use Rattle.sha2.specs.Sha256.{sha256}
use Rattle.sp_ots.specs.declared.two_leaves.Leaf.{Leaf}
use Rattle.sp_ots.specs.declared.two_leaves.TwoLeaves.{TwoLeaves}
use Rattle.sp_ots.specs.Strings.{u8str, u16str, u32str}
use Rattle.sp_ots.specs.Chains.{chain_end, chain_ends, next_element, stepped}
use Rattle.sp_ots.specs.Leaves.{front_of}
use Rattle.sp_ots.specs.TwoLeaves.{element_at, front_in, run_ends, stepped_behind}
use Rattle.sp_ots.proofs.Ends.{map_same}

-- no step leaves the element as it is
pub none_behind : (front : List ℕ) (from : ℕ) (element : List ℕ) → stepped_behind front from (from - from) element ≡ element
unfolding stepped_behind
none_behind front from element = let none : from - from ≡ 0 = omega arith in rw none refl

-- one more step
pub more_behind : (front : List ℕ) (from j : ℕ) (element : List ℕ) → from ≤ j
    → stepped_behind front from (j + 1 - from) element ≡ sha256 (front ++ u8str j ++ stepped_behind front from (j - from) element)
unfolding stepped_behind
more_behind front from j element later =
    let count : j + 1 - from ≡ suc (j - from) = omega arith in
    let place : from + (j - from) ≡ j = omega arith in
    rw (count, place) refl

-- a message begins with its front
pub begun_behind : (front : List ℕ) (step : ℕ) (element message : List ℕ) → length front ≡ 22 → message ≡ front ++ u8str step ++ element
    → take 22 message ≡ front
begun_behind front step element message long e = ap (take 22) (e ∙ append_assoc front (u8str step) element) ∙ take_at front (u8str step ++ element) 22 long

-- behind the front of a chain, its steps are those of the standard
pub stepped_same : (id : List ℕ) (q i from count : ℕ) (element : List ℕ)
    → stepped_behind (front_of id q i) from count element ≡ stepped id q i from count element
unfolding stepped_behind stepped next_element
stepped_same id q i from zero element = refl
stepped_same id q i from (suc count) element =
    ap (λ (x : List ℕ). sha256 (front_of id q i ++ u8str (from + count) ++ x)) (stepped_same id q i from count element)

-- what the messages of the chains of the first leaf begin with, and those of the second
pub front_first : (leaves : TwoLeaves) (place : ℕ) → place < leaves.split → front_in leaves place ≡ front_of leaves.first.id leaves.first.q place
unfolding front_in
front_first leaves place within = grind (arith, nat_tests)

pub front_second : (leaves : TwoLeaves) (i : ℕ) → front_in leaves (leaves.split + i) ≡ front_of leaves.second.id leaves.second.q i
unfolding front_in
front_second leaves i = let place : leaves.split + i - leaves.split ≡ i = omega arith in rw place (grind (arith, nat_tests))

length-front_of : (id : List ℕ) (q i : ℕ) → length id ≡ 16 → length (front_of id q i) ≡ 22
unfolding u32str u16str
length-front_of id q i long = omega (arith, length-append (id ++ u32str q) (u16str i), length-append id (u32str q))

pub length-front_in : (leaves : TwoLeaves) → length leaves.first.id ≡ 16 → length leaves.second.id ≡ 16 → (i : ℕ) → length (front_in leaves i) ≡ 22
length-front_in leaves first second i = elim (cases_lt i leaves.split) [
  | inl before ↦ ap length (front_first leaves i before) ∙ length-front_of leaves.first.id leaves.first.q i first
  | inr later ↦
      let place : leaves.split + (i - leaves.split) ≡ i = omega arith in
      ap (λ (n : ℕ). length (front_in leaves n)) (sym place) ∙ ap length (front_second leaves (i - leaves.split))
      ∙ length-front_of leaves.second.id leaves.second.q (i - leaves.split) second
]

-- the chains of one leaf alone
pub of_one_leaf : (id : List ℕ) (q : ℕ) (from to : List ℕ) (elements : List (List ℕ))
    → (let leaf : Leaf = record { id = id; q = q } in
    let leaves : TwoLeaves = record { first = leaf; second = leaf; split = length elements } in
    run_ends (front_in leaves) from to elements ≡ chain_ends id q from to elements)
unfolding run_ends chain_ends
of_one_leaf id q from to elements =
    let leaf : Leaf = record { id = id; q = q } in
    let leaves : TwoLeaves = record { first = leaf; second = leaf; split = length elements } in
    map_same (λ i. element_at (front_in leaves) from elements i (slice_index to i))
    (λ i. chain_end id q i (slice_index from i) (slice_index to i) (slice_index_or elements i []))
    0 (length elements) (λ i low high.
    let count = slice_index to i - slice_index from i in
    let element = slice_index_or elements i [] in
    ap (λ (front : List ℕ). stepped_behind front (slice_index from i) count element) (front_first leaves i (omega arith))
    ∙ stepped_same id q i (slice_index from i) count element)
