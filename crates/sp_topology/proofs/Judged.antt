-- The judgements pass exactly what is in its range.
use Rattle.std.proofs.Common.{◌≡◌, ℕ, ◌<◌, ◌≤◌, ◌==◌, ◌&&◌, ◌||◌, nat_lt, nat_le, Bool, true, false, cond, inl, inr, List, length, drop, Some, None, refl, sym}
use Rattle.std.proofs.Common.{ap, ◌∙◌, arith}
use Rattle.std.specs.Prelude.{Option}
use Rattle.std.proofs.lemmas.Bool.{cases_Bool, cases_lt}
use Rattle.std.proofs.lemmas.Bool.Decides.{nat_tests}
use Rattle.byteorder.specs.Endian.{big_number}
use Rattle.sp_base.specs.Formats.{max_edges, max_nodes}
use Rattle.sp_base.specs.Spelling.{AreBytes}
use Rattle.sp_topology.specs.declared.topology.LmsHeight.{LmsHeight}
use Rattle.sp_topology.specs.declared.topology.LmsHeight.TheVariants.{Five, Ten}
use Rattle.sp_topology.specs.declared.refused.TopologyRefused.{TopologyRefused}
use Rattle.sp_topology.specs.Faults.{are_nodes, edge_count_fault, ends_fault, id_fault, is_below, key_fault, node_count_fault, weight_fault}
use Rattle.sp_topology.specs.Heights.{height_at, height_number, typecode_of}
use Rattle.sp_topology.specs.Ranges.{AreEnds, IsBelow, IsId, IsKey, IsWeight, has_id, least_weight}

-- where none of two faults is there, the test failed and so did the others
none_of : (b : Bool) (fault : TopologyRefused) (others : Option TopologyRefused) → cond b (Some fault) others ≡ None → (b ≡ false) × (others ≡ None)
none_of true fault others e = absurd (cc)
none_of false fault others e = (refl, e)

passed : (b : Bool) (fault : TopologyRefused) → cond b None (Some fault) ≡ None → b ≡ true
passed true fault e = refl
passed false fault e = absurd (cc)

-- ---- ids

pub id_passes : (format : ℕ) → (before id : ℕ) → IsId format before id → id_fault format before id ≡ None
id_passes format before id is = grind (arith, nat_tests)

pub id_passed : (format : ℕ) → (before id : ℕ) → id_fault format before id ≡ None → IsId format before id
id_passed format before id e =
    let one = none_of (nat_lt id 1 || nat_lt (max_nodes format) id || nat_lt id before) _ _ e in
    let two = none_of (id == before) _ None one.1 in
    let first = one.0 in
    let second = two.0 in
    (grind (arith, nat_tests), grind (arith, nat_tests))

-- ---- counts and weights

pub node_count_passes : (format : ℕ) → (count : ℕ) → 2 ≤ count → count ≤ max_nodes format → node_count_fault format count ≡ None
node_count_passes format count low high = grind (arith, nat_tests)

pub node_count_passed : (format : ℕ) → (count : ℕ) → node_count_fault format count ≡ None → (2 ≤ count) × (count ≤ max_nodes format)
node_count_passed format count e =
    let one = none_of (nat_lt count 2) _ _ e in
    let two = none_of (nat_lt (max_nodes format) count) _ None one.1 in
    let first = one.0 in
    let second = two.0 in
    (grind (arith, nat_tests), grind (arith, nat_tests))

pub edge_count_passes : (format : ℕ) → (count : ℕ) → count ≤ max_edges format → edge_count_fault format count ≡ None
edge_count_passes format count high = grind (arith, nat_tests)

pub edge_count_passed : (format : ℕ) → (count : ℕ) → edge_count_fault format count ≡ None → count ≤ max_edges format
edge_count_passed format count e = let first = (none_of (nat_lt (max_edges format) count) _ None e).0 in grind (arith, nat_tests)

pub weight_passes : (format : ℕ) → (weight : ℕ) → IsWeight format weight → weight_fault format weight ≡ None
weight_passes format weight is = grind (arith, nat_tests)

pub weight_passed : (format : ℕ) → (weight : ℕ) → weight_fault format weight ≡ None → IsWeight format weight
weight_passed format weight e = let is = passed (nat_le (least_weight format) weight && nat_le weight 1000000) _ e in
    (grind (arith, nat_tests), grind (arith, nat_tests))

-- ---- heights and keys

pub height_of_number : (height : LmsHeight) → height_at (height_number height) ≡ Some height
height_of_number Five = refl
height_of_number Ten = refl

pub number_of_height : (number : ℕ) (height : LmsHeight) → height_at number ≡ Some height → height_number height ≡ number
number_of_height number height e = elim (cases_Bool (number == 5)) [
  | inl five ↦ let is : Some Five ≡ Some height = rw five at e in let same : Five ≡ height = cc in ap height_number (sym same) ∙ (grind (arith, nat_tests))
  | inr other ↦ elim (cases_Bool (number == 10)) [
    | inl ten ↦ let is : Some Ten ≡ Some height = rw (other, ten) at e in let same : Ten ≡ height = cc in ap height_number (sym same) ∙
        (grind (arith, nat_tests))
    | inr neither ↦ absurd (let is = rw (other, neither) at e in cc)
  ]
]

test_true : (a b : ℕ) → a ≡ b → (a == b) ≡ true
test_true a b same = grind (arith, nat_tests)

pub key_passes : (height : LmsHeight) (key : List ℕ) → IsKey height key → key_fault height key ≡ None
key_passes height key is =
    rw (
      test_true (big_number 4 key) 2 is.levels,
      test_true (big_number 4 (drop 4 key)) (typecode_of height) is.tree,
      test_true
          (big_number 4 (drop 8 key)) 3 is.one_time,
    ) refl

three : (a b c : ℕ) (x y z : ℕ) → (a == x) && (b == y) && (c == z) ≡ true → (a ≡ x) × (b ≡ y) × (c ≡ z)
three a b c x y z e = (grind (arith, nat_tests), grind (arith, nat_tests), grind (arith, nat_tests))

pub key_passed : (height : LmsHeight) (key : List ℕ) → length key ≡ 60 → AreBytes key → key_fault height key ≡ None → IsKey height key
key_passed height key long are e =
    let is = passed ((big_number 4 key == 2) && (big_number 4 (drop 4 key) == typecode_of height) && (big_number 4 (drop 8 key) == 3)) _ e in
    let each = three (big_number 4 key) (big_number 4 (drop 4 key)) (big_number 4 (drop 8 key)) 2 (typecode_of height) 3 is in
    record { long = long; bytes = are; levels = each.0; tree = each.1; one_time = each.2 }

-- ---- ends

not_below : (p q : ℕ × ℕ) → q.0 < q.1 → IsBelow p q → (nat_lt q.1 q.0 || is_below q p) ≡ false
not_below p q ascend (inl less) = grind (arith, nat_tests)
not_below p q ascend (inr same) = let first = same.0 in let second = same.1 in grind (arith, nat_tests)

not_same : (p q : ℕ × ℕ) → IsBelow p q → ((q.0 == p.0) && (q.1 == p.1)) ≡ false
not_same p q (inl less) = grind (arith, nat_tests)
not_same p q (inr same) = let first = same.0 in let second = same.1 in grind (arith, nat_tests)

both_of : (a b : Bool) → (a && b) ≡ true → (a ≡ true) × (b ≡ true)
both_of true b both = (refl, both)
both_of false b both = absurd (cc)

ascends : (p q : ℕ × ℕ) → (q.0 == q.1) ≡ false → (nat_lt q.1 q.0 || is_below q p) ≡ false → q.0 < q.1
ascends p q apart ordered = grind (arith, nat_tests)

comes_after : (p q : ℕ × ℕ) → (nat_lt q.1 q.0 || is_below q p) ≡ false → ((q.0 == p.0) && (q.1 == p.1)) ≡ false → IsBelow p q
comes_after p q ordered new = elim (cases_lt p.0 q.0) [
  | inl less ↦ inl less
  | inr most ↦ inr (grind (arith, nat_tests), grind (arith, nat_tests))
]

pub ends_pass : (ids : List ℕ) (before ends : ℕ × ℕ) → AreEnds ids before ends → ends_fault (are_nodes ids ends) before ends ≡ None
ends_pass ids before ends are =
    let ascend = are.ascend in
    let after = are.after in
    let apart : (ends.0 == ends.1) ≡ false = grind (arith, nat_tests) in
    let ordered : (nat_lt ends.1 ends.0 || is_below ends before) ≡ false = not_below before ends ascend after in
    let new : ((ends.0 == before.0) && (ends.1 == before.1)) ≡ false = not_same before ends after in
    rw (apart, ordered, new, are.low, are.high) refl

pub ends_passed : (ids : List ℕ) (before ends : ℕ × ℕ) → ends_fault (are_nodes ids ends) before ends ≡ None → AreEnds ids before ends
ends_passed ids before ends e =
    let one = none_of (ends.0 == ends.1) _ _ e in
    let two = none_of (nat_lt ends.1 ends.0 || is_below ends before) _ _ one.1 in
    let three = none_of ((ends.0 == before.0) && (ends.1 == before.1)) _ _ two.1 in
    let known = passed (are_nodes ids ends) _ three.1 in
    let both = both_of (has_id ends.0 ids) (has_id ends.1 ids) known in
    let first = one.0 in
    let second = two.0 in
    let third = three.0 in
    record {
      ascend = ascends before ends first second;
      after = comes_after before ends second third;
      low = both.0;
      high = both.1;
    }
