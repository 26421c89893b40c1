-- The test of a message's fields passes exactly where each of them is in its range.
use Rattle.std.proofs.Common.{◌≡◌, ℕ, Bool, true, false, List, [], ◌∷◌, refl, arith}
use Rattle.std.specs.Prelude.{◌&&◌, nat_le, IsTrue}
use Rattle.std.proofs.lemmas.Bool.Decides.{nat_tests}
use Rattle.sp_msg.specs.Bodies.{HasGoodFieldsIn, fields_of, has_kind, numbers_of}
use Rattle.sp_msg.specs.Fields.{AreInRange, IsInRange, Rule, free, ranged}
use Rattle.sp_msg.specs.declared.body.Body.{Body}
use Rattle.sp_node_format.specs.FormatLaws.{GoodIsInRange}
use Rattle.sp_node_format.specs.GoodFields.{are_in_range, has_good_fields, is_in_range}

both : (a b : Bool) → (a && b) ≡ true → (a ≡ true) × (b ≡ true)
both true true e = (refl, refl)
both true false e = absurd (cc)
both false b e = absurd (cc)

both_back : (a b : Bool) → a ≡ true → b ≡ true → (a && b) ≡ true
both_back a b p q = rw (p, q) refl

passes : (r : Rule) (x : ℕ) → IsInRange r x → is_in_range r x ≡ true
passes (ranged name size low high) x h =
    let above : nat_le low x ≡ true = grind (arith, nat_tests, h.0) in
    let below : nat_le x high ≡ true = grind (arith, nat_tests, h.1) in
    rw (above, below) refl
passes (free size) x h = grind (arith, nat_tests, h)

all_pass : (rs : List Rule) (xs : List ℕ) → AreInRange rs xs → are_in_range rs xs ≡ true
all_pass [] [] h = refl
all_pass (r ∷ rs) (x ∷ xs) h = rw (passes r x h.0, all_pass rs xs h.1) refl
all_pass [] (x ∷ xs) h = absurd h
all_pass (r ∷ rs) [] h = absurd h

is_ranged : (r : Rule) (x : ℕ) → is_in_range r x ≡ true → IsInRange r x
is_ranged (ranged name size low high) x e =
    let h = both (nat_le low x) (nat_le x high) e in
    (grind (arith, nat_tests, h.0), grind (arith, nat_tests, h.1))
is_ranged (free size) x e = grind (arith, nat_tests, e)

are_ranged : (rs : List Rule) (xs : List ℕ) → are_in_range rs xs ≡ true → AreInRange rs xs
are_ranged [] [] e = tt
are_ranged (r ∷ rs) (x ∷ xs) e =
    let h = both (is_in_range r x) (are_in_range rs xs) e in
    (is_ranged r x h.0, are_ranged rs xs h.1)
are_ranged [] (x ∷ xs) e = absurd (cc)
are_ranged (r ∷ rs) [] e = absurd (cc)

-- fields in their ranges pass the test
pub fields_pass : (format : ℕ) (body : Body) → HasGoodFieldsIn format body → IsTrue (has_good_fields format body)
unfolding has_good_fields
fields_pass format body h =
    both_back (has_kind format body) (are_in_range (fields_of format body) (numbers_of body)) h.0 (all_pass (fields_of format body) (numbers_of body) h.1)

-- fields that pass the test are in their ranges
pub fields_are_good : (format : ℕ) (body : Body) → IsTrue (has_good_fields format body) → HasGoodFieldsIn format body
unfolding has_good_fields
fields_are_good format body e =
    let h = both (has_kind format body) (are_in_range (fields_of format body) (numbers_of body)) e in
    (h.0, are_ranged (fields_of format body) (numbers_of body) h.1)

pub good_is_in_range : GoodIsInRange
good_is_in_range format body = (fields_are_good format body, fields_pass format body)
