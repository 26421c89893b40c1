-- Every table of fields has one spelling.
use Rattle.std.proofs.Common.{◌≡◌, ℕ, ◌<◌, ◌≤◌, ◌^◌, ◌&&◌, true, false, inl, inr, List, [], ◌∷◌, ◌++◌, length, append_assoc, Result, Ok, Err, if◌then◌else◌}
use Rattle.std.proofs.Common.{refl, sym, ap, ◌∙◌, subst, arith}
use Rattle.std.specs.Prelude.{nat_le, nat_lt}
use Rattle.std.proofs.lemmas.Bool.{and_parts, cases_Bool}
use Rattle.std.proofs.lemmas.Bool.Decides.{nat_tests}
use Rattle.byteorder.specs.Endian.{big_bytes}
use Rattle.sp_base.specs.Reading.{number_at}
use Rattle.sp_base.specs.Refusals.{◌>>=◌, as_refusal}
use Rattle.sp_base.specs.Spelling.{AreBytes}
use Rattle.sp_base.proofs.NumberLemmas.{number_back, number_read}
use Rattle.sp_base.proofs.RefusalLemmas.{as_refusal_ok, then_ok}
use Rattle.sp_msg.specs.declared.refused.Field.{Field}
use Rattle.sp_msg.specs.declared.refused.MsgRefused.{MsgRefused}
use Rattle.sp_msg.specs.declared.refused.MsgRefused.TheVariants as refusals
use Rattle.sp_msg.specs.Fields.{AreInRange, HasRoom, HaveRoom, IsInRange, Rule, field_at, fields_at, free, ranged, size_of, spelled}

-- a number of no bytes is 0, and takes none
pub no_bytes : (bytes : List ℕ) → number_at 0 bytes ≡ Ok (0, bytes)
unfolding number_at
no_bytes bytes = let none : nat_lt (length bytes) 0 ≡ false = grind (arith, nat_tests) in rw none refl

-- ---- what is spelled is read

field_back : (r : Rule) (x : ℕ) (rest : List ℕ) → HasRoom r → IsInRange r x → field_at r (big_bytes (size_of r) x ++ rest) ≡ Ok (x, rest)
unfolding field_at
field_back (ranged name size low high) x rest room is =
    let up : nat_le low x ≡ true = let above : low ≤ x = is.0 in grind (arith, nat_tests) in
    let down : nat_le x high ≡ true = let below : x ≤ high = is.1 in grind (arith, nat_tests) in
    let small : x < 256 ^ size = let below : x ≤ high = is.1 in omega (arith, room) in
    rw (number_back size x rest small) (rw (up, down) refl)
field_back (free size) x rest room is = rw (number_back size x rest is) refl

pub fields_back : (rs : List Rule) (xs rest : List ℕ) → HaveRoom rs → AreInRange rs xs → fields_at rs (spelled rs xs ++ rest) ≡ Ok (xs, rest)
fields_back [] [] rest room are = refl
fields_back [] (x ∷ xs) rest room are = absurd are
fields_back (r ∷ rs) [] rest room are = absurd are
fields_back (r ∷ rs) (x ∷ xs) rest room are =
    rw (append_assoc (big_bytes (size_of r) x) (spelled rs xs) rest)
    (rw (field_back r x (spelled rs xs ++ rest) room.0 are.0) (rw (fields_back rs xs rest room.1 are.1) refl))

-- ---- what is read is spelled

-- the bytes begin with a field's number, which is in its range, and the rest are bytes too
pub record BeginsWithField (r : Rule) (bytes : List ℕ) (x : ℕ) (rest : List ℕ) : Type 0 where
  pub is : bytes ≡ big_bytes (size_of r) x ++ rest
  pub in_range : IsInRange r x
  pub are_bytes : AreBytes rest

-- the bytes begin with the numbers of a table, which are in their ranges
pub record BeginsWithFields (rs : List Rule) (bytes xs rest : List ℕ) : Type 0 where
  pub is : bytes ≡ spelled rs xs ++ rest
  pub in_range : AreInRange rs xs
  pub are_bytes : AreBytes rest

abbrev judged : ℕ → ℕ → Field → ℕ × List ℕ → Result (ℕ × List ℕ) MsgRefused
judged low high name x = if nat_le low x.0 && nat_le x.0 high then Ok x else Err (refusals.Range name)

passed : (low high : ℕ) (name : Field) (x p : ℕ × List ℕ) → judged low high name x ≡ Ok p → (x ≡ p) × (low ≤ x.0) × (x.0 ≤ high)
passed low high name x p e = elim (cases_Bool (nat_le low x.0 && nat_le x.0 high)) [
  | inr t ↦ absurd (let f = rw t at e in cc)
  | inl t ↦
      let f : Ok x ≡ Ok p = rw t at e in
      let both = and_parts (nat_le low x.0) (nat_le x.0 high) t in
      (cc, grind (arith, nat_tests), grind (arith, nat_tests))
]

field_read : (r : Rule) (bytes : List ℕ) (p : ℕ × List ℕ) → AreBytes bytes → field_at r bytes ≡ Ok p → BeginsWithField r bytes p.0 p.1
unfolding field_at
field_read (ranged name size low high) bytes p are e =
    let s = then_ok (as_refusal refusals.Short (number_at size bytes)) (judged low high name) p e in
    let n = number_read size bytes s.0 are (as_refusal_ok refusals.Short (number_at size bytes) s.0 s.1) in
    let good = passed low high name s.0 p s.2 in
    let r = ranged name size low high in
    let here : BeginsWithField r bytes s.0.0 s.0.1 = record { is = n.spelled; in_range = (good.1, good.2); are_bytes = n.are_bytes } in
    subst (λ (q : ℕ × List ℕ). BeginsWithField r bytes q.0 q.1) good.0 here
field_read (free size) bytes p are e =
    let n = number_read size bytes p are (as_refusal_ok refusals.Short (number_at size bytes) p e) in
    record { is = n.spelled; in_range = n.fits; are_bytes = n.are_bytes }

joined : (r : Rule) (rs : List Rule) (bytes : List ℕ) (x : ℕ) (xs rest after : List ℕ) → BeginsWithField r bytes x rest → BeginsWithFields rs rest xs after
    → BeginsWithFields (r ∷ rs) bytes (x ∷ xs) after
joined r rs bytes x xs rest after first others = record {
  is = first.is ∙ ap (λ bs. big_bytes (size_of r) x ++ bs) others.is ∙ sym (append_assoc (big_bytes (size_of r) x) (spelled rs xs) after);
  in_range = (first.in_range, others.in_range);
  are_bytes = others.are_bytes;
}

same_pair : (rs : List Rule) (bytes : List ℕ) (p q : List ℕ × List ℕ) → p ≡ q → BeginsWithFields rs bytes p.0 p.1 → BeginsWithFields rs bytes q.0 q.1
same_pair rs bytes p q same is = subst (λ (z : List ℕ × List ℕ). BeginsWithFields rs bytes z.0 z.1) same is

pub fields_read : (rs : List Rule) (bytes : List ℕ) (p : List ℕ × List ℕ) → AreBytes bytes → fields_at rs bytes ≡ Ok p → BeginsWithFields rs bytes p.0 p.1
fields_read [] bytes p are e =
    let pair : ([], bytes) ≡ p = cc in
    same_pair [] bytes ([], bytes) p pair (record { is = refl; in_range = tt; are_bytes = are })
fields_read (r ∷ rs) bytes p are e =
    let s = then_ok (field_at r bytes) (λ x. fields_at rs x.1 >>= λ xs. Ok (x.0 ∷ xs.0, xs.1)) p e in
    let t = then_ok (fields_at rs s.0.1) (λ xs. Ok (s.0.0 ∷ xs.0, xs.1)) p s.2 in
    let first = field_read r bytes s.0 are s.1 in
    let others = fields_read rs s.0.1 t.0 first.are_bytes t.1 in
    let pair : (s.0.0 ∷ t.0.0, t.0.1) ≡ p = let f : Ok (s.0.0 ∷ t.0.0, t.0.1) ≡ Ok p = t.2 in cc in
    same_pair (r ∷ rs) bytes (s.0.0 ∷ t.0.0, t.0.1) p pair (joined r rs bytes s.0.0 t.0.0 s.0.1 t.0.1 first others)
