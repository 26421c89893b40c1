-- A signature is cut in one way into that of the upper tree, the lower tree's key, and that of the lower tree.
use Rattle.std.proofs.Common.{◌≡◌, ℕ, ◌+◌, ◌≤◌, List, ◌++◌, length, take, drop, subst, sym, ◌∙◌, ap, arith, inl, inr}
use Rattle.std.proofs.lemmas.List.{append_assoc, length-append, take_at, drop_at, length-drop, take-append-drop, drop-drop}
use Rattle.sp_ots.specs.declared.param.OtsParam.{OtsParam}
use Rattle.sp_lms.specs.declared.param.LmsParam.{LmsParam}
use Rattle.sp_lms.specs.Parameters.{signature_len}
use Rattle.sp_lms.specs.Validity as tree
use Rattle.sp_lms.specs.PublicKey.{IsReadFrom}
use Rattle.sp_lms.specs.declared.public_key.PublicKey.{PublicKey}
use Rattle.sp_lms.proofs.Types.{same_types}
use Rattle.sp_hss.specs.Validity.{IsSignedThrough, IsValid}

-- under a key that was read, what is valid is valid under its bytes
pub read_valid : (key : PublicKey) (public message signature : List ℕ) → IsReadFrom public key
    → (tree.IsValidUnder key.lms key.ots key.id key.root message signature → tree.IsValid public message signature)
    × (tree.IsValid public message signature → tree.IsValidUnder key.lms key.ots key.id key.root message signature)
read_valid key public message signature read = (
  λ under. (key.lms, key.ots, read.types, rw (read.id, read.root) at under),
  λ valid.
      let same = same_types valid.0 key.lms valid.1 key.ots public valid.2 read.types in
      let P : LmsParam → Type 0 = λ l. tree.IsValidUnder l valid.1 key.id key.root message signature in
      let Q : OtsParam → Type 0 = λ o. tree.IsValidUnder key.lms o key.id key.root message signature in
      subst Q same.1 (subst P same.0 (rw (read.id, read.root) valid.3)),
)

-- the three parts of a signature, by their places
pub record IsCutAt (place : ℕ) (upper lower_key lower signature : List ℕ) : Type 0 where
  pub long : place + 56 ≤ length signature
  pub upper_is : upper ≡ take place signature
  pub lower_key_is : lower_key ≡ take 56 (drop place signature)
  pub lower_is : lower ≡ drop (place + 56) signature

pub cut_at : (upper lower_key lower : List ℕ) (place : ℕ) → length upper ≡ place → length lower_key ≡ 56
    → IsCutAt place upper lower_key lower (upper ++ lower_key ++ lower)
cut_at upper lower_key lower place first second =
    let whole : upper ++ lower_key ++ lower ≡ upper ++ (lower_key ++ lower) = append_assoc upper lower_key lower in
    let both : length (upper ++ lower_key) ≡ place + 56 = omega (arith, length-append upper lower_key) in
    record {
      long = omega (arith, length-append (upper ++ lower_key) lower, both);
      upper_is = sym (ap (take place) whole ∙ take_at upper (lower_key ++ lower) place first);
      lower_key_is =
          sym (ap (λ (xs : List ℕ). take 56 (drop place xs)) whole ∙ ap (take 56) (drop_at upper (lower_key ++ lower) place first)
          ∙ take_at lower_key lower 56 second);
      lower_is = sym (drop_at (upper ++ lower_key) lower (place + 56) both);
    }

-- where a signature has these parts, they stand at the place that the upper key says
pub parts_stand : (lms : LmsParam) (one_time : OtsParam) (upper lower_key lower upper_key message signature : List ℕ) → tree.HasTypes lms one_time upper_key
    → IsSignedThrough upper lower_key lower upper_key message signature → IsCutAt (signature_len lms one_time) upper lower_key lower signature
parts_stand lms one_time upper lower_key lower upper_key message signature types signed =
    let own = signed.upper_valid in
    let same = same_types own.0 lms own.1 one_time upper_key own.2 types in
    let long : length upper ≡ signature_len lms one_time = own.3.length_is ∙ (λ i. signature_len (same.0 i) (same.1 i)) in
    let P : List ℕ → Type 0 = λ xs. IsCutAt (signature_len lms one_time) upper lower_key lower xs in
    subst P (sym signed.parts) (cut_at upper lower_key lower (signature_len lms one_time) long signed.lower_valid.2.length_is)

-- a signature is put together of its parts
pub put_together : (signature : List ℕ) (place : ℕ) → signature ≡ take place signature ++ take 56 (drop place signature) ++ drop (place + 56) signature
put_together signature place =
    sym (append_assoc (take place signature) (take 56 (drop place signature)) (drop (place + 56) signature)
    ∙ ap (λ (xs : List ℕ). take place signature ++ (take 56 (drop place signature) ++ xs)) (sym (drop-drop 56 place signature))
    ∙ ap (λ (xs : List ℕ). take place signature ++ xs) (take-append-drop 56 (drop place signature)) ∙ take-append-drop place signature)

-- so the parts are those at the places
pub signed_at : (lms : LmsParam) (one_time : OtsParam) (upper lower_key lower upper_key message signature : List ℕ) → tree.HasTypes lms one_time upper_key
    → IsSignedThrough upper lower_key lower upper_key message signature
    → (let place = signature_len lms one_time in
    IsSignedThrough (take place signature) (take 56 (drop place signature)) (drop (place + 56) signature) upper_key message signature)
signed_at lms one_time upper lower_key lower upper_key message signature types signed =
    let cut = parts_stand lms one_time upper lower_key lower upper_key message signature types signed in
    record {
      parts = put_together signature (signature_len lms one_time);
      upper_valid = rw (← cut.lower_key_is, ← cut.upper_is) signed.upper_valid;
      lower_valid = rw (← cut.lower_key_is, ← cut.lower_is) signed.lower_valid;
    }

-- a key and a signature that are valid have the numbers in front
pub both_long : (public message signature : List ℕ) → IsValid public message signature → (4 ≤ length public) × (4 ≤ length signature)
both_long public message signature valid = elim valid [
  | inl one ↦
      (omega (arith, one.signed.2.length_is, length-drop 4 public), omega (arith, one.signed.3.length_is, length-drop 4 signature))
  | inr two ↦
      let signed = two.signed.3 in
      let long : length (drop 4 signature) ≡ length two.signed.0 + length two.signed.1 + length two.signed.2 =
      ap length signed.parts ∙ length-append (two.signed.0 ++ two.signed.1) two.signed.2
      ∙ ap (λ (n : ℕ). n + length two.signed.2) (length-append two.signed.0 two.signed.1) in
      (omega (arith, signed.upper_valid.2.length_is, length-drop 4 public), omega (arith, long, signed.lower_valid.2.length_is, length-drop 4 signature))
]
