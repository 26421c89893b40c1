-- Words and the values that they spell: each value has one word, and each word at most one value.
use Rattle.std.proofs.Common.{◌≡◌, ◌≢◌, ℕ, ◌<◌, ◌^◌, ◌&&◌, Bool, true, false, inl, inr, List, [], ◌∷◌, length, Result, Ok, Err, Option, Some, None, refl, sym}
use Rattle.std.proofs.Common.{ap, subst, arith, if◌then◌else◌}
use Rattle.std.specs.Prelude.{IfOk, IfSome, IfNone, nat_lt, codes}
use Rattle.std.specs.Cmp.Lexicographic.{bytes_decides}
use Rattle.std.specs.Fmt.{decimal}
use Rattle.std.specs.Str.Parse.{digits_value}
use Rattle.std.proofs.lemmas.Bool.{cases_Bool, cases_lt}
use Rattle.std.proofs.lemmas.List.{get_or_past}
use Rattle.std.proofs.lemmas.List.Elements.{All-nil}
use Rattle.std.proofs.lemmas.Bool.Decides.{nat_tests}
use Rattle.std.proofs.lemmas.Fmt.{decimal_is_IsNumeral}
use Rattle.hex.specs.Hex.{IsBytes, decode_of, encode_lower, encode_with}
use Rattle.hex.specs.declared.error.FromHexError.{FromHexError}
use Rattle.hex.proofs.HexLemmas.{decode_of-encode_lower}
use Rattle.sp_base.specs.Spelling.{AreBytes}
use Rattle.sp_text.specs.Spelling.{Word, hex_word}
use Rattle.sp_text.proofs.Digits.{read_are_bytes as decoded_are_bytes}
use Rattle.sp_base.specs.declared.memory.Memory.{Memory}
use Rattle.sp_lines.specs.Cells.{bytes_of, if_bytes, number_of, same}
use Rattle.sp_lines.specs.Answers.{Found}

-- a word is the same as itself
pub same_self : (w : Word) → same w w ≡ true
same_self w = (bytes_decides w w).1 refl

-- words that are told as the same are equal
pub same_words : (a b : Word) → same a b ≡ true → a ≡ b
same_words a b e = (bytes_decides a b).0 e

-- ---- numbers

pub number_back : (n : ℕ) → n < 2 ^ 64 → number_of (decimal n) ≡ Some n
unfolding number_of
number_back n small =
    let value : digits_value 10 (decimal n) ≡ n = (decimal_is_IsNumeral n small).1 in
    let within : nat_lt n (2 ^ 64) ≡ true = grind (arith, nat_tests, small) in
    let itself : same (decimal n) (decimal n) ≡ true = same_self (decimal n) in
    rw (value, itself, within) refl

if_number_read : (t u : Bool) (m n : ℕ) (w : Word) → same (decimal m) w ≡ t → nat_lt m (2 ^ 64) ≡ u → (if t && u then Some m else None) ≡ Some n
    → (w ≡ decimal n) × (n < 2 ^ 64)
if_number_read true true m n w is small e =
    let f : Some m ≡ Some n = e in
    let g : m ≡ n = cc in
    let spelled : w ≡ decimal m = sym (same_words (decimal m) w is) in
    let below : m < 2 ^ 64 = grind (arith, nat_tests, small) in
    (rw g at spelled, rw g at below)
if_number_read true false m n w is small e = absurd (cc)
if_number_read false u m n w is small e = absurd (cc)

pub number_read : (w : Word) (n : ℕ) → number_of w ≡ Some n → (w ≡ decimal n) × (n < 2 ^ 64)
unfolding number_of
number_read w n read = if_number_read _ _ (digits_value 10 w) n w refl refl read

no_number : (w : Word) (o : Option ℕ) → number_of w ≡ o → ((n : ℕ) → n < 2 ^ 64 → w ≢ decimal n) → None ≡ number_of w
no_number w None is none = sym is
no_number w (Some n) is none = let read = number_read w n is in absurd (none n read.1 read.0)

-- what a search for a number answers is the number of the word
pub number_is : (w : Word) (r : Option ℕ) → IfSome r (λ n. w ≡ decimal n) → IfSome r (λ n. n < 2 ^ 64) → IfNone r ((n : ℕ) → n < 2 ^ 64 → w ≢ decimal n)
    → r ≡ number_of w
number_is w (Some n) found small none = sym (rw found (number_back n small))
number_is w None found small none = no_number w (number_of w) refl none

-- ---- bytes

unlike : (a b : Word) → a ≢ b → same a b ≡ false
unlike a b apart =
    elim (cases_Bool (same a b)) [
      | inl t ↦ absurd (apart (same_words a b t))
      | inr f ↦ f
    ]

are_bytes : (bs : List ℕ) → AreBytes bs → IsBytes bs
are_bytes bs each i =
    elim (cases_lt i (length bs)) [
      | inl inside ↦ each i 0 inside
      | inr past ↦ rw (get_or_past bs i 0 past) (omega arith)
    ]

no_dash : (b : ℕ) (bs : List ℕ) → encode_lower (b ∷ bs) ≢ codes "-"
unfolding encode_with
no_dash b bs e = let lengths = ap length e in absurd (omega arith)

pub bytes_back : (bs : List ℕ) → AreBytes bs → bytes_of (hex_word bs) ≡ Some bs
unfolding bytes_of
bytes_back [] are = refl
bytes_back (b ∷ bs) are =
    let apart : same (encode_lower (b ∷ bs)) (codes "-") ≡ false = unlike (encode_lower (b ∷ bs)) (codes "-") (no_dash b bs) in
    let decoded : decode_of (encode_lower (b ∷ bs)) ≡ Ok (b ∷ bs) = decode_of-encode_lower (b ∷ bs) (are_bytes (b ∷ bs) are) in
    let itself : same (encode_lower (b ∷ bs)) (encode_lower (b ∷ bs)) ≡ true = same_self (encode_lower (b ∷ bs)) in
    rw (apart, decoded, itself) refl

if_bytes_read : (t : Bool) (r : Result (List ℕ) FromHexError) (bs : List ℕ) (w : Word) → decode_of w ≡ r → if_bytes r w ≡ Some bs
    → (w ≡ hex_word bs) × AreBytes bs
if_bytes_read t (Ok cs) bs w decoded read =
    elim (cases_Bool (same (hex_word cs) w)) [
      | inr f ↦ absurd (let g = rw f at read in cc)
      | inl u ↦
          let g : Some cs ≡ Some bs = rw u at read in
          let is : cs ≡ bs = cc in
          let spelled : w ≡ hex_word cs = sym (same_words (hex_word cs) w u) in
          (subst (λ (z : List ℕ). w ≡ hex_word z) is spelled, subst AreBytes is (decoded_are_bytes w cs decoded))
    ]
if_bytes_read t (Err z) bs w decoded e = absurd (cc)

pub bytes_read : (w : Word) (bs : List ℕ) → bytes_of w ≡ Some bs → (w ≡ hex_word bs) × AreBytes bs
unfolding bytes_of
bytes_read w bs read =
    elim (cases_Bool (same w (codes "-"))) [
      | inl t ↦
          let g : Some [] ≡ Some bs = rw t at read in
          let is : [] ≡ bs = cc in
          let spelled : w ≡ hex_word [] = same_words w (codes "-") t in
          (subst (λ (z : List ℕ). w ≡ hex_word z) is spelled, subst AreBytes is (All-nil (λ b. b < 256)))
      | inr f ↦ if_bytes_read true (decode_of w) bs w refl (rw f at read)
    ]

no_bytes : (w : Word) (o : Option (List ℕ)) → bytes_of w ≡ o → ((bs : List ℕ) → AreBytes bs → w ≢ hex_word bs) → None ≡ bytes_of w
no_bytes w None is none = sym is
no_bytes w (Some bs) is none = let read = bytes_read w bs is in absurd (none bs read.1 read.0)

-- what a search for bytes answers are the bytes of the word
pub bytes_are : (w : Word) (r : Option (List ℕ)) → IfSome r (λ bs. w ≡ hex_word bs) → IfSome r AreBytes
    → IfNone r ((bs : List ℕ) → AreBytes bs → w ≢ hex_word bs) → r ≡ bytes_of w
bytes_are w (Some bs) found are none = sym (rw found (bytes_back bs are))
bytes_are w None found are none = no_bytes w (bytes_of w) refl none

pub found_bytes : (w : Word) (r : Result (Option (List ℕ)) Memory) → IfOk r (λ o. IfSome o (λ bs. w ≡ hex_word bs)) → IfOk r (λ o. IfSome o AreBytes)
    → IfOk r (λ o. IfNone o ((bs : List ℕ) → AreBytes bs → w ≢ hex_word bs)) → Found r (bytes_of w)
found_bytes w (Ok o) found are none = bytes_are w o found are none
found_bytes w (Err z) found are none = tt
