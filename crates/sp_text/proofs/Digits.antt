-- The sixteen digits in lower case, and what a text of them reads as.
use Rattle.std.proofs.Common.{◌≡◌, ℕ, zero, suc, ◌+◌, ◌*◌, ◌/◌, ◌%◌, ◌<◌, ◌≤◌, ◌⊎◌, Bool, true, false, not, List, [], ◌∷◌, length, get_or, slice_index, take}
use Rattle.std.proofs.Common.{append_assoc, ◌++◌, Option, Some, None, Result, Ok, Err, refl, sym, ap, ◌∙◌, arith}
use Rattle.std.specs.Prelude.{All}
use Rattle.std.specs.Char.{is_ascii_uppercase}
use Rattle.std.specs.List.{list_all, list_any}
use Rattle.std.specs.Result.{result_unwrap_or}
use Rattle.std.proofs.lemmas.Bool.{and_parts, not-true, or_parts}
use Rattle.std.proofs.lemmas.List.{take_more}
use Rattle.std.proofs.lemmas.List.Elements.{All-cons, All-nil}
use Rattle.sp_base.specs.Spelling.{AreBytes}
use Rattle.sp_text.specs.Spelling.{is_digit}
use Rattle.std.proofs.lemmas.Bool.Decides.{nat_tests}
use Rattle.hex.specs.Hex.{decode_of, decode_pairs, digit_or_error, encode_lower, encode_with, hex_digit_value, lower_digits, ◌>>=◌}
use Rattle.hex.specs.declared.error.FromHexError.{FromHexError}
use Rattle.hex.proofs.HexLemmas.{IsDigits-lower_digits, decode_of-even, decode_of-ok}

-- a test that each element passes, and the default too, holds of what is read at any place
pub get_or_passes : (test : ℕ → Bool) (xs : List ℕ) (k d : ℕ) → list_all test xs ≡ true → test d ≡ true → test (get_or xs k d) ≡ true
get_or_passes test [] k d all default = default
get_or_passes test (x ∷ xs) zero d all default = (and_parts _ _ all).0
get_or_passes test (x ∷ xs) (suc k) d all default = get_or_passes test xs k d (and_parts _ _ all).1 default

-- what holds of each digit holds of each byte of a text in lower case
pub All-encode_lower : (P : ℕ → Type 0) → ((k : ℕ) → P (slice_index lower_digits k)) → (bytes : List ℕ) → All P (encode_lower bytes)
unfolding encode_with
All-encode_lower P each [] = All-nil P
All-encode_lower P each (b ∷ bytes) =
    let low = slice_index lower_digits (b % 16) in
    All-cons P _ (low ∷ encode_lower bytes) (each (b / 16)) (All-cons P low (encode_lower bytes) (each (b % 16)) (All-encode_lower P each bytes))

-- texts in lower case are joined as their bytes are
pub encode_lower-append : (front back : List ℕ) → encode_lower (front ++ back) ≡ encode_lower front ++ encode_lower back
unfolding encode_with
encode_lower-append [] back = refl
encode_lower-append (b ∷ front) back = rw (encode_lower-append front back) refl

-- no digit is a capital
no_capital_at : (k : ℕ) → is_ascii_uppercase (slice_index lower_digits k) ≡ false
no_capital_at k = not-true _ (get_or_passes (λ b. not (is_ascii_uppercase b)) lower_digits k 0 refl refl)

-- a text in lower case has no capital
pub list_any-encode_lower : (bytes : List ℕ) → list_any is_ascii_uppercase (encode_lower bytes) ≡ false
unfolding encode_with
list_any-encode_lower [] = refl
list_any-encode_lower (b ∷ bytes) = rw (no_capital_at (b / 16), no_capital_at (b % 16)) (list_any-encode_lower bytes)

-- a digit that is no capital stands among the ten or among the six
digit_places : (c v : ℕ) → hex_digit_value c ≡ Some v → is_ascii_uppercase c ≡ false → ((v < 10) × (c ≡ v + 48)) ⊎ ((10 ≤ v) × (v < 16) × (c ≡ v + 87))
digit_places c v reads small = grind arith

-- two digits of one value, neither a capital, are the same
same_digit : (a b v : ℕ) → hex_digit_value a ≡ Some v → hex_digit_value b ≡ Some v → is_ascii_uppercase a ≡ false → is_ascii_uppercase b ≡ false → a ≡ b
same_digit a b v reads_a reads_b small_a small_b =
    let first = digit_places a v reads_a small_a in
    let second = digit_places b v reads_b small_b in
    omega arith

-- a digit's value is below 16
value_is_small : (c v : ℕ) → hex_digit_value c ≡ Some v → v < 16
value_is_small c v reads = grind arith

-- a digit that is no capital is the one of its value
digit_again : (c v : ℕ) → hex_digit_value c ≡ Some v → is_ascii_uppercase c ≡ false → slice_index lower_digits v ≡ c
digit_again c v reads small =
    same_digit _ c v (IsDigits-lower_digits v (value_is_small c v reads)) reads (no_capital_at v) small

-- what two digits and the rest read as
pub record Read (high low : Option ℕ) (rest : Result (List ℕ) FromHexError) (bytes : List ℕ) : Type 0 where
  pub first : ℕ
  pub second : ℕ
  pub others : List ℕ
  pub high_is : high ≡ Some first
  pub low_is : low ≡ Some second
  pub rest_is : rest ≡ Ok others
  pub whole : bytes ≡ (first * 16 + second) ∷ others

-- they read only where each of them does
read_parts : (a b i : ℕ) (high low : Option ℕ) (rest : Result (List ℕ) FromHexError) (bytes : List ℕ)
    → ((digit_or_error a i high >>= (λ h. digit_or_error b (i + 1) low >>= (λ l. Ok (h * 16 + l)))) >>= (λ byte. rest >>= (λ others. Ok (byte ∷ others))))
    ≡ Ok bytes
    → Read high low rest bytes
read_parts a b i None low rest bytes h = cc h
read_parts a b i (Some x) None rest bytes h = cc h
read_parts a b i (Some x) (Some y) (Err e) bytes h = cc h
read_parts a b i (Some x) (Some y) (Ok others) bytes h = record {
  first = x;
  second = y;
  others = others;
  high_is = refl;
  low_is = refl;
  rest_is = refl;
  whole = ap (λ (r : Result (List ℕ) FromHexError). result_unwrap_or r []) (sym h);
}

-- a byte is spelled by the digits of its two halves
encode_lower-pair : (high low : ℕ) (bytes : List ℕ) → low < 16
    → encode_lower ((high * 16 + low) ∷ bytes) ≡ slice_index lower_digits high ∷ slice_index lower_digits low ∷ encode_lower bytes
unfolding encode_with
encode_lower-pair high low bytes small =
    let above : (high * 16 + low) / 16 ≡ high = omega arith in
    let below : (high * 16 + low) % 16 ≡ low = omega arith in
    rw (above, below) refl

-- two digits with no capital, and the text of the rest, are the text of what they read as
pair_again : (a b : ℕ) (text : List ℕ) (rest : Result (List ℕ) FromHexError) (bytes : List ℕ)
    → Read (hex_digit_value a) (hex_digit_value b) rest bytes → list_any is_ascii_uppercase (a ∷ b ∷ text) ≡ false
    → ((others : List ℕ) → rest ≡ Ok others → text ≡ encode_lower others) → a ∷ b ∷ text ≡ encode_lower bytes
pair_again a b text rest bytes read small again =
    let head = or_parts (is_ascii_uppercase a) (list_any is_ascii_uppercase (b ∷ text)) small in
    let tail = or_parts (is_ascii_uppercase b) (list_any is_ascii_uppercase text) head.1 in
    let high = digit_again a read.first read.high_is head.0 in
    let low = digit_again b read.second read.low_is tail.0 in
    rw (
      read.whole,
      encode_lower-pair read.first read.second read.others (value_is_small b read.second read.low_is),
      high,
      low,
      ← again read.others read.rest_is,
    ) refl

-- pairs of digits with no capital are the text of the bytes that they read as
pairs_again : (i : ℕ) (text bytes : List ℕ) → decode_pairs i text ≡ Ok bytes → list_any is_ascii_uppercase text ≡ false → text ≡ encode_lower bytes
unfolding decode_pairs encode_with
pairs_again i [] bytes reads small = rw (← (ap (λ (r : Result (List ℕ) FromHexError). result_unwrap_or r []) reads)) refl
pairs_again i (a ∷ []) bytes reads small = cc reads
pairs_again i (a ∷ b ∷ rest) bytes reads small =
    let tail = or_parts (is_ascii_uppercase b) (list_any is_ascii_uppercase rest)
    (or_parts (is_ascii_uppercase a) (list_any is_ascii_uppercase (b ∷ rest)) small).1 in
    pair_again a b rest (decode_pairs (i + 2) rest) bytes
    (read_parts a b i (hex_digit_value a) (hex_digit_value b) (decode_pairs (i + 2) rest) bytes reads) small
    (λ others read. pairs_again (i + 2) rest others read tail.1)

-- a text with no capital is the text of the bytes that it reads as
pub text_again : (text bytes : List ℕ) → decode_of text ≡ Ok bytes → list_any is_ascii_uppercase text ≡ false → text ≡ encode_lower bytes
text_again text bytes reads small =
    let even = (decode_of-ok text bytes reads).0 in
    pairs_again 0 text bytes (sym (decode_of-even text even) ∙ reads) small

-- what pairs of digits read as are bytes
pairs_are_bytes : (i : ℕ) (text bytes : List ℕ) → decode_pairs i text ≡ Ok bytes → All (λ b. b < 256) bytes
unfolding decode_pairs
pairs_are_bytes i [] bytes reads = rw (← (ap (λ (r : Result (List ℕ) FromHexError). result_unwrap_or r []) reads)) (All-nil (λ b. b < 256))
pairs_are_bytes i (a ∷ []) bytes reads = cc reads
pairs_are_bytes i (a ∷ b ∷ rest) bytes reads =
    let read = read_parts a b i (hex_digit_value a) (hex_digit_value b) (decode_pairs (i + 2) rest) bytes reads in
    let high = value_is_small a read.first read.high_is in
    let low = value_is_small b read.second read.low_is in
    rw read.whole (All-cons (λ b. b < 256) (read.first * 16 + read.second) read.others (omega arith) (pairs_are_bytes (i + 2) rest read.others read.rest_is))

-- what a text reads as are bytes
pub read_are_bytes : (text bytes : List ℕ) → decode_of text ≡ Ok bytes → All (λ b. b < 256) bytes
read_are_bytes text bytes reads =
    pairs_are_bytes 0 text bytes (sym (decode_of-even text (decode_of-ok text bytes reads).0) ∙ reads)

-- ---- the sixteen digits alone

digit_there : (k : ℕ) → k < 16 → is_digit (slice_index lower_digits k) ≡ true
digit_there k small =
    let places = digit_places (slice_index lower_digits k) k (IsDigits-lower_digits k small) (no_capital_at k) in
    grind (arith, nat_tests, places)

-- a text in lower case is of digits
pub digits_spelled : (bytes : List ℕ) → AreBytes bytes → list_all is_digit (encode_lower bytes) ≡ true
unfolding encode_with
digits_spelled [] are = refl
digits_spelled (b ∷ bytes) are =
    let first : b < 256 = are 0 0 (omega arith) in
    rw (digit_there (b / 16) (omega arith), digit_there (b % 16) (omega arith)) (digits_spelled bytes (λ k d inside. are (suc k) d (omega arith)))

-- no pair is read yet
pub nothing_read : (out : List ℕ) → out ≡ [] → encode_lower out ≡ []
unfolding encode_with
nothing_read out none = rw none refl

-- one pair of digits more
pub pair_more : (digits out after : List ℕ) (place high low : ℕ) → 2 * place + 1 < length digits → encode_lower out ≡ take (2 * place) digits
    → slice_index lower_digits high ≡ get_or digits (2 * place) 0 → slice_index lower_digits low ≡ get_or digits (2 * place + 1) 0 → low < 16
    → after ≡ out ++ (high * 16 + low) ∷ [] → encode_lower after ≡ take (2 * (place + 1)) digits
unfolding encode_with
pair_more digits out after place high low inside so_far first second small more =
    let twice : 2 * (place + 1) ≡ 2 * place + 1 + 1 = omega arith in
    rw (
      more,
      encode_lower-append,
      so_far,
      encode_lower-pair high low [] small,
      first,
      second,
      twice,
      take_more digits (2 * place + 1) 0 inside,
      take_more digits (2 * place) 0 (omega arith),
      append_assoc,
    ) refl
