-- Digits that are written into room for them, two for each byte.
use Rattle.std.proofs.Common.{◌≡◌, ℕ, ◌+◌, ◌*◌, ◌/◌, ◌%◌, ◌<◌, true, inl, inr, List, [], ◌∷◌, ◌++◌, length, nat_lt, take, slice_index, refl, sym, ap, ◌∙◌}
use Rattle.std.proofs.Common.{arith, append-nil, append_assoc}
use Rattle.std.specs.List.{slice_set}
use Rattle.std.specs.Str.{IsAscii}
use Rattle.std.proofs.lemmas.Bool.{cases_lt}
use Rattle.std.proofs.lemmas.Bool.Decides.{nat_tests}
use Rattle.std.proofs.lemmas.List.{get_or_past, length-set, take_more, take_more_set}
use Rattle.hex.specs.Hex.{encode_lower, encode_with, lower_digits}
use Rattle.sp_text.specs.Spelling.{hex_word}
use Rattle.sp_text.proofs.Digits.{All-encode_lower, encode_lower-append, get_or_passes}

-- no byte, no digit
pub nothing_spelled : [] ≡ encode_lower []
unfolding encode_with
nothing_spelled = refl

-- a byte is spelled by two
one_spelled : (b : ℕ) → encode_lower (b ∷ []) ≡ slice_index lower_digits (b / 16) ∷ slice_index lower_digits (b % 16) ∷ []
unfolding encode_with
one_spelled b = refl

-- the digits of one byte more are written
pub pair_spelled : (digits piece : List ℕ) (i high low : ℕ) → 2 * i + 1 < length digits → i < length piece
    → take (2 * i) digits ≡ encode_lower (take i piece)
    → high ≡ slice_index lower_digits (slice_index piece i / 16) → low ≡ slice_index lower_digits (slice_index piece i % 16)
    → take (2 * (i + 1)) (slice_set (slice_set digits (2 * i) high) (2 * i + 1) low) ≡ encode_lower (take (i + 1) piece)
pair_spelled digits piece i high low room inside so_far high_is low_is =
    let first = slice_set digits (2 * i) high in
    let next : 2 * (i + 1) ≡ 2 * i + 1 + 1 = omega arith in
    let one : take (2 * i + 1) first ≡ take (2 * i) digits ++ high ∷ [] = take_more_set digits (2 * i) high (omega (arith, room)) in
    let two : take (2 * i + 1 + 1) (slice_set first (2 * i + 1) low) ≡ take (2 * i + 1) first ++ low ∷ [] =
    take_more_set first (2 * i + 1) low (omega (arith, room, length-set digits (2 * i) high)) in
    let spelled : encode_lower (take (i + 1) piece) ≡ encode_lower (take i piece) ++ high ∷ low ∷ [] =
    ap encode_lower (take_more piece i 0 inside) ∙ encode_lower-append (take i piece) (slice_index piece i ∷ [])
    ∙ ap (λ (d : List ℕ). encode_lower (take i piece) ++ d) (one_spelled (slice_index piece i) ∙ rw (high_is, low_is) refl) in
    ap (λ (n : ℕ). take n (slice_set first (2 * i + 1) low)) next ∙ two ∙ ap (λ (d : List ℕ). d ++ low ∷ []) (one ∙ ap (λ (d : List ℕ). d ++ high ∷ []) so_far)
    ∙ append_assoc (encode_lower (take i piece)) (high ∷ []) (low ∷ []) ∙ sym spelled

-- a digit is a plain character
digit_plain : (k : ℕ) → slice_index lower_digits k < 128
digit_plain k = below (slice_index lower_digits k) (get_or_passes (λ b. nat_lt b 128) lower_digits k 0 refl refl)
  where
    below : (b : ℕ) → nat_lt b 128 ≡ true → b < 128
    below b h = grind (arith, nat_tests)

pub spelled_plain : (bytes : List ℕ) → IsAscii (encode_lower bytes)
spelled_plain bytes i =
    elim (cases_lt i (length (encode_lower bytes))) [
      | inl inside ↦ All-encode_lower (λ b. b < 128) digit_plain bytes i 0 inside
      | inr past ↦ rw (get_or_past (encode_lower bytes) i 0 past) (omega arith)
    ]

-- one piece more is written, and the rest is left
pub piece_written : (before out after all piece rest : List ℕ) → all ≡ piece ++ rest → after ≡ out ++ encode_lower piece
    → out ++ encode_lower all ≡ before → after ++ encode_lower rest ≡ before
piece_written before out after all piece rest parts more so_far =
    ap (λ (t : List ℕ). t ++ encode_lower rest) more ∙ append_assoc out (encode_lower piece) (encode_lower rest)
    ∙ ap (λ (t : List ℕ). out ++ t) (sym (encode_lower-append piece rest) ∙ ap encode_lower (sym parts)) ∙ so_far

-- nothing is left
pub all_written : (before out rest bytes : List ℕ) → length rest ≡ 0 → 0 < length bytes → out ++ encode_lower rest ≡ before ++ encode_lower bytes
    → out ≡ before ++ hex_word bytes
all_written before out [] [] none full written = absurd (omega arith)
all_written before out [] (b ∷ bytes) none full written = sym (append-nil out) ∙ ap (λ (t : List ℕ). out ++ t) nothing_spelled ∙ written
all_written before out (r ∷ rest) bytes none full written = absurd (omega arith)
