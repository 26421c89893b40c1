-- Lower-case digits of so many bytes are decoded to as many.
use Rattle.std.proofs.Common.{◌≡◌, ℕ, ◌*◌, ◌/◌, ◌%◌, ◌==◌, ◌&&◌, length, true, false, List, [], ◌∷◌, Result, Ok, Err, IsOk, MatchResult, refl, arith}
use Rattle.std.proofs.lemmas.Bool.{and_parts}
use Rattle.std.proofs.lemmas.Bool.Decides.{nat_tests}
use Rattle.std.proofs.lemmas.List.Sums.{AllPass-from_list_all}
use Rattle.std.specs.List.{list_all}
use Rattle.hex.specs.Hex.{decode_of, decode_sized, is_hex_digit}
use Rattle.hex.specs.declared.error.FromHexError.{FromHexError}
use Rattle.hex.proofs.HexLemmas.{IsOk-decode_sized}
use Rattle.sp_config.specs.Values.{are_digits, bytes_of, bytes_or_none, is_digit}

lower_is_hex : (c : ℕ) → is_digit c ≡ true → is_hex_digit c ≡ true
lower_is_hex c h = grind (arith, nat_tests)

all_hex : (text : List ℕ) → list_all is_digit text ≡ true → list_all is_hex_digit text ≡ true
all_hex [] h = refl
all_hex (c ∷ text) h = let (here, more) = and_parts (is_digit c) (list_all is_digit text) h in rw (lower_is_hex c here, all_hex text more)

-- what a decoding that passed gave
decoded : (r : Result (List ℕ) FromHexError) (R : List ℕ → Type 0) (E : FromHexError → Type 0) → IsOk r → MatchResult r R E → R (bytes_or_none r)
decoded (Ok bytes) R E h m = m
decoded (Err e) R E h m = absurd (cc)

pub filled : (text : List ℕ) (n : ℕ) (R : List ℕ → Type 0) (E : FromHexError → Type 0) → (are_digits text && (length text / 2 == n)) ≡ true
    → MatchResult (decode_sized text n) R E → R (bytes_of text)
filled text n R E h m =
    let (digits, count) = and_parts (are_digits text) (length text / 2 == n) h in
    let (lower, even) = and_parts (list_all is_digit text) (length text % 2 == 0) digits in
    let odd : (length text % 2 == 1) ≡ false = grind (arith, nat_tests) in
    let twice : length text ≡ 2 * n = grind (arith, nat_tests) in
    let same : decode_sized text n ≡ decode_of text = rw (odd, count) refl in
    let passes : IsOk (decode_sized text n) = (IsOk-decode_sized text n).1 (twice, AllPass-from_list_all is_hex_digit text (all_hex text lower)) in
    decoded (decode_of text) R E (rw same at passes) (rw same at m)
