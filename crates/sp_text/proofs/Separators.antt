-- What is spelled holds no space and no newline, so it stands as one word of one line.
use Rattle.std.proofs.Common.{◌≡◌, ◌≢◌, ℕ, ◌<◌, ◌≤◌, ◌^◌, ◌==◌, true, not, List, [], ◌∷◌, slice_index, refl, arith}
use Rattle.std.specs.Prelude.{All, codes}
use Rattle.std.specs.List.{join_with_byte, list_all}
use Rattle.std.specs.Str.Parse.{AllDigits}
use Rattle.std.specs.Fmt.{decimal}
use Rattle.std.proofs.lemmas.Bool.{eqb-false, not-true}
use Rattle.std.proofs.lemmas.Fmt.{decimal_is_IsNumeral}
use Rattle.std.proofs.lemmas.List.Elements.{All-append, All-cons, All-head, All-nil, All-tail, All-weaker}
use Rattle.std.proofs.lemmas.List.Sums.{AllPass-from_list_all}
use Rattle.std.proofs.lemmas.Str.Parse.{digit_from_value}
use Rattle.hex.specs.Hex.{encode_lower, lower_digits}
use Rattle.sp_text.specs.Lines.{IsInOneLine}
use Rattle.sp_text.specs.Spelling.{IsOneWord, hex_word}
use Rattle.sp_text.proofs.Digits.{All-encode_lower, get_or_passes}
-- a number has at least one digit; `hex_word_nonempty` says the same of bytes
pub use Rattle.std.proofs.lemmas.Fmt.{decimal_nonempty}

-- no byte of a list is this one, if a look at all of them finds none
differs_from_test : (c : ℕ) (bytes : List ℕ) → list_all (λ b. not (b == c)) bytes ≡ true → All (λ b. b ≢ c) bytes
differs_from_test c bytes test =
    All-weaker (λ b. not (b == c) ≡ true) (λ b. b ≢ c) (λ b passes. eqb-false b c (not-true (b == c) passes)) bytes
    (AllPass-from_list_all (λ b. not (b == c)) bytes test)

-- a literal is one word: the test of it is `refl`
pub IsOneWord-from_test : (word : List ℕ) → list_all (λ b. not (b == 32)) word ≡ true → IsOneWord word
IsOneWord-from_test word test = differs_from_test 32 word test

-- and stands in one line: the test of it is `refl`
pub IsInOneLine-from_test : (bytes : List ℕ) → list_all (λ b. not (b == 10)) bytes ≡ true → IsInOneLine bytes
IsInOneLine-from_test bytes test = differs_from_test 10 bytes test

-- what holds of each code from 48 to 57 holds of each digit of a numeral
All-digits : (P : ℕ → Type 0) → ((b : ℕ) → 48 ≤ b → b ≤ 57 → P b) → (digits : List ℕ) → AllDigits 10 digits → All P digits
All-digits P each [] all = All-nil P
All-digits P each (b ∷ digits) all =
    let range = digit_from_value b all.0 in
    All-cons P b digits (each b range.0 range.1) (All-digits P each digits all.1)

-- a number is one word
pub IsOneWord-decimal : (n : ℕ) → n < 2 ^ 64 → IsOneWord (decimal n)
IsOneWord-decimal n small =
    All-digits (λ b. b ≢ 32) (λ b above below same. omega arith) (decimal n) (decimal_is_IsNumeral n small).0.1

-- and stands in one line
pub IsInOneLine-decimal : (n : ℕ) → n < 2 ^ 64 → IsInOneLine (decimal n)
IsInOneLine-decimal n small =
    All-digits (λ b. b ≢ 10) (λ b above below same. omega arith) (decimal n) (decimal_is_IsNumeral n small).0.1

-- no hexadecimal digit is this byte, if a look at all sixteen finds none
digit_differs : (c k : ℕ) → list_all (λ b. not (b == c)) lower_digits ≡ true → not (0 == c) ≡ true → slice_index lower_digits k ≢ c
digit_differs c k all default = eqb-false _ c (not-true _ (get_or_passes (λ b. not (b == c)) lower_digits k 0 all default))

-- digits in lower case are one word
pub IsOneWord-encode_lower : (bytes : List ℕ) → IsOneWord (encode_lower bytes)
IsOneWord-encode_lower bytes = All-encode_lower (λ b. b ≢ 32) (λ k. digit_differs 32 k refl refl) bytes

-- and stand in one line
pub IsInOneLine-encode_lower : (bytes : List ℕ) → IsInOneLine (encode_lower bytes)
IsInOneLine-encode_lower bytes = All-encode_lower (λ b. b ≢ 10) (λ k. digit_differs 10 k refl refl) bytes

-- the word of bytes is one word
pub IsOneWord-hex_word : (bytes : List ℕ) → IsOneWord (hex_word bytes)
IsOneWord-hex_word [] = IsOneWord-from_test (codes "-") refl
IsOneWord-hex_word (b ∷ bytes) = IsOneWord-encode_lower (b ∷ bytes)

-- and stands in one line
pub IsInOneLine-hex_word : (bytes : List ℕ) → IsInOneLine (hex_word bytes)
IsInOneLine-hex_word [] = IsInOneLine-from_test (codes "-") refl
IsInOneLine-hex_word (b ∷ bytes) = IsInOneLine-encode_lower (b ∷ bytes)

-- words that stand in one line each stand in one together
pub IsInOneLine-join : (words : List (List ℕ)) → All IsInOneLine words → IsInOneLine (join_with_byte 32 words)
IsInOneLine-join [] each = All-nil (λ b. b ≢ 10)
IsInOneLine-join (w ∷ []) each = All-head IsInOneLine w [] each
IsInOneLine-join (w ∷ v ∷ words) each =
    let rest = IsInOneLine-join (v ∷ words) (All-tail IsInOneLine w (v ∷ words) each) in
    All-append (λ b. b ≢ 10) w _ (All-head IsInOneLine w (v ∷ words) each)
    (All-cons (λ b. b ≢ 10) 32 (join_with_byte 32 (v ∷ words)) (λ same. omega arith) rest)
