-- Decimal words: which are numbers, and what stands in them.
use Rattle.std.proofs.Common.{◌≡◌, ◌≢◌, ℕ, ◌<◌, ◌^◌, inl, inr, List, [], ◌∷◌, length, get_or, Result, Ok, Err, sym, arith, lit<}
use Rattle.std.specs.Prelude.{IfSome, IfNone}
use Rattle.std.specs.Result.{result_ok}
use Rattle.std.specs.Str.{IsUtf8}
use Rattle.std.specs.Str.Parse.{AllDigits, digits_value, ParsesUnsigned}
use Rattle.std.specs.Fmt.{decimal}
use Rattle.std.proofs.lemmas.Bool.{cases_eq, cases_lt}
use Rattle.std.proofs.lemmas.Fmt.{decimal_is_IsNumeral, decimal_digit, decimal-digits_value, first_decimal, IsAscii-decimal}
use Rattle.std.proofs.lemmas.Str.{IsUtf8-from_ascii}
use Rattle.std.proofs.lemmas.Str.Parse.{IsNumeralModel, numerals_by_value, tells_digits, parse_plain}
use Rattle.sp_text.specs.Spelling.{IsPadded}

-- the word spells no number of 64 bits
abbrev pub SpellsNone : List ℕ → Type 0
SpellsNone word = (n : ℕ) → n < 2 ^ 64 → word ≢ decimal n

-- std's own words for digits and their value
own : IsNumeralModel (AllDigits 10) (digits_value 10)
own = numerals_by_value (AllDigits 10) tells_digits

-- a number is printed with no plus and no zero in front
decimal_is_not_padded : (n : ℕ) → n < 2 ^ 64 → ¬ (IsPadded (decimal n))
decimal_is_not_padded n small padded =
    elim (cases_eq n 0) [
      | inl e ↦
          let zero_digit : decimal n ≡ 48 ∷ [] = rw e (decimal_digit 0 (lit< tt)) in
          let wrong : IsPadded (48 ∷ []) = rw zero_digit at padded in
          grind (arith, wrong)
      | inr more ↦
          let above : 48 < get_or (decimal n) 0 0 = first_decimal n (omega arith) small in
          grind (arith, above)
    ]

-- a padded word spells none
pub padded_spells_none : (word : List ℕ) → IsPadded word → SpellsNone word
padded_spells_none word padded n small same = decimal_is_not_padded n small (rw same at padded)

-- what isn't text spells none
pub bytes_spell_none : (word : List ℕ) → ¬ (IsUtf8 word) → SpellsNone word
bytes_spell_none word bad n small same = bad (rw same (IsUtf8-from_ascii (decimal n) (IsAscii-decimal n small)))

-- what is read of a word that isn't padded is its one number
pub read_is_exact : {E : Type 0} (word : List ℕ) (read : Result ℕ E) → ¬ (IsPadded word) → ParsesUnsigned 64 10 word read
    → IfSome (result_ok read) (λ n. word ≡ decimal n) × IfSome (result_ok read) (λ n. n < 2 ^ 64) × IfNone (result_ok read) (SpellsNone word)
read_is_exact {E = E} word (Ok n) plain parsed =
    let known = parse_plain own {E = E} 64 word (Ok n) parsed (λ plus. plain (inl plus)) in
    let full = known.0.1 in
    let short : get_or word 0 0 ≡ 48 → length word ≡ 1 = λ zero_first.
    elim (cases_lt 1 (length word)) [
      | inl more ↦ absurd (plain (inr (zero_first, more)))
      | inr one ↦ omega (arith, full)
    ] in
    (rw known.1 (sym (decimal-digits_value own word known.0.0 full short known.0.2)), rw known.1 known.0.2, tt)
read_is_exact {E = E} word (Err e) plain parsed =
    let unknown = parse_plain own {E = E} 64 word (Err e) parsed (λ plus. plain (inl plus)) in (
      tt,
      tt,
      λ n small same.
          let numeral = rw (← same) at (decimal_is_IsNumeral n small) in
          unknown (numeral.0.1, numeral.0.0, rw numeral.1 small),
    )
