-- The first line of a text: it is spelled by the words that are read of it, and words of a good row are read from their line.
use Rattle.std.proofs.Common.{◌≡◌, ◌≢◌, ℕ, ◌<◌, ◌≤◌, ◌^◌, true, List, [], ◌∷◌, ◌++◌, length, Result, Ok, Err, refl, ap, ◌∙◌, arith, append_assoc}
use Rattle.std.specs.Prelude.{All}
use Rattle.std.specs.List.{join_with_byte, list_all}
use Rattle.std.specs.Fmt.{decimal}
use Rattle.std.specs.Str.Parse.{AllDigits}
use Rattle.std.proofs.lemmas.Fmt.{decimal_is_IsNumeral, decimal_nonempty, length-decimal-le}
use Rattle.std.proofs.lemmas.Str.Parse.{digit_from_value}
use Rattle.std.proofs.lemmas.Bool.Decides.{nat_tests}
use Rattle.std.proofs.lemmas.List.Sums.{AllPass-from_list_all}
use Rattle.std.proofs.lemmas.List.Elements.{All-cons, All-nil, All-weaker}
use Rattle.sp_base.specs.declared.limits.TheConstants.{MAX_LINE_BYTES}
use Rattle.sp_base.specs.Refusals.{◌>>=◌}
use Rattle.sp_text.specs.Lines.{IsInOneLine}
use Rattle.sp_text.specs.Spelling.{Word}
use Rattle.sp_text.specs.Texts.{IsWord, is_word_byte, line_at, words_at}
use Rattle.sp_text.specs.Unread.{LineText}
use Rattle.sp_text.specs.declared.place.TextRefused.{TextRefused}
use Rattle.sp_text.proofs.GoodWords.{read_words_are_spelled, spelled_words_are_read}
use Rattle.sp_text.proofs.NextLine.{read_lines_are_spelled, spelled_lines_are_read}
use Rattle.sp_text.proofs.Separators.{IsInOneLine-join}
use Rattle.sp_lines.specs.Rows.{line_text}
use Rattle.sp_lines.specs.Texts.{before_rest, first_words}

-- the first line is spelled by its words
pub spelled_first : (number : ℕ) (text rest : List ℕ) (words : List Word) → first_words number text ≡ Ok (words, rest) → text ≡ line_text words ++ rest
unfolding first_words
spelled_first number text rest words first = go (line_at number text) refl (λ i. first i)
  where
    at_words : (line : LineText) (left : List ℕ) (read : Result (List Word) TextRefused) → line_at number text ≡ Ok (line, left)
        → words_at number line.bytes ≡ read
        → before_rest left read ≡ Ok (words, rest) → text ≡ line_text words ++ rest
    at_words line left (Ok ws) split read is =
        let pairs : (ws, left) ≡ (words, rest) = cc in
        let same_words : ws ≡ words = ap (λ (p : List Word × List ℕ). p.0) pairs in
        let same_rest : left ≡ rest = ap (λ (p : List Word × List ℕ). p.1) pairs in
        let begins = read_lines_are_spelled number text left line split in
        let spelled = read_words_are_spelled number line.bytes ws read in
        begins.0.split ∙ rw (spelled.0, same_words, same_rest) (simp append_assoc)
    at_words line left (Err refused) split read is = absurd cc

    go : (read : Result (LineText × List ℕ) TextRefused) → line_at number text ≡ read
        → (read >>= λ line. before_rest line.1 (words_at number line.0.bytes)) ≡ Ok (words, rest)
        → text ≡ line_text words ++ rest
    go (Ok line) is all = at_words line.0 line.1 (words_at number line.0.bytes) is refl all
    go (Err refused) is all = absurd cc

-- a line of such words is read as them
pub record IsGoodLine (words : List Word) : Type 0 where
  pub some : 0 < length words
  pub each : All IsWord words
  pub short : length (join_with_byte 32 words) ≤ MAX_LINE_BYTES

in_line : (word : Word) → IsWord word → IsInOneLine word
in_line word is = All-weaker (λ b. (33 ≤ b) × (b ≤ 126)) (λ b. b ≢ 10) (λ b byte same. omega (arith, byte.0, same)) word is.bytes

pub read_first : (number : ℕ) (words : List Word) (rest : List ℕ) → IsGoodLine words → first_words number (line_text words ++ rest) ≡ Ok (words, rest)
unfolding first_words
read_first number words rest good =
    let line = join_with_byte 32 words in
    let one = IsInOneLine-join words (All-weaker IsWord IsInOneLine in_line words good.each) in
    let split : line_text words ++ rest ≡ line ++ 10 ∷ rest = simp append_assoc in
    rw (split, spelled_lines_are_read number line rest one good.short, spelled_words_are_read number words good.some good.each) refl

-- ---- words

-- a decimal is a word
pub clean_number : (n : ℕ) → n < 2 ^ 64 → IsWord (decimal n)
clean_number n small = record { full = decimal_nonempty n small; bytes = digits (decimal n) (decimal_is_IsNumeral n small).0.1 }
  where
    digits : (ds : List ℕ) → AllDigits 10 ds → All (λ b. (33 ≤ b) × (b ≤ 126)) ds
    digits [] all = All-nil (λ b. (33 ≤ b) × (b ≤ 126))
    digits (b ∷ ds) all =
        let range = digit_from_value b all.0 in
        All-cons (λ b. (33 ≤ b) × (b ≤ 126)) b ds (omega (arith, range.0), omega (arith, range.1)) (digits ds all.1)

pub short_number : (n : ℕ) → n < 2 ^ 64 → length (decimal n) ≤ 20
short_number n small = length-decimal-le 20 n (omega arith) (omega arith) small

-- a name is a word
pub clean_name : (word : Word) → list_all is_word_byte word ≡ true → 0 < length word → IsWord word
clean_name word test full =
    record {
      full = full;
      bytes =
          All-weaker (λ b. is_word_byte b ≡ true) (λ b. (33 ≤ b) × (b ≤ 126)) within word (AllPass-from_list_all is_word_byte word test);
    }
  where
    within : (b : ℕ) → is_word_byte b ≡ true → (33 ≤ b) × (b ≤ 126)
    within b is = (grind (arith, nat_tests), grind (arith, nat_tests))
