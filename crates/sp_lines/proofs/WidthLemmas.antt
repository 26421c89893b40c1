-- The lines of a good row can be read: their words are words, and they aren't too long.
use Rattle.std.proofs.Common.{◌≡◌, ℕ, ◌+◌, ◌*◌, ◌<◌, ◌≤◌, ◌^◌, ◌&&◌, ◌==◌, ◌++◌, Bool, true, false, if◌then◌else◌, List, [], ◌∷◌, length, refl, arith}
use Rattle.std.proofs.Common.{length-append}
use Rattle.std.specs.Prelude.{All, nat_le, nat_lt, slice_index, codes, ◌/◌, ◌%◌}
use Rattle.std.specs.List.{join_with_byte, list_all}
use Rattle.std.specs.Fmt.{decimal}
use Rattle.std.proofs.lemmas.Bool.{and_parts}
use Rattle.std.proofs.lemmas.Bool.Decides.{nat_tests}
use Rattle.std.proofs.lemmas.List.Elements.{All-append, All-cons, All-head, All-nil, All-tail}
use Rattle.sp_base.specs.Formats.{by_format}
use Rattle.sp_base.specs.Spelling.{AreBytes}
use Rattle.sp_base.specs.declared.format.TheConstants.{FORMAT_1}
use Rattle.sp_base.proofs.NumberLemmas.{AreBytes-big_bytes}
use Rattle.byteorder.specs.Endian.{big_bytes}
use Rattle.byteorder.specs.Numbers.{length-bytes_high_first}
use Rattle.hex.specs.Hex.{encode_lower, encode_with, lower_digits}
use Rattle.hex.proofs.HexLemmas.{length-encode_with}
use Rattle.sp_base.specs.declared.limits.TheConstants.{MAX_LINE_BYTES}
use Rattle.sp_text.specs.Spelling.{Word, hex_word}
use Rattle.sp_text.specs.Texts.{IsWord, is_word_byte}
use Rattle.sp_text.proofs.HexWordLemmas.{hex_word_nonempty}
use Rattle.sp_lines.specs.Cells.{Bytes, Cell, Mask, Name, Number, Numbers, Tested, mask_word, numbers_word}
use Rattle.sp_lines.specs.Rows.{AreIn, HaveRoom, Values, spelled}
use Rattle.sp_lines.specs.Widths.{is_good_cell, is_good_row, widths}
use Rattle.sp_lines.proofs.NumbersLemmas.{clean_numbers, short_numbers}
use Rattle.sp_lines.proofs.RowLemmas.{as_many}
use Rattle.sp_lines.proofs.TextLemmas.{IsGoodLine, clean_name, clean_number, short_number}

-- ---- words

abbrev InWord : ℕ → Type 0
InWord b = (33 ≤ b) × (b ≤ 126)

digit_in_word : (k : ℕ) → k < 16 → InWord (slice_index lower_digits k)
digit_in_word k small = (clean_name lower_digits refl (omega arith)).bytes k 0 small

encoded_words : (bs : List ℕ) → AreBytes bs → All InWord (encode_lower bs)
unfolding encode_with
encoded_words [] are = All-nil InWord
encoded_words (b ∷ bs) are =
    let small : b < 256 = All-head (λ b. b < 256) b bs are in
    let low = slice_index lower_digits (b % 16) in
    All-cons InWord _ (low ∷ encode_lower bs) (digit_in_word (b / 16) (omega arith))
    (All-cons InWord low (encode_lower bs) (digit_in_word (b % 16) (omega arith)) (encoded_words bs (All-tail (λ b. b < 256) b bs are)))

clean_bytes : (bs : List ℕ) → AreBytes bs → IsWord (hex_word bs)
clean_bytes [] are = clean_name (codes "-") refl (omega arith)
clean_bytes (b ∷ bs) are = record { full = hex_word_nonempty (b ∷ bs); bytes = encoded_words (b ∷ bs) are }

short_bytes : (bs : List ℕ) (high : ℕ) → length bs ≤ high → length (hex_word bs) ≤ high * 2 + 1
short_bytes [] high few = omega arith
short_bytes (b ∷ bs) high few = omega (arith, length-encode_with lower_digits (b ∷ bs), few)

abbrev halves : Bool → ℕ × ℕ → List ℕ
halves first mask = if first then big_bytes 16 mask.1 else big_bytes 16 mask.0 ++ big_bytes 16 mask.1

are_halves : (first : Bool) (mask : ℕ × ℕ) → AreBytes (halves first mask)
are_halves true mask = AreBytes-big_bytes 16 mask.1
are_halves false mask =
    All-append (λ b. b < 256) (big_bytes 16 mask.0) (big_bytes 16 mask.1) (AreBytes-big_bytes 16 mask.0) (AreBytes-big_bytes 16 mask.1)

clean_mask : (format : ℕ) (mask : ℕ × ℕ) → IsWord (mask_word format mask)
unfolding mask_word
clean_mask format mask = clean_bytes (halves (format == FORMAT_1) mask) (are_halves (format == FORMAT_1) mask)

long_hex : (bs : List ℕ) (count : ℕ) → length bs ≡ count → 1 ≤ count → length (hex_word bs) ≤ count * 2
long_hex [] count long some = absurd (omega (arith, long, some))
long_hex (b ∷ bs) count long some = omega (arith, long, length-encode_with lower_digits (b ∷ bs))

short_mask : (format : ℕ) (mask : ℕ × ℕ) → length (mask_word format mask) + 1 ≤ by_format format 33 65
unfolding mask_word
short_mask format mask = go (format == FORMAT_1)
  where
    go : (t : Bool) → length (hex_word (halves t mask)) + 1 ≤ (if t then 33 else 65)
    go true = let h = long_hex (big_bytes 16 mask.1) 16 (length-bytes_high_first 16 mask.1) (omega arith) in omega (arith, h)
    go false =
        let one = length-bytes_high_first 16 mask.0 in
        let two = length-bytes_high_first 16 mask.1 in
        let both = length-append (big_bytes 16 mask.0) (big_bytes 16 mask.1) in
        let h = long_hex (big_bytes 16 mask.0 ++ big_bytes 16 mask.1) 32 (omega (arith, one, two, both)) (omega arith) in omega (arith, h)

-- ---- rows

-- the bytes of words, each with one byte after it
abbrev spaced : List Word → ℕ
spaced [] = 0
spaced (w ∷ ws) = length w + 1 + spaced ws

joined_long : (ws : List Word) → 0 < length ws → length (join_with_byte 32 ws) + 1 ≡ spaced ws
joined_long [] some = absurd (omega arith)
joined_long (w ∷ []) some = omega arith
joined_long (w ∷ v ∷ ws) some =
    let more = joined_long (v ∷ ws) (omega arith) in
    omega (arith, length-append w (32 ∷ join_with_byte 32 (v ∷ ws)), more)

-- cells that pass the test have room for whatever is in their ranges
pub good_cells : (cs : List Cell) → list_all is_good_cell cs ≡ true → HaveRoom cs
good_cells [] good = tt
good_cells (Name w ∷ cs) good = good_cells cs (and_parts (is_good_cell (Name w)) (list_all is_good_cell cs) good).1
good_cells (Number low high ∷ cs) good = let both = and_parts (is_good_cell (Number low high)) (list_all is_good_cell cs) good in
    (grind (arith, nat_tests, both.0), good_cells cs both.1)
good_cells (Tested low high test ∷ cs) good = let both = and_parts (is_good_cell (Tested low high test)) (list_all is_good_cell cs) good in
    (grind (arith, nat_tests, both.0), good_cells cs both.1)
good_cells (Bytes low high ∷ cs) good = good_cells cs good
good_cells (Mask format ∷ cs) good = good_cells cs good
good_cells (Numbers count high ∷ cs) good = let both = and_parts (is_good_cell (Numbers count high)) (list_all is_good_cell cs) good in
    (grind (arith, nat_tests, both.0), good_cells cs both.1)

-- the words of a row, and how long they are
record IsClean (ws : List Word) (most : ℕ) : Type 0 where
  each : All IsWord ws
  short : spaced ws ≤ most

one_more : (w : Word) (ws : List Word) (n most : ℕ) → IsWord w → length w + 1 ≤ n → IsClean ws most → IsClean (w ∷ ws) (n + most)
one_more w ws n most is short clean = record { each = All-cons IsWord w ws is clean.each; short = omega (arith, short, clean.short) }

good_number : (low high n : ℕ) → nat_lt high (2 ^ 64) ≡ true → n ≤ high → n < 2 ^ 64
good_number low high n room below = let small : high < 2 ^ 64 = grind (arith, nat_tests, room) in omega (arith, small, below)

clean_row : (cs : List Cell) (xs : Values cs) → list_all is_good_cell cs ≡ true → AreIn cs xs → IsClean (spelled cs xs) (widths cs)
clean_row [] xs good are = record { each = All-nil IsWord; short = omega arith }
clean_row (Name w ∷ cs) xs good are =
    let both = and_parts (is_good_cell (Name w)) (list_all is_good_cell cs) good in
    let name = and_parts (nat_le 1 (length w)) (list_all is_word_byte w) both.0 in
    one_more w (spelled cs xs) (length w + 1) (widths cs) (clean_name w name.1 (grind (arith, nat_tests, name.0))) (omega arith) (clean_row cs xs both.1 are)
clean_row (Number low high ∷ cs) xs good are =
    let both = and_parts (is_good_cell (Number low high)) (list_all is_good_cell cs) good in
    let small = good_number low high xs.0 both.0 are.1 in
    one_more (decimal xs.0) (spelled cs xs.1) 21 (widths cs) (clean_number xs.0 small) (omega (arith, short_number xs.0 small)) (clean_row cs xs.1 both.1 are.2)
clean_row (Tested low high test ∷ cs) xs good are =
    let both = and_parts (is_good_cell (Tested low high test)) (list_all is_good_cell cs) good in
    let small = good_number low high xs.0 both.0 are.1 in
    one_more (decimal xs.0) (spelled cs xs.1) 21 (widths cs) (clean_number xs.0 small) (omega (arith, short_number xs.0 small)) (clean_row cs xs.1 both.1 are.3)
clean_row (Bytes low high ∷ cs) xs good are =
    one_more (hex_word xs.0) (spelled cs xs.1) (high * 2 + 2) (widths cs) (clean_bytes xs.0 are.0.2) (omega (arith, short_bytes xs.0 high are.0.1))
    (clean_row cs xs.1 good are.1)
clean_row (Mask format ∷ cs) xs good are =
    one_more (mask_word format xs.0) (spelled cs xs.1) (by_format format 33 65) (widths cs) (clean_mask format xs.0) (short_mask format xs.0)
    (clean_row cs xs.1 good are.1)
clean_row (Numbers count high ∷ cs) xs good are =
    let both = and_parts (is_good_cell (Numbers count high)) (list_all is_good_cell cs) good in
    let room : high < 2 ^ 64 = grind (arith, nat_tests, both.0) in
    one_more (numbers_word xs.0) (spelled cs xs.1) (count * 21 + 5) (widths cs) (clean_numbers count high xs.0 room are.0)
    (short_numbers count high xs.0 room are.0)
    (clean_row cs xs.1 both.1 are.1)

-- the line of values in the ranges of a good row can be read
pub good_row_line : (cs : List Cell) (xs : Values cs) → is_good_row cs ≡ true → AreIn cs xs → IsGoodLine (spelled cs xs)
good_row_line cs xs good are =
    let all = and_parts (nat_le 1 (length cs) && list_all is_good_cell cs) (nat_le (widths cs) (MAX_LINE_BYTES + 1)) good in
    let front = and_parts (nat_le 1 (length cs)) (list_all is_good_cell cs) all.0 in
    let clean = clean_row cs xs front.1 are in
    let some : 0 < length (spelled cs xs) = omega (arith, as_many cs xs, at_least front.0) in
    record {
      some = some;
      each = clean.each;
      short = omega (arith, joined_long (spelled cs xs) some, clean.short, narrow all.1);
    }
  where
    at_least : {n : ℕ} → nat_le 1 n ≡ true → 1 ≤ n
    at_least {n} is = grind (arith, nat_tests, is)

    narrow : {n : ℕ} → nat_le n (MAX_LINE_BYTES + 1) ≡ true → n ≤ MAX_LINE_BYTES + 1
    narrow {n} is = grind (arith, nat_tests, is)

-- the numbers of a good row have room
pub good_row_room : (cs : List Cell) → is_good_row cs ≡ true → HaveRoom cs
good_row_room cs good =
    let all = and_parts (nat_le 1 (length cs) && list_all is_good_cell cs) (nat_le (widths cs) (MAX_LINE_BYTES + 1)) good in
    good_cells cs (and_parts (nat_le 1 (length cs)) (list_all is_good_cell cs) all.0).1
