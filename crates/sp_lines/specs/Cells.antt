-- The places of a line: what may stand in each, how it is read, and how it is spelled.
--
--     Name W               this word
--     Number LOW HIGH      a decimal from LOW to HIGH
--     Tested LOW HIGH T    a decimal from LOW to HIGH that passes the test T
--     Bytes LOW HIGH       so many bytes in hexadecimal
--     Mask FORMAT          a set of edges: 16 bytes in hexadecimal, in format 2 32, the highest first, a bit for each edge
--     Numbers COUNT HIGH   so many decimals up to HIGH with commas between, or the word `same` for those of an earlier line
use Rattle.std.specs.Prelude.{ℕ, ◌≡◌, ◌<◌, ◌≤◌, ◌^◌, ◌==◌, ◌&&◌, nat_le, nat_lt, nat_eq, All, Bool, List, [], ◌∷◌, ◌++◌, codes, drop, is_some, length, map}
use Rattle.std.specs.Prelude.{Option, Some, None, Result, Ok, Err, if◌then◌else◌}
use Rattle.std.specs.List.{join_with_byte, list_all, slice_split}
use Rattle.std.specs.Str.Parse.{digits_value}
use Rattle.std.specs.Cmp.Lexicographic.{pointwise}
use Rattle.std.specs.Fmt.{decimal}
use Rattle.byteorder.specs.Endian.{big_bytes, big_number}
use Rattle.hex.specs.Hex.{decode_of}
use Rattle.hex.specs.declared.error.FromHexError.{FromHexError}
use Rattle.sp_base.specs.Formats.{by_format}
use Rattle.sp_base.specs.Refusals.{◌>>=◌}
use Rattle.sp_base.specs.Spelling.{AreBytes}
use Rattle.sp_base.specs.declared.format.TheConstants.{FORMAT_1}
use Rattle.sp_base.specs.declared.limits.TheConstants.{MAX_EDGES}
use Rattle.sp_text.specs.Spelling.{Word, hex_word}
use Rattle.sp_lines.specs.declared.fault.Fault.{Fault}
use Rattle.sp_lines.specs.declared.fault.Fault.TheVariants as faults

-- what may stand in a place
pub data Cell : Type 0 where
  Name : Word → Cell
  Number : ℕ → ℕ → Cell
  Tested : ℕ → ℕ → (ℕ → Bool) → Cell
  Bytes : ℕ → ℕ → Cell
  Mask : ℕ → Cell
  Numbers : ℕ → ℕ → Cell

-- ---- words as values

-- the two words are one
abbrev pub same : Word → Word → Bool
same a b = pointwise nat_eq a b

-- the number that a word spells: its one spelling, below 2^64
abbrev pub if_number : ℕ → Word → Option ℕ
if_number n word = if same (decimal n) word && nat_lt n (2 ^ 64) then Some n else None

-- the number below 2^64 whose decimal the word is
unfoldable pub number_of : Word → Option ℕ
number_of word = if_number (digits_value 10 word) word

-- the bytes that a word spells: their one spelling
abbrev pub if_bytes : Result (List ℕ) FromHexError → Word → Option (List ℕ)
if_bytes (Ok bs) word = if same (hex_word bs) word then Some bs else None
if_bytes (Err e) word = None

-- the bytes that the word spells
unfoldable pub bytes_of : Word → Option (List ℕ)
bytes_of word = if same word (hex_word []) then Some [] else if_bytes (decode_of word) word

-- ---- one place

-- a number that was read, if it is in its range
abbrev pub in_range : ℕ → ℕ → Option ℕ → Result ℕ Fault
in_range low high None = Err faults.Number
in_range low high (Some n) = if nat_le low n && nat_le n high then Ok n else Err faults.Range

-- a number is judged before its range
unfoldable pub number_at : ℕ → ℕ → Word → Result ℕ Fault
number_at low high word = in_range low high (number_of word)

-- and its range before its test
unfoldable pub tested_at : ℕ → ℕ → (ℕ → Bool) → Word → Result ℕ Fault
tested_at low high test word = number_at low high word >>= λ n. if test n then Ok n else Err faults.Range

-- bytes that were read, if they are as many as they may be
abbrev pub of_length : ℕ → ℕ → Option (List ℕ) → Result (List ℕ) Fault
of_length low high None = Err faults.Hex
of_length low high (Some bs) = if nat_le low (length bs) && nat_le (length bs) high then Ok bs else Err faults.Range

-- bytes are judged before their count
unfoldable pub bytes_at : ℕ → ℕ → Word → Result (List ℕ) Fault
bytes_at low high word = of_length low high (bytes_of word)

-- a set of edges, its high half and its low half, in bytes. Format 1 has no high half
abbrev pub mask_bytes : ℕ → ℕ × ℕ → List ℕ
mask_bytes format mask = if format == FORMAT_1 then big_bytes 16 mask.1 else big_bytes 16 mask.0 ++ big_bytes 16 mask.1

-- as a word
unfoldable pub mask_word : ℕ → ℕ × ℕ → Word
mask_word format mask = hex_word (mask_bytes format mask)

-- sixteen bytes whose number has a bit for edges alone
unfoldable pub narrow_mask_at : Word → Result (ℕ × ℕ) Fault
narrow_mask_at word = bytes_at 16 16 word >>= λ bs. if nat_lt (big_number 16 bs) (2 ^ MAX_EDGES) then Ok (0, big_number 16 bs) else Err faults.Range

-- any 32 bytes
unfoldable pub wide_mask_at : Word → Result (ℕ × ℕ) Fault
wide_mask_at word = bytes_at 32 32 word >>= λ bs. Ok (big_number 16 bs, big_number 16 (drop 16 bs))

-- a mask of this format, as its two halves
unfoldable pub mask_at : ℕ → Word → Result (ℕ × ℕ) Fault
mask_at format word = if format == FORMAT_1 then narrow_mask_at word else wide_mask_at word

-- the halves have room in the format
pub record IsMask (format : ℕ) (mask : ℕ × ℕ) : Type 0 where
  pub high : mask.0 < by_format format 1 (2 ^ 128)
  pub low : mask.1 < by_format format (2 ^ MAX_EDGES) (2 ^ 128)

-- so many bytes
abbrev pub AreSoMany : ℕ → ℕ → List ℕ → Type 0
AreSoMany low high bs = (low ≤ length bs) × (length bs ≤ high) × AreBytes bs

-- ---- numbers with commas between

-- what stands between the commas of a word
abbrev pub pieces : Word → List Word
pieces word = slice_split (λ byte. byte == 44) word

-- whether a word spells a number
abbrev pub is_number : Word → Bool
is_number word = is_some (number_of word)

-- the numbers of these words, none above the greatest
abbrev pub each_at : ℕ → List Word → Result (List ℕ) Fault
each_at high [] = Ok []
each_at high (word ∷ words) = number_at 0 high word >>= λ n. each_at high words >>= λ ns. Ok (n ∷ ns)

-- so many numbers up to this one, or a fault where there are more or fewer words
abbrev pub so_many_at : ℕ → ℕ → List Word → Result (Option (List ℕ)) Fault
so_many_at count high words = if length words == count then (each_at high words >>= λ ns. Ok (Some ns)) else Err faults.Range

-- the pieces are judged as numbers before their count and their ranges
unfoldable pub numbers_at : ℕ → ℕ → Word → Result (Option (List ℕ)) Fault
numbers_at count high word =
    if same word (codes "same") then Ok None
    else (if list_all is_number (pieces word) then so_many_at count high (pieces word) else Err faults.Number)

-- as a word
unfoldable pub numbers_word : Option (List ℕ) → Word
numbers_word None = codes "same"
numbers_word (Some ns) = join_with_byte 44 (map decimal ns)

-- so many, and one at least, none above the greatest
abbrev pub AreNumbers : ℕ → ℕ → Option (List ℕ) → Type 0
AreNumbers count high None = Unit {0}
AreNumbers count high (Some ns) = (length ns ≡ count) × (1 ≤ count) × All (λ n. n ≤ high) ns
