-- How values are spelled in a line: numbers in decimal, bytes in hexadecimal, words one space apart.
use Rattle.std.specs.Prelude.{ℕ, ◌≡◌, ◌≢◌, ◌<◌, ◌⊎◌, ◌==◌, ◌&&◌, ◌||◌, nat_le, Bool, List, [], ◌∷◌, length, slice_index, All, codes}
use Rattle.std.specs.List.{join_with_byte, slice_split}
use Rattle.hex.specs.Hex.{encode_lower}

abbrev pub Word : Type 0
Word = List ℕ

-- a digit of a byte, in lower case
abbrev pub is_digit : ℕ → Bool
is_digit c = (nat_le 48 c && nat_le c 57) || (nat_le 97 c && nat_le c 102)

-- bytes in lower case, two digits each, and a dash for none
abbrev pub hex_word : List ℕ → List ℕ
hex_word [] = codes "-"
hex_word (b ∷ bs) = encode_lower (b ∷ bs)

-- begins with a plus, or with a zero that more follows
abbrev pub IsPadded : List ℕ → Type 0
IsPadded word = (slice_index word 0 ≡ 43) ⊎ ((slice_index word 0 ≡ 48) × (1 < length word))

-- no byte is a space
abbrev pub IsOneWord : List ℕ → Type 0
IsOneWord bytes = All (λ b. b ≢ 32) bytes

-- what stands between the spaces of a line
abbrev pub words_of : List ℕ → List (List ℕ)
words_of line = slice_split (λ b. b == 32) line

-- words without a space, one at least, are the words of the line that they are joined to
abbrev pub WordsComeBack : Type 0
WordsComeBack = (words : List (List ℕ)) → 0 < length words → All IsOneWord words → words_of (join_with_byte 32 words) ≡ words

-- a line is its words, joined
abbrev pub LinesComeBack : Type 0
LinesComeBack = (line : List ℕ) → join_with_byte 32 (words_of line) ≡ line
