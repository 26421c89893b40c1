-- How a text is read: line by line, and each line as words, up to the first place where that fails.
--
--     line  newline  line  newline  ..          a line has at most 131,200 bytes
--     word  space  word  space  ..  word        a word has at least one byte, each from ! (33) to ~ (126)
use Rattle.std.specs.Prelude.{ℕ, ◌≡◌, ◌≢◌, ◌+◌, ◌-◌, ◌^◌, ◌==◌, ◌&&◌, ◌||◌, nat_lt, nat_le, min, not, Bool, List, [], ◌∷◌, length, Option}
use Rattle.std.specs.Prelude.{Some, None, Result, Ok, Err, IsOk, if◌then◌else◌, All, ◌<◌, ◌≤◌, ◌++◌}
use Rattle.std.specs.List.{after_first, before_first, join_with_byte, position_or_len}
use Rattle.sp_base.specs.declared.limits.TheConstants.{MAX_LINE_BYTES}
use Rattle.sp_text.specs.declared.place.Line.{Line}
use Rattle.sp_text.specs.declared.place.At.{At}
use Rattle.sp_text.specs.declared.place.TextRefused.{TextRefused}
use Rattle.sp_text.specs.declared.place.TextRefused.TheVariants as refusals
use Rattle.sp_text.specs.Lines.{BeginsWithLine, IsInOneLine}
use Rattle.sp_base.specs.Spelling.{AreBytes}
use Rattle.sp_text.specs.Spelling.{hex_word, words_of}
use Rattle.sp_text.specs.Unread.{LineText, Unread}

abbrev pub text_of : Line → LineText
text_of line = record { number = line.number; bytes = line.bytes.now }

-- ---- lines

-- whether a byte ends a line
abbrev pub is_newline : ℕ → Bool
is_newline byte = byte == 10

-- the refusal of a line with too many bytes: it tells the first one above the limit
abbrev pub long_line : ℕ → TextRefused
long_line number = refusals.LineLong (record { line = number; column = MAX_LINE_BYTES + 1 })

-- the refusal of a text whose last line has no newline: it tells where that is missing
abbrev pub cut_line : ℕ → List ℕ → TextRefused
cut_line number text = refusals.Cut (record { line = number; column = length text + 1 })

-- The first line of a text that isn't empty, under this number, and what comes after its newline.
-- Too long is a line with more bytes before its newline, or before the end of the text
unfoldable pub line_at : ℕ → List ℕ → Result (LineText × List ℕ) TextRefused
line_at number text =
    if nat_lt MAX_LINE_BYTES (position_or_len is_newline text) then Err (long_line number)
    else (if position_or_len is_newline text == length text then Err (cut_line number text)
    else Ok (record { number = number; bytes = before_first is_newline text }, after_first is_newline text))

-- what a call that gives the next line of a text answered and left
abbrev pub TakesNext : Unread → Result (Option Line) TextRefused → Unread → Type 0
TakesNext old (Ok None) new = (old.rest ≡ []) × (new ≡ old)
TakesNext old (Ok (Some line)) new = (old.rest ≢ []) × (new.given ≡ old.given + 1) × (line_at (old.given + 1) old.rest ≡ Ok (text_of line, new.rest))
TakesNext old (Err refused) new = (old.rest ≢ []) × (line_at (old.given + 1) old.rest ≡ Err refused) × (new ≡ old)

-- a line is read from each text that begins with it
abbrev pub SpelledLinesAreRead : Type 0
SpelledLinesAreRead =
    (number : ℕ) (line rest : List ℕ) → IsInOneLine line → length line ≤ MAX_LINE_BYTES
    → line_at number (line ++ 10 ∷ rest) ≡ Ok (record { number = number; bytes = line }, rest)

-- the text begins with the line that is read of it
abbrev pub ReadLinesAreSpelled : Type 0
ReadLinesAreSpelled =
    (number : ℕ) (text rest : List ℕ) (line : LineText) → line_at number text ≡ Ok (line, rest)
    → BeginsWithLine text line.bytes rest × (line.number ≡ number) × (length line.bytes ≤ MAX_LINE_BYTES)

-- ---- words

-- whether a byte may stand in a word: a visible character of ASCII
abbrev pub is_word_byte : ℕ → Bool
is_word_byte byte = nat_le 33 byte && nat_le byte 126

-- whether a byte may follow this one: one of a word always, and a space after one of a word
abbrev pub may_follow : ℕ → ℕ → Bool
may_follow before byte = is_word_byte byte || ((byte == 32) && is_word_byte before)

-- each byte with the one before it; a space follows the last
abbrev pub pairs_after : ℕ → List ℕ → List (ℕ × ℕ)
pairs_after before [] = (before, 32) ∷ []
pairs_after before (byte ∷ bytes) = (before, byte) ∷ pairs_after byte bytes

-- the first place of a line whose byte can't stand there. A line stands between two spaces, of which the second has the place after its last
abbrev pub bad_place : List ℕ → ℕ
bad_place line = position_or_len (λ pair. not (may_follow pair.0 pair.1)) (pairs_after 32 line)

-- the column of a place. It stands still at the end of its type
abbrev pub column_of : ℕ → ℕ
column_of place = min (place + 1) (2 ^ 32 - 1)

-- the words of a line of this number
abbrev pub words_at : ℕ → List ℕ → Result (List (List ℕ)) TextRefused
words_at number line =
    if nat_le (bad_place line) (length line) then Err (refusals.BadWord (record { line = number; column = column_of (bad_place line) }))
    else Ok (words_of line)

-- at least one byte, each from ! to ~
pub record IsWord (word : List ℕ) : Type 0 where
  pub full : 0 < length word
  pub bytes : All (λ b. (33 ≤ b) × (b ≤ 126)) word

-- words, one at least, are read from the line that they are joined to
abbrev pub SpelledWordsAreRead : Type 0
SpelledWordsAreRead =
    (number : ℕ) (words : List (List ℕ)) → 0 < length words → All IsWord words → words_at number (join_with_byte 32 words) ≡ Ok words

-- the line is that to which the words that are read of it are joined
abbrev pub ReadWordsAreSpelled : Type 0
ReadWordsAreSpelled =
    (number : ℕ) (line : List ℕ) (words : List (List ℕ)) → words_at number line ≡ Ok words
    → (line ≡ join_with_byte 32 words) × (0 < length words) × All IsWord words

-- What a call answered, seen by view, is what reading gives; want of memory only shows where nothing is refused
abbrev pub GivesInMemory : {X Y : Type 0} → (X → Y) → Result X TextRefused → Result Y TextRefused → Type 0
GivesInMemory view (Ok x) read = read ≡ Ok (view x)
GivesInMemory view (Err refusals.Memory) read = IsOk read
GivesInMemory view (Err refused) read = read ≡ Err refused

-- ---- bytes

-- what a call answered of a word at this place is its bytes, or that it spells none; or memory was wanting
abbrev pub ReadsHex : List ℕ → At → Result (List ℕ) TextRefused → Type 0
ReadsHex word at (Ok bytes) = AreBytes bytes × (word ≡ hex_word bytes)
ReadsHex word at (Err refusals.Memory) = Unit {0}
ReadsHex word at (Err refused) = (refused ≡ refusals.BadHex at) × ((bytes : List ℕ) → AreBytes bytes → word ≢ hex_word bytes)
