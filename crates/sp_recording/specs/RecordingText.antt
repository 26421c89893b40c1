-- A recording as text: its first line, a line for each thing that happened, and its end line, where it has one.
--
--     recording 1 1 0 32
--     tick 1000 DIGEST
--     overlay 2 0a1b DIGEST
--     client 7101 31206f70656e DIGEST
--     poll 2 DIGEST
--     end turns 1 lost 0
use Rattle.std.specs.Prelude.{ℕ, List, [], ◌∷◌, ◌++◌, map, Option, Some, None, codes}
use Rattle.std.specs.List.{flat_map}
use Rattle.std.specs.Fmt.{decimal}
use Rattle.sp_text.specs.Spelling.{Word, hex_word}
use Rattle.sp_lines.specs.Rows.{line_text}
use Rattle.sp_recording.specs.declared.line.Closing.{Closing}
use Rattle.sp_recording.specs.declared.line.Line.{Line}
use Rattle.sp_recording.specs.declared.line.Line.TheVariants as lines
use Rattle.sp_recording.specs.declared.line.LineRef.{LineRef}
use Rattle.sp_recording.specs.declared.line.LineRef.TheVariants as refs
use Rattle.sp_recording.specs.declared.line.Opening.{Opening}

-- the line that a borrowed one tells
abbrev pub line_in : LineRef → Line
line_in (refs.Reserve upto) = lines.Reserve upto
line_in (refs.Tick now told) = lines.Tick now told
line_in (refs.Overlay node bytes told) = lines.Overlay node bytes.now told
line_in (refs.Stray from) = lines.Stray from
line_in (refs.Client from bytes told) = lines.Client from bytes.now told
line_in (refs.Poll node told) = lines.Poll node told

-- ---- words

-- the words of the first line
abbrev pub opening_words : Opening → List Word
opening_words o = codes "recording" ∷ codes "1" ∷ decimal o.boot ∷ decimal o.index ∷ decimal o.bound ∷ []

-- the words of the end line
abbrev pub closing_words : Closing → List Word
closing_words c = codes "end" ∷ codes "turns" ∷ decimal c.turns ∷ codes "lost" ∷ decimal c.lost ∷ []

-- the first word of a line, and those after it
abbrev pub line_name : Line → Word
line_name (lines.Reserve upto) = codes "reserve"
line_name (lines.Tick now told) = codes "tick"
line_name (lines.Overlay node bytes told) = codes "overlay"
line_name (lines.Stray from) = codes "stray"
line_name (lines.Client from bytes told) = codes "client"
line_name (lines.Poll node told) = codes "poll"

-- the words of a line behind its name
abbrev pub line_fields : Line → List Word
line_fields (lines.Reserve upto) = decimal upto ∷ []
line_fields (lines.Tick now told) = decimal now ∷ hex_word told.0 ∷ []
line_fields (lines.Overlay node bytes told) = decimal node.0 ∷ hex_word bytes ∷ hex_word told.0 ∷ []
line_fields (lines.Stray from) = decimal from ∷ []
line_fields (lines.Client from bytes told) = decimal from ∷ hex_word bytes ∷ hex_word told.0 ∷ []
line_fields (lines.Poll node told) = decimal node.0 ∷ hex_word told.0 ∷ []

-- the words of a line
abbrev pub line_words : Line → List Word
line_words line = line_name line ∷ line_fields line

-- ---- texts

-- the text of these lines
unfoldable pub lines_text : List Line → List ℕ
lines_text ls = flat_map (λ line. line_text (line_words line)) ls

-- all lines, as words
abbrev pub recording_lines : Opening → List Line → Option Closing → List (List Word)
recording_lines o ls None = opening_words o ∷ map line_words ls
recording_lines o ls (Some c) = opening_words o ∷ (map line_words ls ++ closing_words c ∷ [])

-- the whole text
unfoldable pub recording_text : Opening → List Line → Option Closing → List ℕ
recording_text o ls c = flat_map line_text (recording_lines o ls c)
