-- A line has one spelling, the lines that are read are a front of the text, the text of a recording is read whole, and a text has one reading.
use Rattle.std.specs.Prelude.{ℕ, ◌≡◌, ◌<◌, ◌+◌, ◌^◌, ◌↔◌, ◌++◌, List, [], length, Option, Ok}
use Rattle.std.specs.List.{flat_map}
use Rattle.sp_base.specs.declared.id.NodeId.{NodeId}
use Rattle.sp_text.specs.Spelling.{Word}
use Rattle.sp_lines.specs.Rows.{line_text}
use Rattle.sp_recording.specs.LineTable.{IsInRange, read_line}
use Rattle.sp_recording.specs.Reading.{IsGoodStage, IsReading, IsRecording, lines_to, stage_of}
use Rattle.sp_recording.specs.RecordingText.{line_words, recording_text}
use Rattle.sp_recording.specs.declared.line.Closing.{Closing}
use Rattle.sp_recording.specs.declared.line.Line.{Line}
use Rattle.sp_recording.specs.declared.line.Opening.{Opening}
use Rattle.sp_recording.specs.declared.stage.Ending.TheVariants as endings
use Rattle.sp_recording.specs.declared.stage.Reading.{Reading}

-- words are read as a line exactly where they are the line's words, and it is in its ranges
abbrev pub LinesHaveOneSpelling : Type 0
LinesHaveOneSpelling =
    (total : ℕ) (near : List NodeId) (held : ℕ) (words : List Word) (line : Line) → total < 2 ^ 64
    → (read_line total near held words ≡ Ok line) ↔ (IsInRange total near held line × (words ≡ line_words line))

-- what was read is good, its lines are the first of the text, and the line after them is the bad one, unless there is none
pub record IsOfItsText (total : ℕ) (near : List NodeId) (before : ℕ) (text : List ℕ) (reading : Reading) : Type 0 where
  pub good : IsGoodStage total near reading.stage
  pub rest : List ℕ
  pub spelled : text ≡ flat_map line_text (lines_to reading.stage) ++ rest
  pub whole : reading.ending ≡ endings.Whole → rest ≡ []
  pub bad : (line : ℕ) → reading.ending ≡ endings.Form line → line ≡ before + (1 + length (lines_to reading.stage))

-- the law that a reading is of its text: the lines that were read are a front of it
abbrev pub ReadingsAreOfTheirText : Type 0
ReadingsAreOfTheirText =
    (total : ℕ) (near : List NodeId) (before : ℕ) (text : List ℕ) (reading : Reading) → total < 2 ^ 64 → IsReading total near before text reading
    → IsOfItsText total near before text reading

-- the text of a recording is read whole, to just this recording
abbrev pub GoodRecordingsAreRead : Type 0
GoodRecordingsAreRead =
    (total : ℕ) (near : List NodeId) (before : ℕ) (o : Opening) (ls : List Line) (c : Option Closing) → total < 2 ^ 64 → IsRecording total near o ls c
    → IsReading total near before (recording_text o ls c) (record { stage = stage_of o ls c; ending = endings.Whole })

-- a text leads to one stage and has one ending: one first bad line
abbrev pub OneReading : Type 0
OneReading =
    (total : ℕ) (near : List NodeId) (before : ℕ) (text : List ℕ) (a b : Reading) → IsReading total near before text a
    → IsReading total near before text b → a ≡ b
