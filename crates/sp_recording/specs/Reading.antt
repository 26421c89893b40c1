-- What one line of a recording says at its stage, and the reading of a whole text.
--
--     stage     good lines                        the next stage
--     Start     recording 1 BOOT INDEX BOUND      Lines, with none yet, and BOUND is held
--     Lines     a line of the table               Lines, with one more; after a reserve line its bound is held
--               end turns T lost N                End
--     End       none
--
-- A text may end at Lines, as a daemon that was stopped leaves it.
use Rattle.std.specs.Prelude.{ℕ, ◌≡◌, ◌+◌, List, [], ◌∷◌, ◌++◌, Option, Some, None, IfSome, IsErr, Result, Ok, Err}
use Rattle.sp_base.specs.Refusals.{◌>>=◌}
use Rattle.sp_base.specs.declared.id.NodeId.{NodeId}
use Rattle.sp_text.specs.Spelling.{Word}
use Rattle.sp_lines.specs.Texts.{Leads, Nothing_left, Stop}
use Rattle.sp_lines.specs.declared.fault.Fault.{Fault}
use Rattle.sp_lines.specs.declared.fault.Fault.TheVariants as faults
use Rattle.sp_recording.specs.LineTable.{IsInRange, read_line}
use Rattle.sp_recording.specs.OuterRows.{IsClosing, IsOpening, read_closing, read_opening}
use Rattle.sp_recording.specs.RecordingText.{recording_lines}
use Rattle.sp_recording.specs.declared.lead.Lead.{Lead}
use Rattle.sp_recording.specs.declared.lead.Lead.TheVariants as leads
use Rattle.sp_recording.specs.declared.line.Closing.{Closing}
use Rattle.sp_recording.specs.declared.line.Line.{Line}
use Rattle.sp_recording.specs.declared.line.Line.TheVariants as lines
use Rattle.sp_recording.specs.declared.line.Opening.{Opening}
use Rattle.sp_recording.specs.declared.stage.Ending.{Ending}
use Rattle.sp_recording.specs.declared.stage.Ending.TheVariants as endings
use Rattle.sp_recording.specs.declared.stage.Reading.{Reading}
use Rattle.sp_recording.specs.declared.stage.Stage.{Stage}
use Rattle.sp_recording.specs.declared.stage.Stage.TheVariants as stages

-- ---- good recordings

-- the bound that is held after a line, and after lines
abbrev pub held_with : ℕ → Line → ℕ
held_with held (lines.Reserve upto) = upto
held_with held _ = held

-- the bound that is held after these lines
abbrev pub held_after : ℕ → List Line → ℕ
held_after held [] = held
held_after held (line ∷ ls) = held_after (held_with held line) ls

-- each line is in its ranges, where this bound is held before the first
abbrev pub AreInRange : ℕ → List NodeId → ℕ → List Line → Type 0
AreInRange total near held [] = Unit {0}
AreInRange total near held (line ∷ ls) = IsInRange total near held line × AreInRange total near (held_with held line) ls

-- a recording of a daemon with so many indexes and these neighbours
pub record IsRecording (total : ℕ) (near : List NodeId) (o : Opening) (ls : List Line) (c : Option Closing) : Type 0 where
  pub opening : IsOpening total o
  pub each : AreInRange total near o.bound ls
  pub closing : IfSome c IsClosing

-- ---- one line

-- one line more
abbrev pub line_more : Opening → List Line → ℕ → Line → Stage
line_more o ls held line = stages.Lines o (ls ++ line ∷ []) (held_with held line)

-- an end line, else a line of the table
abbrev pub end_or_line : Opening → List Line → ℕ → Result Closing Fault → Result Line Fault → Result Stage Fault
end_or_line o ls held (Ok c) line = Ok (stages.End o ls c)
end_or_line o ls held (Err fault) line = line >>= λ l. Ok (line_more o ls held l)

-- what the words of a line say at a stage: where they lead, or what is wrong with them
abbrev pub says : ℕ → List NodeId → Stage → List Word → Result Stage Fault
says total near stages.Start words = read_opening total words >>= λ o. Ok (stages.Lines o [] o.bound)
says total near (stages.Lines o ls held) words = end_or_line o ls held (read_closing words) (read_line total near held words)
says total near (stages.End o ls c) words = Err faults.Form

-- what came of a line: it leads on, or the stage comes back
abbrev pub IsLead : ℕ → List NodeId → Stage → List Word → Lead → Type 0
IsLead total near stage words (leads.To next) = says total near stage words ≡ Ok next
IsLead total near stage words (leads.Bad back) = (back ≡ stage) × IsErr (says total near stage words)

-- ---- whole texts

-- how a text ends that has nothing left before the line of this number
abbrev pub at_end : Stage → ℕ → Ending
at_end stages.Start line = endings.Form line
at_end _ line = endings.Whole

-- how a reading ends that is stopped at a stage before the line of this number
abbrev pub ending_of : Stage → ℕ → Stop Fault → Ending
ending_of stage line Nothing_left = at_end stage line
ending_of stage line _ = endings.Form line

-- the text is read so, where so many lines stand before it
pub record IsReading (total : ℕ) (near : List NodeId) (before : ℕ) (text : List ℕ) (reading : Reading) : Type 0 where
  pub line : ℕ
  pub stop : Stop Fault
  pub leads : Leads (says total near) stages.Start 1 text reading.stage line stop
  pub ends : reading.ending ≡ ending_of reading.stage (before + line) stop

-- what was read is in its ranges
abbrev pub IsGoodStage : ℕ → List NodeId → Stage → Type 0
IsGoodStage total near stages.Start = Unit {0}
IsGoodStage total near (stages.Lines o ls held) = IsRecording total near o ls None × (held ≡ held_after o.bound ls)
IsGoodStage total near (stages.End o ls c) = IsRecording total near o ls (Some c)

-- the lines that were read, as words
abbrev pub lines_to : Stage → List (List Word)
lines_to stages.Start = []
lines_to (stages.Lines o ls held) = recording_lines o ls None
lines_to (stages.End o ls c) = recording_lines o ls (Some c)

-- the lines between the first and the end line
abbrev pub lines_in : Stage → List Line
lines_in stages.Start = []
lines_in (stages.Lines o ls held) = ls
lines_in (stages.End o ls c) = ls

-- the opening that was read, if one was
abbrev pub opening_in : Stage → Option Opening
opening_in stages.Start = None
opening_in (stages.Lines o ls held) = Some o
opening_in (stages.End o ls c) = Some o

-- where the text of a recording leads
abbrev pub stage_of : Opening → List Line → Option Closing → Stage
stage_of o ls None = stages.Lines o ls (held_after o.bound ls)
stage_of o ls (Some c) = stages.End o ls c
