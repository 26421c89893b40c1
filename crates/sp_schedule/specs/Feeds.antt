-- A schedule that is read in pieces: the lines that were read say where they led, and the front of the next one waits for its newline.
--
--     schedule 1 newline  seed .. newline  ..  poll 1 2 newline     pass 1 2
--     the lines of a stage                                          what waits
use Rattle.std.specs.Prelude.{ℕ, ◌≡◌, ◌+◌, ◌<◌, ◌≤◌, ◌⊎◌, ◌||◌, nat_lt, Bool, true, false, List, [], ◌∷◌, ◌++◌, length, map, take, Result, Ok, Err}
use Rattle.std.specs.List.{flat_map, list_any}
use Rattle.sp_base.specs.declared.limits.TheConstants.{MAX_INPUT_BYTES, MAX_LINE_BYTES}
use Rattle.sp_text.specs.Lines.{IsInOneLine}
use Rattle.sp_text.specs.Spelling.{Word}
use Rattle.sp_text.specs.Texts.{is_newline}
use Rattle.sp_text.specs.declared.place.TextRefused.{TextRefused}
use Rattle.sp_text.specs.declared.place.TextRefused.TheVariants as texts
use Rattle.sp_lines.specs.Rows.{line_text}
use Rattle.sp_lines.specs.Texts.{Leads, Stop, first_words}
use Rattle.sp_schedule_events.specs.Events.{event_words}
use Rattle.sp_schedule_events.specs.declared.event.Event.{Event}
use Rattle.sp_schedule_events.specs.declared.scenario.Scenario.{Scenario}
use Rattle.sp_schedule.specs.Lines.{IsParsed, says}
use Rattle.sp_schedule.specs.Readings.{IsReading, at_end, ending_of}
use Rattle.sp_schedule.specs.Refusals.{text_kind}
use Rattle.sp_schedule.specs.Spelling.{bounds_words, epochs_words, header_lines, height_words, scenario_lines, schedule_lines, seed_words, version_words}
use Rattle.sp_schedule.specs.declared.lead.Lead.{Lead}
use Rattle.sp_schedule.specs.declared.lead.Lead.TheVariants as leads
use Rattle.sp_schedule.specs.declared.parsed.Parsed.{Parsed}
use Rattle.sp_schedule.specs.declared.refused.Kind.{Kind}
use Rattle.sp_schedule.specs.declared.refused.ScheduleRefused.{ScheduleRefused}
use Rattle.sp_schedule.specs.declared.refused.ScheduleRefused.TheVariants as refusals
use Rattle.sp_schedule.specs.declared.stage.Ending.{Ending}
use Rattle.sp_schedule.specs.declared.stage.Ending.TheVariants as endings
use Rattle.sp_schedule.specs.declared.stage.Reading.{Reading}
use Rattle.sp_schedule.specs.declared.stage.Stage.{Stage}
use Rattle.sp_schedule.specs.declared.stage.Stage.TheVariants as stages

-- where the lines led that were read, how many they are, and the bytes that wait
pub record Fed : Type 0 where
  pub stage : Stage
  pub count : ℕ
  pub waiting : List ℕ

-- no byte came
abbrev pub unfed : Fed
unfed = record { stage = stages.Start; count = 0; waiting = [] }

-- the lines that lead to a stage
abbrev pub lines_to : Stage → List (List Word)
lines_to stages.Start = []
lines_to (stages.Version format) = version_words format ∷ []
lines_to (stages.Seed format seed) = version_words format ∷ seed_words seed ∷ []
lines_to (stages.Height format seed height) = version_words format ∷ seed_words seed ∷ height_words height ∷ []
lines_to (stages.Bounds format seed height limits) = version_words format ∷ seed_words seed ∷ height_words height ∷ bounds_words limits ∷ []
lines_to (stages.Edges s) = scenario_lines s
lines_to (stages.Bads s) = scenario_lines s
lines_to (stages.Epochs s) = scenario_lines s ++ epochs_words ∷ []
lines_to (stages.Events s es) = header_lines s ++ map (event_words s) es
lines_to (stages.End s es) = schedule_lines s es

-- their text
unfoldable pub text_to : Stage → List ℕ
text_to stage = flat_map line_text (lines_to stage)

-- all bytes that came so far
abbrev pub text_of : Fed → List ℕ
text_of f = text_to f.stage ++ f.waiting

-- a whole line waits, or one that is too long
abbrev pub is_ready : List ℕ → Bool
is_ready waiting = list_any is_newline waiting || nat_lt MAX_LINE_BYTES (length waiting)

-- ---- what the calls do

-- The first bytes of a piece came, so many: all of it, or up to where a line is ready
pub record TakesPiece (old : Fed) (piece : List ℕ) (count : ℕ) (new : Fed) : Type 0 where
  pub stage : new.stage ≡ old.stage
  pub lines : new.count ≡ old.count
  pub waiting : new.waiting ≡ old.waiting ++ take count piece
  pub within : count ≤ length piece
  pub all : (count ≡ length piece) ⊎ (is_ready new.waiting ≡ true)
  pub some : 0 < length piece → 0 < count

-- the line of this number, which waits, leads from one stage to the next, whatever follows
pub record LeadsOn (number : ℕ) (waiting : List ℕ) (stage : Stage) (given : Parsed) (next : Stage) : Type 0 where
  pub words : List Word
  pub first : (more : List ℕ) → first_words number (waiting ++ more) ≡ Ok (words, more)
  pub good : says stage words ≡ Ok next
  pub parsed : IsParsed stage given next

-- the line that waits was read
pub record TakesLine (old : Fed) (parsed : Parsed) (new : Fed) : Type 0 where
  pub leads : LeadsOn (old.count + 1) old.waiting old.stage parsed new.stage
  pub count : new.count ≡ old.count + 1
  pub waiting : new.waiting ≡ []

-- what came so far is read so, with an ending
abbrev pub IsReadAs : Fed → Bool → Ending → Type 0
IsReadAs f is_cut ending = IsReading (text_of f) is_cut (record { stage = f.stage; ending = ending })

-- whatever follows, the line of this number is the first bad one
abbrev pub IsBadLine : Fed → ℕ → Kind → Type 0
IsBadLine f line kind =
    (more : List ℕ) (is_cut : Bool) → IsReading (text_of f ++ more) is_cut (record { stage = f.stage; ending = endings.Refused line kind })

-- what a call that reads the line that waits answered and left
abbrev pub ReadsLine : Fed → Result Parsed ScheduleRefused → Fed → Type 0
ReadsLine old (Ok parsed) new = TakesLine old parsed new × (text_of new ≡ text_of old)
ReadsLine old (Err (refusals.Bad line kind)) new = (new ≡ old) × IsBadLine old line kind
ReadsLine old (Err refusals.Memory) new = new ≡ old

-- ---- what always holds

-- the bytes are a line and its newline
pub record EndsLine (bytes : List ℕ) : Type 0 where
  pub line : List ℕ
  pub is : bytes ≡ line ++ 10 ∷ []
  pub one_line : IsInOneLine line
  pub short : length line ≤ MAX_LINE_BYTES

-- the front of a line: without a newline, and then one byte longer than a line may be at most; or whole
abbrev pub IsFront : List ℕ → Type 0
IsFront bytes = (IsInOneLine bytes × (length bytes ≤ MAX_LINE_BYTES + 1)) ⊎ EndsLine bytes

-- a schedule that was read so far, as a whole text is read
pub record IsFeed (f : Fed) : Type 0 where
  -- whatever follows, its lines lead on from the stage
  pub goes_on : (rest : List ℕ) (last : Stage) (end : ℕ) (stop : Stop Kind) → Leads says f.stage (f.count + 1) rest last end stop
      → Leads says stages.Start 1 (text_to f.stage ++ rest) last end stop
  pub front : IsFront f.waiting
  pub few : f.count ≤ length (text_to f.stage)
  pub size : length (text_of f) ≤ MAX_INPUT_BYTES

-- ---- what the parts of a feed promise each other

-- so many bytes of a piece end with its first newline, or are all of it
abbrev pub IsUpToNewline : List ℕ → ℕ → Type 0
IsUpToNewline piece count =
    ((line : List ℕ) × (take count piece ≡ line ++ 10 ∷ []) × IsInOneLine line) ⊎ ((count ≡ length piece) × IsInOneLine piece)

-- the line of this number, which waits, is the first bad one
pub record StopsAt (number : ℕ) (waiting : List ℕ) (stage : Stage) (kind : Kind) : Type 0 where
  pub stop : Stop Kind
  pub leads : (more : List ℕ) → Leads says stage number (waiting ++ more) stage number stop
  pub ends : (is_cut : Bool) → ending_of is_cut stage number stop ≡ endings.Refused number kind

-- what came of the line of this number, which waits
abbrev pub IsLeadOf : ℕ → List ℕ → Stage → Lead → Type 0
IsLeadOf number waiting stage (leads.To next parsed) = LeadsOn number waiting stage parsed next
IsLeadOf number waiting stage (leads.Bad back kind) = (back ≡ stage) × StopsAt number waiting stage kind
IsLeadOf number waiting stage (leads.Unread back) = back ≡ stage

-- what comes of a line that isn't words
abbrev pub IsRefusedLead : Stage → TextRefused → Lead → Type 0
IsRefusedLead stage texts.Memory lead = lead ≡ leads.Unread stage
IsRefusedLead stage refused lead = lead ≡ leads.Bad stage (text_kind refused)

-- ---- whatever follows

-- the scenario and the events of a stage. A header that isn't whole has none
abbrev pub IsOf : Stage → Scenario → List Event → Type 0
IsOf (stages.Events s es) t fs = (s ≡ t) × (es ≡ fs)
IsOf (stages.End s es) t fs = (s ≡ t) × (es ≡ fs)
IsOf _ t fs = ⊥

-- the events of one stage are the first of the other, of the same scenario
abbrev pub Keeps : Stage → Stage → Type 0
Keeps old new = (s : Scenario) (es : List Event) → IsOf old s es → (more : List Event) × IsOf new s (es ++ more)

-- the lines that were read, without what waits, are read so
abbrev pub AreReadSoFar : Fed → Type 0
AreReadSoFar f = IsReading (text_to f.stage) false (record { stage = f.stage; ending = at_end f.stage (f.count + 1) })

-- a text that begins with all that came has a reading that goes on from here
pub record ReadsOn (f : Fed) (more : List ℕ) (is_cut : Bool) : Type 0 where
  pub reading : Reading
  pub is : IsReading (text_of f ++ more) is_cut reading
  pub keeps : Keeps f.stage reading.stage
