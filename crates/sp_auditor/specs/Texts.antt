-- What a text is: a schedule or a journal, whole and in its one spelling, or why it is none. Where it is cut there were more bytes than are read.
use Rattle.std.specs.Prelude.{ℕ, ◌≡◌, nat_lt, Bool, true, false, List, length, take}
use Rattle.sp_journal.specs.JournalText.{journal_text}
use Rattle.sp_journal.specs.declared.entry.Entry.{Entry}
use Rattle.sp_journal_reading.specs.Reading.{IsBadAt, IsJournal}
use Rattle.sp_outside.specs.declared.streams.Input.{Input}
use Rattle.sp_schedule.specs.Readings.{IsReading}
use Rattle.sp_schedule.specs.Scenarios.{IsSchedule}
use Rattle.sp_schedule.specs.Spelling.{schedule_text}
use Rattle.sp_schedule.specs.declared.refused.Kind.{Kind}
use Rattle.sp_schedule.specs.declared.stage.Ending.TheVariants as endings
use Rattle.sp_schedule.specs.declared.stage.Stage.{Stage}
use Rattle.sp_schedule_events.specs.declared.event.Event.{Event}
use Rattle.sp_schedule_events.specs.declared.scenario.Scenario.{Scenario}
use Rattle.sp_auditor.specs.declared.cause.Unfit.{Unfit}
use Rattle.sp_auditor.specs.declared.cause.Unfit.TheVariants as unfits
use Rattle.sp_auditor.specs.declared.journal.Told.{Told}
use Rattle.sp_auditor.specs.declared.journal.Told.TheVariants as tellings
use Rattle.sp_auditor.specs.declared.schedule.Plain.{Plain}
use Rattle.sp_auditor.specs.declared.schedule.Plain.TheVariants as plains
use Rattle.sp_auditor.specs.declared.schedule.Whole.{Whole}
use Rattle.sp_auditor.specs.declared.schedule.Whole.TheVariants as wholes

-- a file as it is read: its first bytes, and whether it has more
pub record File : Type 0 where
  pub text : List ℕ
  pub is_cut : Bool

-- the file of an input
abbrev pub file_of : Input → File
file_of input = record { text = input.bytes.items; is_cut = input.is_cut }

-- the file of these bytes, of which no more than so many are read
abbrev pub file_up_to : ℕ → List ℕ → File
file_up_to most bytes = record { text = take most bytes; is_cut = nat_lt most (length bytes) }

-- ---- schedules

-- the whole text is that of this schedule
pub record TellsSchedule (f : File) (s : Scenario) (es : List Event) : Type 0 where
  pub good : IsSchedule s es
  pub is_text : f.text ≡ schedule_text s es
  pub whole : f.is_cut ≡ false

-- the line of this number is the first bad one, for this reason
pub record IsBadSchedule (f : File) (line : ℕ) (kind : Kind) : Type 0 where
  pub stage : Stage
  pub reading : IsReading f.text f.is_cut (record { stage = stage; ending = endings.Refused line kind })

-- what a file says as a schedule
abbrev pub IsWholeIn : File → Whole → Type 0
IsWholeIn f (wholes.Schedule s es) = TellsSchedule f s es
IsWholeIn f (wholes.Bad line kind) = IsBadSchedule f line kind

-- the schedule of a text has epochs
pub record HasEpochs (f : File) : Type 0 where
  pub scenario : Scenario
  pub events : List Event
  pub tells : TellsSchedule f scenario events
  pub epochs : scenario.epochs ≡ true

-- no run of the text's schedule is judged
abbrev pub IsUnfit : File → Unfit → Type 0
IsUnfit f (unfits.Bad line kind) = IsBadSchedule f line kind
IsUnfit f unfits.Epochs = HasEpochs f

-- the text's schedule, which has no epochs
pub record TellsPlain (f : File) (s : Scenario) (es : List Event) : Type 0 where
  pub tells : TellsSchedule f s es
  pub plain : s.epochs ≡ false

-- what a file says as a schedule that can be judged
abbrev pub IsPlainIn : File → Plain → Type 0
IsPlainIn f (plains.Schedule s es) = TellsPlain f s es
IsPlainIn f (plains.Unfit unfit) = IsUnfit f unfit

-- the schedule as it is, unless it has epochs
abbrev pub IsWithoutEpochs : Scenario → List Event → Plain → Type 0
IsWithoutEpochs s es (plains.Schedule t fs) = (s ≡ t) × (es ≡ fs) × (s.epochs ≡ false)
IsWithoutEpochs s es (plains.Unfit unfit) = (unfit ≡ unfits.Epochs) × (s.epochs ≡ true)

-- ---- journals

-- the whole text is that of this journal
pub record TellsJournal (f : File) (js : List Entry) : Type 0 where
  pub good : IsJournal js
  pub is_text : f.text ≡ journal_text js
  pub whole : f.is_cut ≡ false

-- the line of this number is the first bad one
pub record IsBadJournal (f : File) (line : ℕ) : Type 0 where
  pub bad : IsBadAt f.text line
  pub whole : f.is_cut ≡ false

-- what a file says as a journal
abbrev pub IsToldIn : File → Told → Type 0
IsToldIn f (tellings.Journal js) = TellsJournal f js
IsToldIn f (tellings.Bad line) = IsBadJournal f line
IsToldIn f tellings.Long = f.is_cut ≡ true
