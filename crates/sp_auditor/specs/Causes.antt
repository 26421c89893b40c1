-- Why a run isn't judged that two texts tell, a schedule's and a journal's. The schedule is judged first, then the journal, and then the two together.
use Rattle.std.specs.Prelude.{ℕ, ◌≡◌, ◌≢◌, true, List, length}
use Rattle.sp_journal.specs.declared.entry.Entry.{Entry}
use Rattle.sp_schedule_events.specs.declared.event.Event.{Event}
use Rattle.sp_schedule_events.specs.declared.scenario.Scenario.{Scenario}
use Rattle.sp_auditor.specs.Texts.{File, IsBadJournal, IsUnfit, TellsJournal, TellsPlain}
use Rattle.sp_auditor.specs.declared.cause.Cause.{Cause}
use Rattle.sp_auditor.specs.declared.cause.Cause.TheVariants as causes

-- the file has a schedule without epochs
pub record HasPlain (schedule : File) : Type 0 where
  pub scenario : Scenario
  pub events : List Event
  pub tells : TellsPlain schedule scenario events

-- both files are good, and tell so many events and so many entries
pub record HasCounts (schedule journal : File) (events entries : ℕ) : Type 0 where
  pub scenario : Scenario
  pub run : List Event
  pub story : List Entry
  pub plain : TellsPlain schedule scenario run
  pub told : TellsJournal journal story
  pub events_are : length run ≡ events
  pub entries_are : length story ≡ entries
  pub differ : events ≢ entries

-- two files have this cause
abbrev pub IsCause : (schedule journal : File) → Cause → Type 0
IsCause schedule journal (causes.Schedule unfit) = IsUnfit schedule unfit
IsCause schedule journal (causes.Journal line) = HasPlain schedule × IsBadJournal journal line
IsCause schedule journal causes.LongJournal = HasPlain schedule × (journal.is_cut ≡ true)
IsCause schedule journal (causes.Unequal events entries) = HasCounts schedule journal events entries
