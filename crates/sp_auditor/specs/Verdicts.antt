-- The verdict on the run that a schedule and a journal tell.
use Rattle.std.specs.Prelude.{ℕ, ◌≡◌, List, length}
use Rattle.laws_runs.specs.Good.{AreGood}
use Rattle.sp_audit.specs.Refusals.{IsFirstBroken}
use Rattle.sp_journal.specs.declared.entry.Entry.{Entry}
use Rattle.sp_runs.specs.Scenarios.{setting_of}
use Rattle.sp_schedule_events.specs.declared.event.Event.{Event}
use Rattle.sp_schedule_events.specs.declared.scenario.Scenario.{Scenario}
use Rattle.sp_auditor.specs.Causes.{IsCause}
use Rattle.sp_auditor.specs.Texts.{File, TellsJournal, TellsPlain}
use Rattle.sp_auditor.specs.declared.verdict.Verdict.{Verdict}
use Rattle.sp_auditor.specs.declared.verdict.Verdict.TheVariants as verdicts

-- the two files tell this run: a schedule without epochs, and a journal with an entry for each of its events
pub record TellsRun (schedule journal : File) (s : Scenario) (es : List Event) (js : List Entry) : Type 0 where
  pub plain : TellsPlain schedule s es
  pub told : TellsJournal journal js
  pub even : length es ≡ length js

-- no event of the run breaks a promise
pub record IsKept (schedule journal : File) : Type 0 where
  pub scenario : Scenario
  pub events : List Event
  pub entries : List Entry
  pub run : TellsRun schedule journal scenario events entries
  pub good : AreGood (setting_of scenario) events entries

-- the event of this number is the first of the run that breaks one
pub record IsBroken (schedule journal : File) (event : ℕ) : Type 0 where
  pub scenario : Scenario
  pub events : List Event
  pub entries : List Entry
  pub run : TellsRun schedule journal scenario events entries
  pub first : IsFirstBroken (setting_of scenario) events entries event

-- the verdict on the run that two files tell
abbrev pub IsVerdict : (schedule journal : File) → Verdict → Type 0
IsVerdict schedule journal verdicts.Kept = IsKept schedule journal
IsVerdict schedule journal (verdicts.Broken event) = IsBroken schedule journal event
IsVerdict schedule journal (verdicts.Unjudged cause) = IsCause schedule journal cause
