-- Laws of verdicts.
use Rattle.std.specs.Prelude.{ℕ, ◌≡◌, ◌≤◌, ◌↔◌, false, List, length}
use Rattle.laws_runs.specs.Good.{AreGood}
use Rattle.sp_audit.specs.Refusals.{IsFirstBroken}
use Rattle.sp_base.specs.declared.limits.TheConstants.{MAX_INPUT_BYTES}
use Rattle.sp_journal.specs.JournalText.{journal_text}
use Rattle.sp_journal.specs.declared.entry.Entry.{Entry}
use Rattle.sp_journal_reading.specs.Reading.{IsJournal}
use Rattle.sp_runs.specs.Scenarios.{setting_of}
use Rattle.sp_schedule.specs.Scenarios.{IsSchedule}
use Rattle.sp_schedule.specs.Spelling.{schedule_text}
use Rattle.sp_schedule_events.specs.declared.event.Event.{Event}
use Rattle.sp_schedule_events.specs.declared.scenario.Scenario.{Scenario}
use Rattle.sp_auditor.specs.Causes.{IsCause}
use Rattle.sp_auditor.specs.Texts.{File, file_up_to}
use Rattle.sp_auditor.specs.Verdicts.{IsVerdict}
use Rattle.sp_auditor.specs.declared.cause.Cause.{Cause}
use Rattle.sp_auditor.specs.declared.journal.TheConstants.{MAX_JOURNAL_BYTES}
use Rattle.sp_auditor.specs.declared.verdict.Verdict.{Verdict}
use Rattle.sp_auditor.specs.declared.verdict.Verdict.TheVariants as verdicts

-- two files have one verdict
abbrev pub OneVerdict : Type 0
OneVerdict = (schedule journal : File) (a b : Verdict) → IsVerdict schedule journal a → IsVerdict schedule journal b → a ≡ b

-- where a run is judged there is no cause why it isn't
abbrev pub NoCauseBesideAVerdict : Type 0
NoCauseBesideAVerdict =
    (schedule journal : File) (verdict : Verdict) (cause : Cause) → IsVerdict schedule journal verdict → IsCause schedule journal cause
    → verdict ≡ verdicts.Unjudged cause

-- a schedule without epochs and a journal with an entry for each of its events, whose texts may be read
pub record IsRun (s : Scenario) (es : List Event) (js : List Entry) : Type 0 where
  pub schedule : IsSchedule s es
  pub journal : IsJournal js
  pub plain : s.epochs ≡ false
  pub even : length es ≡ length js
  pub schedule_fits : length (schedule_text s es) ≤ MAX_INPUT_BYTES
  pub journal_fits : length (journal_text js) ≤ MAX_JOURNAL_BYTES

-- the texts of a run have a verdict by its events and entries alone: kept exactly where none of them breaks a promise, and broken at the first that does
abbrev pub TextsHaveTheirVerdict : Type 0
TextsHaveTheirVerdict =
    (s : Scenario) (es : List Event) (js : List Entry) → IsRun s es js
    → let schedule = file_up_to MAX_INPUT_BYTES (schedule_text s es) in
    let journal = file_up_to MAX_JOURNAL_BYTES (journal_text js) in
    (IsVerdict schedule journal verdicts.Kept ↔ AreGood (setting_of s) es js)
    × ((n : ℕ) → IsVerdict schedule journal (verdicts.Broken n) ↔ IsFirstBroken (setting_of s) es js n)
