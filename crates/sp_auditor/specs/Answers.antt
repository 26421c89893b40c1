-- What each command answers for the files that it reads: a text and a status.
use Rattle.std.specs.Prelude.{ℕ, ◌≡◌, Bool, true, false, List, Option}
use Rattle.sp_base.specs.declared.id.NodeId.{NodeId}
use Rattle.sp_base.specs.declared.limits.TheConstants.{MAX_INPUT_BYTES}
use Rattle.sp_outside.specs.Streams.{IsInput}
use Rattle.sp_words.specs.declared.audit_line.AuditLine.{AuditLine}
use Rattle.sp_words.specs.declared.audit_line.AuditLine.TheVariants as lines
use Rattle.sp_words.specs.declared.audit_status.AuditStatus.{AuditStatus}
use Rattle.sp_auditor.specs.Counts.{IsCounted}
use Rattle.sp_auditor.specs.Lines.{count_line, count_status, told_status, told_text, verdict_line, verdict_status, whole_status, whole_text}
use Rattle.sp_auditor.specs.Texts.{File, IsToldIn, IsWholeIn}
use Rattle.sp_auditor.specs.Verdicts.{IsVerdict}
use Rattle.sp_auditor.specs.declared.count.Count.{Count}
use Rattle.sp_auditor.specs.declared.journal.Told.{Told}
use Rattle.sp_auditor.specs.declared.journal.TheConstants.{MAX_JOURNAL_BYTES}
use Rattle.sp_auditor.specs.declared.schedule.Whole.{Whole}
use Rattle.sp_auditor.specs.declared.verdict.Verdict.{Verdict}

-- ---- by what is asked

-- the line of the verdict on the run that the files tell
pub record SaysVerdict (schedule journal : File) (text : List ℕ) (status : AuditStatus) : Type 0 where
  pub verdict : Verdict
  pub is : IsVerdict schedule journal verdict
  pub text_is : text ≡ verdict_line verdict
  pub status_is : status ≡ verdict_status verdict

-- the line of the count of the path's rounds
pub record SaysCount (path : List NodeId) (from : ℕ) (schedule : File) (text : List ℕ) (status : AuditStatus) : Type 0 where
  pub count : Count
  pub is : IsCounted schedule path from count
  pub text_is : text ≡ count_line count
  pub status_is : status ≡ count_status count

-- the schedule's text, or its first bad line
pub record SaysSchedule (schedule : File) (text : List ℕ) (status : AuditStatus) : Type 0 where
  pub whole : Whole
  pub is : IsWholeIn schedule whole
  pub text_is : text ≡ whole_text whole
  pub status_is : status ≡ whole_status whole

-- the journal's text, or its first bad line
pub record SaysJournal (journal : File) (text : List ℕ) (status : AuditStatus) : Type 0 where
  pub told : Told
  pub is : IsToldIn journal told
  pub text_is : text ≡ told_text told
  pub status_is : status ≡ told_status told

-- what a command line's answer is for these files
abbrev pub Says : AuditLine → (schedule journal : File) → List ℕ → AuditStatus → Type 0
Says (lines.Run s j) schedule journal text status = SaysVerdict schedule journal text status
Says (lines.Rounds q) schedule journal text status = SaysCount q.path.items q.from schedule text status
Says (lines.Schedule s) schedule journal text status = SaysSchedule schedule text status
Says (lines.Journal j) schedule journal text status = SaysJournal journal text status

-- ---- by what the sources had left

-- whether a command reads a schedule
abbrev pub reads_schedule : AuditLine → Bool
reads_schedule (lines.Journal j) = false
reads_schedule _ = true

-- whether a command reads a journal
abbrev pub reads_journal : AuditLine → Bool
reads_journal (lines.Run s j) = true
reads_journal (lines.Journal j) = true
reads_journal _ = false

-- the answer for what two sources had left, of which no more is read than may be
pub record Answers (line : AuditLine) (schedule_left journal_left : Option (List ℕ)) (text : List ℕ) (status : AuditStatus) : Type 0 where
  pub schedule : File
  pub journal : File
  pub schedule_read : reads_schedule line ≡ true → IsInput schedule_left MAX_INPUT_BYTES schedule.text schedule.is_cut
  pub journal_read : reads_journal line ≡ true → IsInput journal_left MAX_JOURNAL_BYTES journal.text journal.is_cut
  pub says : Says line schedule journal text status
