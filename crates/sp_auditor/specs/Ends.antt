-- How a run of the auditor ends: its status, and what the sink got.
use Rattle.std.specs.Prelude.{ℕ, ◌≡◌, ◌⊎◌, true, List, Option, Result, Ok, Err}
use Rattle.std.specs.Io.KnownBytes.{Appends}
use Rattle.sp_outside.specs.Causes.{Rose}
use Rattle.sp_outside.specs.Streams.{AppendsFront}
use Rattle.sp_words.specs.declared.audit_line.AuditLine.{AuditLine}
use Rattle.sp_words.specs.declared.audit_status.AuditStatus.{AuditStatus}
use Rattle.sp_words.specs.declared.audit_status.AuditStatus.TheVariants as statuses
use Rattle.sp_words.specs.declared.refused.WordsRefused.{WordsRefused}
use Rattle.sp_words.specs.declared.refused.WordsRefused.TheVariants as refusals
use Rattle.sp_auditor.specs.Answers.{Answers, reads_journal, reads_schedule}
use Rattle.sp_auditor.specs.Lines.{unreadable_journal, unreadable_schedule, usage_line}

-- the reads of one file: what it had left before them, and how many faults its source counted before and after
pub record Reads : Type 0 where
  pub left : Option (List ℕ)
  pub before : ℕ
  pub after : ℕ

-- one of them failed
abbrev pub HasFailed : Reads → Type 0
HasFailed r = Rose r.before r.after

-- none of them failed
abbrev pub AreFine : Reads → Type 0
AreFine r = r.after ≡ r.before

-- What is written for what the words say and what the files had left, with the status that goes with it. An answer comes only where no read failed, and a file
-- is unreadable only where one of its own reads did
pub data IsOutput (schedule journal : Reads) : Result AuditLine WordsRefused → AuditStatus → List ℕ → Type 0 where
  No_command : AreFine schedule → AreFine journal → IsOutput schedule journal (Err refusals.Usage) statuses.Usage usage_line
  Answered : (line : AuditLine) (status : AuditStatus) (text : List ℕ) → AreFine schedule → AreFine journal
      → Answers line schedule.left journal.left text status → IsOutput schedule journal (Ok line) status text
  No_schedule : (line : AuditLine) → reads_schedule line ≡ true → HasFailed schedule → AreFine journal
      → IsOutput schedule journal (Ok line) statuses.Source unreadable_schedule
  No_journal : (line : AuditLine) → reads_journal line ≡ true → AreFine schedule → HasFailed journal
      → IsOutput schedule journal (Ok line) statuses.Source unreadable_journal

-- the run ended so, and this text was written; or the sink failed, and has a beginning of it
abbrev pub IsTold : AuditStatus → List ℕ → AuditStatus → (before after : Option (List ℕ)) → Type 0
IsTold would text status before after =
    ((status ≡ would) × Appends before after text) ⊎ ((status ≡ statuses.Sink) × AppendsFront before after text)

-- an output was written, as far as the sink took it
pub record IsWritten (said : Result AuditLine WordsRefused) (schedule journal : Reads) (status : AuditStatus) (before after : Option (List ℕ)) : Type 0 where
  pub would : AuditStatus
  pub text : List ℕ
  pub is_output : IsOutput schedule journal said would text
  pub told : IsTold would text status before after

-- there was no memory for one: no read failed, and nothing was written
pub record IsQuiet (schedule journal : Reads) (status : AuditStatus) (before after : Option (List ℕ)) : Type 0 where
  pub schedule_fine : AreFine schedule
  pub journal_fine : AreFine journal
  pub status_is : status ≡ statuses.Memory
  pub nothing : after ≡ before

-- an output was written, or there was no memory for it
abbrev pub Ends : Result AuditLine WordsRefused → (schedule journal : Reads) → AuditStatus → (before after : Option (List ℕ)) → Type 0
Ends said schedule journal status before after = IsWritten said schedule journal status before after ⊎ IsQuiet schedule journal status before after
