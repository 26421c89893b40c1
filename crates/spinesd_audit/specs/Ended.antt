-- How the program ends over two files and a writer: its number, and what the writer got.
use Rattle.std.specs.Prelude.{ℕ, ◌≡◌, List, Option, Result}
use Rattle.sp_auditor.specs.Ends.{Ends}
use Rattle.sp_words.specs.AuditStatuses.{audit_code_of}
use Rattle.sp_words.specs.declared.audit_line.AuditLine.{AuditLine}
use Rattle.sp_words.specs.declared.audit_status.AuditStatus.{AuditStatus}
use Rattle.sp_words.specs.declared.refused.WordsRefused.{WordsRefused}

-- What these words said ended with this number. The files had so much left and their sources so many faults, and the writer held so much before and after
pub record Ended (said : Result AuditLine WordsRefused) (schedule_left : Option (List ℕ)) (schedule_faults : ℕ) (journal_left : Option (List ℕ))
    (journal_faults : ℕ) (before after : Option (List ℕ)) (code : ℕ) : Type 0 where
  pub status : AuditStatus
  pub code_is : code ≡ audit_code_of status
  -- the faults of each source at the end
  pub schedule_after : ℕ
  pub journal_after : ℕ
  pub ends : Ends said (record { left = schedule_left; before = schedule_faults; after = schedule_after })
      (record { left = journal_left; before = journal_faults; after = journal_after }) status before after
