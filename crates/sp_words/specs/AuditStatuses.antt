-- The number with which the auditor ends, by its status.
use Rattle.std.specs.Prelude.{ℕ}
use Rattle.sp_words.specs.declared.audit_status.AuditStatus.{AuditStatus}
use Rattle.sp_words.specs.declared.audit_status.AuditStatus.TheVariants as statuses

abbrev pub audit_code_of : AuditStatus → ℕ
audit_code_of statuses.Done = 0
audit_code_of statuses.Usage = 2
audit_code_of statuses.Refused = 3
audit_code_of statuses.Source = 5
audit_code_of statuses.Sink = 6
audit_code_of statuses.Memory = 9
audit_code_of statuses.Broken = 14
