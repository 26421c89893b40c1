use Rattle.std.specs.Fmt.{decimal}
use Rattle.sp_words.specs.AuditLines.{path_text}
use Rattle.sp_words.proofs.audit_values.rounds.Goals as goal

pub returns-in_default : goal.returns-in_default
returns-in_default c = λ q is. c.in_default.ensures.none q.schedule.now (path_text q.path.items) (decimal q.from) is.1
