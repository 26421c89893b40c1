use Rattle.std.proofs.Common.{Err, ap}
use Rattle.sp_top.proofs.Said.{no_line}
use Rattle.sp_top.proofs.command.command_of.Goals as goal

pub returns-in-Err-Usage-clause-said : goal.returns-in-Err-Usage-clause-said
returns-in-Err-Usage-clause-said c = no_line _ (c.in-Err-Usage.ensures.usage (ap Err c.in-Err-Usage.field-0-is))
