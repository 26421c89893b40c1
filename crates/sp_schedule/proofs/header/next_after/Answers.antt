use Rattle.std.proofs.Common.{◌∙◌, sym}
use Rattle.sp_schedule.proofs.HeaderLemmas.{next_of_last}
use Rattle.sp_schedule.proofs.header.next_after.Goals as goal

pub returns-in-Some : goal.returns-in-Some
returns-in-Some c = c.above.ensures ∙ sym (next_of_last 1 c.args.bad.now c.in-Some.last.now (sym c.in-Some.ensures.value))
