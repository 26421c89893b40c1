use Rattle.sp_schedule_events.proofs.EventLemmas.{events_have_one_line}
use Rattle.sp_schedule_events.proofs.laws.events_have_one_line.Goals as goal

pub returns : goal.returns
returns c = events_have_one_line
