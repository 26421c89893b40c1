use Rattle.laws_runs_format.proofs.Schedules.{scheduled_events_are_in_range}
use Rattle.laws_runs_format.proofs.scheduled_events_are_in_range.Goals as goal

pub returns : goal.returns
returns c = scheduled_events_are_in_range
