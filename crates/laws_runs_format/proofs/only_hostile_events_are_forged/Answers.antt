use Rattle.laws_runs_format.proofs.Hostile.{only_hostile}
use Rattle.laws_runs_format.proofs.only_hostile_events_are_forged.Goals as goal

pub returns : goal.returns
returns c = only_hostile
