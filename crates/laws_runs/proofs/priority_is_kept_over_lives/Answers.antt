use Rattle.laws_runs.proofs.PrioRuns.{life_priority_is_kept}
use Rattle.laws_runs.proofs.priority_is_kept_over_lives.Goals as goal

pub returns : goal.returns
returns c = life_priority_is_kept
