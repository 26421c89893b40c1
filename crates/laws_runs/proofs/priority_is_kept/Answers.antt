use Rattle.laws_runs.proofs.PrioRuns.{priority_is_kept}
use Rattle.laws_runs.proofs.priority_is_kept.Goals as goal

pub returns : goal.returns
returns c = priority_is_kept
