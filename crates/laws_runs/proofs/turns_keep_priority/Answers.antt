use Rattle.laws_runs.proofs.PrioRuns.{turns_keep_priority}
use Rattle.laws_runs.proofs.turns_keep_priority.Goals as goal

pub returns : goal.returns
returns c = turns_keep_priority
