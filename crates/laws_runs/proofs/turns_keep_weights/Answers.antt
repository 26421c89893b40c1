use Rattle.laws_runs.proofs.WeightRuns.{turns_keep_weights}
use Rattle.laws_runs.proofs.turns_keep_weights.Goals as goal

pub returns : goal.returns
returns c = turns_keep_weights
