use Rattle.laws_runs.proofs.WeightRuns.{weights_are_kept}
use Rattle.laws_runs.proofs.weights_are_kept.Goals as goal

pub returns : goal.returns
returns c = weights_are_kept
