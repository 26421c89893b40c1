use Rattle.laws_runs.proofs.WeightRuns.{weights_are_kept_over_lives}
use Rattle.laws_runs.proofs.weights_are_kept_over_lives.Goals as goal

pub returns : goal.returns
returns c = weights_are_kept_over_lives
