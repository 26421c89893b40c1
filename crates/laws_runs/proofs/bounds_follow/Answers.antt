use Rattle.laws_runs.proofs.Bounds.{bounds_follow}
use Rattle.laws_runs.proofs.bounds_follow.Goals as goal

pub returns : goal.returns
returns c = bounds_follow
