use Rattle.laws_runs.proofs.Versions.{later_versions_follow}
use Rattle.laws_runs.proofs.later_versions_follow.Goals as goal

pub returns : goal.returns
returns c = later_versions_follow
