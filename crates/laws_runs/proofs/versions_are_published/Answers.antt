use Rattle.laws_runs.proofs.Versions.{versions_are_published}
use Rattle.laws_runs.proofs.versions_are_published.Goals as goal

pub returns : goal.returns
returns c = versions_are_published
