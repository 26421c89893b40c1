use Rattle.laws_runs.proofs.Versions.{documents_are_held}
use Rattle.laws_runs.proofs.documents_are_held.Goals as goal

pub returns : goal.returns
returns c = documents_are_held
