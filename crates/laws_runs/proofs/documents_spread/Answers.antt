use Rattle.laws_runs.proofs.Versions.{documents_spread}
use Rattle.laws_runs.proofs.documents_spread.Goals as goal

pub returns : goal.returns
returns c = documents_spread
