use Rattle.laws_paths.proofs.Duality.{certified_is_least}
use Rattle.laws_paths.proofs.laws.potentials_prove_the_least_cost.Goals as goal

pub returns : goal.returns
returns c = certified_is_least
