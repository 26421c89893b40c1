use Rattle.laws_node.proofs.LifeWeights.{weights_of_lives}
use Rattle.laws_node.proofs.life_laws.an_effective_weight_is_what_a_life_tells.Goals as goal

pub returns : goal.returns
returns c = weights_of_lives
