use Rattle.laws_node.proofs.GreatestWeights.{greatest}
use Rattle.laws_node.proofs.weight_laws.an_effective_weight_is_the_greatest_of_the_last_ones.Goals as goal

pub returns : goal.returns
returns c = greatest
