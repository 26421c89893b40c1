use Rattle.laws_node.proofs.LifeLinks.{pairs_of_lives}
use Rattle.laws_node.proofs.life_laws.a_node_keeps_the_greatest_pair_of_each_neighbour.Goals as goal

pub returns : goal.returns
returns c = pairs_of_lives
