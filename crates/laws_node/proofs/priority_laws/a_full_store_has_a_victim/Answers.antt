use Rattle.laws_node.proofs.Lost.{a_full_store_has_a_victim}
use Rattle.laws_node.proofs.priority_laws.a_full_store_has_a_victim.Goals as goal

pub returns : goal.returns
returns c = a_full_store_has_a_victim
