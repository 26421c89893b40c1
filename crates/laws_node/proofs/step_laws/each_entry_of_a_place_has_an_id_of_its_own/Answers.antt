use Rattle.laws_node.proofs.Ids.{ids_stay_own}
use Rattle.laws_node.proofs.step_laws.each_entry_of_a_place_has_an_id_of_its_own.Goals as goal

pub returns : goal.returns
returns c = ids_stay_own
