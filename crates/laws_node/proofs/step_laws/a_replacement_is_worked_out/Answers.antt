use Rattle.laws_node.proofs.Replaced.{replaced}
use Rattle.laws_node.proofs.step_laws.a_replacement_is_worked_out.Goals as goal

pub returns : goal.returns
returns c = replaced
