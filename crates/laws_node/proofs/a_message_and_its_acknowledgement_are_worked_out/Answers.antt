use Rattle.laws_node.proofs.Worked.{worked}
use Rattle.laws_node.proofs.a_message_and_its_acknowledgement_are_worked_out.Goals as goal

pub returns : goal.returns
returns c = worked
