use Rattle.laws_node.proofs.Objects.{objects_are_answered}
use Rattle.laws_node.proofs.step_laws.the_objects_of_a_frame_are_answered_in_their_order.Goals as goal

pub returns : goal.returns
returns c = objects_are_answered
