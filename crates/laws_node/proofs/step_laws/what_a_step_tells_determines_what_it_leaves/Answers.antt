use Rattle.laws_node.proofs.Determined.{steps_are_determined}
use Rattle.laws_node.proofs.step_laws.what_a_step_tells_determines_what_it_leaves.Goals as goal

pub returns : goal.returns
returns c = steps_are_determined
