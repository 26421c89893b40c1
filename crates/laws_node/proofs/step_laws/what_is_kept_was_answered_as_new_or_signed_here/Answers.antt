use Rattle.laws_node.proofs.Steps.{what_is_new_is_kept}
use Rattle.laws_node.proofs.step_laws.what_is_kept_was_answered_as_new_or_signed_here.Goals as goal

pub returns : goal.returns
returns c = what_is_new_is_kept
