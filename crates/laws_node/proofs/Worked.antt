-- The worked story, by computing.
use Rattle.std.proofs.Common.{refl}
use Rattle.sp_rules.specs.Store.{ids}
use Rattle.laws_node.specs.Acknowledgement.{AcknowledgementIsWorked}

pub worked : AcknowledgementIsWorked
unfolding ids
worked = refl
