use Rattle.sp_hss.proofs.Uses.{one_message}
use Rattle.sp_hss.proofs.laws.no_leaf_signs_two_messages.Goals as goal

pub returns : goal.returns
returns c = one_message
