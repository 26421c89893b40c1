use Rattle.sp_hss.proofs.Uses.{two_indexes}
use Rattle.sp_hss.proofs.laws.two_indexes_have_two_leaves.Goals as goal

pub returns : goal.returns
returns c = two_indexes
