use Rattle.sp_hss.proofs.Uses.{two_leaves}
use Rattle.sp_hss.proofs.laws.two_leaves_make_a_signature.Goals as goal

pub returns : goal.returns
returns c = two_leaves
