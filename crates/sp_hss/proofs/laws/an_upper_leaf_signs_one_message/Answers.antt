use Rattle.sp_hss.proofs.Uses.{upper_leaf}
use Rattle.sp_hss.proofs.laws.an_upper_leaf_signs_one_message.Goals as goal

pub returns : goal.returns
returns c = upper_leaf
