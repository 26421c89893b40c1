use Rattle.sp_hss.proofs.Validity.{seed_signatures_are_valid}
use Rattle.sp_hss.proofs.laws.what_a_seed_signs_is_valid.Goals as goal

pub returns : goal.returns
returns c = seed_signatures_are_valid
