use Rattle.sp_lms.proofs.Validity.{seed_signatures_are_valid}
use Rattle.sp_lms.proofs.laws.what_a_seed_signs_is_valid.Goals as goal

pub returns : goal.returns
returns c = seed_signatures_are_valid
