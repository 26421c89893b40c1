use Rattle.sp_hss.proofs.Decision.{decided}
use Rattle.sp_hss.proofs.laws.a_test_of_bytes_decides_validity.Goals as goal

pub returns : goal.returns
returns c = decided
