use Rattle.sp_service.proofs.KeyHistories.{none_signs_again}
use Rattle.sp_service.proofs.laws.no_daemon_signs_again.Goals as goal

pub returns : goal.returns
returns c = none_signs_again
