use Rattle.sp_service.proofs.KeyHistories.{they_are_runs}
use Rattle.sp_service.proofs.laws.daemons_are_runs.Goals as goal

pub returns : goal.returns
returns c = they_are_runs
