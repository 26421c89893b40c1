use Rattle.sp_epoch.proofs.HistoryLemmas.{nothing_is_given_twice}
use Rattle.sp_epoch.proofs.laws.nothing_is_given_twice.Goals as goal

pub returns : goal.returns
returns c = nothing_is_given_twice
