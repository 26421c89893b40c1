use Rattle.sp_epoch.proofs.HistoryLemmas.{some_calls_are_a_history}
use Rattle.sp_epoch.proofs.laws.some_calls_are_a_history.Goals as goal

pub returns : goal.returns
returns c = some_calls_are_a_history
