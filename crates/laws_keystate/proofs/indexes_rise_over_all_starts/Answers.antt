use Rattle.laws_keystate.proofs.HistoryLemmas.{indexes_rise}
use Rattle.laws_keystate.proofs.indexes_rise_over_all_starts.Goals as goal

pub returns : goal.returns
returns c = indexes_rise
