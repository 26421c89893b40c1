use Rattle.laws_keystate.proofs.HistoryLemmas.{boots_rise_in}
use Rattle.laws_keystate.proofs.boots_rise_over_all_starts.Goals as goal

pub returns : goal.returns
returns c = boots_rise_in
