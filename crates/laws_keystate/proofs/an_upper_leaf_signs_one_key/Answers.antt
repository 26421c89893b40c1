use Rattle.laws_keystate.proofs.HistoryLemmas.{one_key}
use Rattle.laws_keystate.proofs.an_upper_leaf_signs_one_key.Goals as goal

pub returns : goal.returns
returns c = one_key
