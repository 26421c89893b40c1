use Rattle.laws_keystate.proofs.HistoryLemmas.{signs_what_it_reserved}
use Rattle.laws_keystate.proofs.a_start_signs_what_it_reserved.Goals as goal

pub returns : goal.returns
returns c = signs_what_it_reserved
