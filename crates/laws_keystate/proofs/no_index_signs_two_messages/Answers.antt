use Rattle.laws_keystate.proofs.HistoryLemmas.{no_index_twice}
use Rattle.laws_keystate.proofs.no_index_signs_two_messages.Goals as goal

pub returns : goal.returns
returns c = no_index_twice
