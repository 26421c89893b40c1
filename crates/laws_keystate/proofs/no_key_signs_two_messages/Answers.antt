use Rattle.laws_keystate.proofs.HistoryLemmas.{no_key_twice}
use Rattle.laws_keystate.proofs.no_key_signs_two_messages.Goals as goal

pub returns : goal.returns
returns c = no_key_twice
