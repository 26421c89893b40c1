use Rattle.laws_keystate.proofs.SomeHistory.{a_history_signs}
use Rattle.laws_keystate.proofs.a_history_signs.Goals as goal

pub returns : goal.returns
returns c = a_history_signs
