use Rattle.laws_keystate.proofs.CallLemmas.{an_open_begins}
use Rattle.laws_keystate.proofs.an_open_begins_a_start.Goals as goal

pub returns : goal.returns
returns c = an_open_begins
