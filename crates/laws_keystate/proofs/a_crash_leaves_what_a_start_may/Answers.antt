use Rattle.laws_keystate.proofs.CallLemmas.{a_crash_leaves}
use Rattle.laws_keystate.proofs.a_crash_leaves_what_a_start_may.Goals as goal

pub returns : goal.returns
returns c = a_crash_leaves
