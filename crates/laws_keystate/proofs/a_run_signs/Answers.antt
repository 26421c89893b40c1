use Rattle.laws_keystate.proofs.SomeRun.{a_run_signs}
use Rattle.laws_keystate.proofs.a_run_signs.Goals as goal

pub returns : goal.returns
returns c = a_run_signs
