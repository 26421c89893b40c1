use Rattle.laws_keystate.proofs.StoppedLemmas.{a_run_is_a_start}
use Rattle.laws_keystate.proofs.a_run_is_a_start.Goals as goal

pub returns : goal.returns
returns g c = a_run_is_a_start g.N.Core.steps g.N.Core.indexes
