use Rattle.laws_keystate.proofs.StoppedLemmas.{no_run_signs_again}
use Rattle.laws_keystate.proofs.no_run_signs_again.Goals as goal

pub returns : goal.returns
returns g c = no_run_signs_again g.N.Core.steps g.N.Core.indexes
