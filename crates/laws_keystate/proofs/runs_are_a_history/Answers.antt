use Rattle.laws_keystate.proofs.StoppedLemmas.{runs_are_a_history}
use Rattle.laws_keystate.proofs.runs_are_a_history.Goals as goal

pub returns : goal.returns
returns g c = runs_are_a_history g.N.Core.steps g.N.Core.indexes
