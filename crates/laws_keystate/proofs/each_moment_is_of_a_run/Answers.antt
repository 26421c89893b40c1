use Rattle.laws_keystate.proofs.MomentLemmas.{each_moment}
use Rattle.laws_keystate.proofs.each_moment_is_of_a_run.Goals as goal

pub returns : goal.returns
returns g c = each_moment g.N.Core.steps g.N.Core.indexes
