use Rattle.laws_keystate.proofs.MomentLemmas.{turns_sign}
use Rattle.laws_keystate.proofs.turns_sign.Goals as goal

pub returns : goal.returns
returns g c = turns_sign g.N.Core.steps g.N.Core.indexes
