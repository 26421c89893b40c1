use Rattle.laws_keystate.proofs.MomentLemmas.{starts_sign}
use Rattle.laws_keystate.proofs.starts_sign.Goals as goal

pub returns : goal.returns
returns c = starts_sign
