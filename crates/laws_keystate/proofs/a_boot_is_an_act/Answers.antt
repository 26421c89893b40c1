use Rattle.laws_keystate.proofs.CallLemmas.{a_boot_is_an_act}
use Rattle.laws_keystate.proofs.a_boot_is_an_act.Goals as goal

pub returns : goal.returns
returns c = a_boot_is_an_act
