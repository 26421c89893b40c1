use Rattle.laws_keystate.proofs.DiskImages.{a_write}
use Rattle.laws_keystate.proofs.a_write_takes_no_image.Goals as goal

pub returns : goal.returns
returns c = a_write
