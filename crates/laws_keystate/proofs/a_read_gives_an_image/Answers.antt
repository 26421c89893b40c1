use Rattle.laws_keystate.proofs.DiskImages.{a_read}
use Rattle.laws_keystate.proofs.a_read_gives_an_image.Goals as goal

pub returns : goal.returns
returns c = a_read
