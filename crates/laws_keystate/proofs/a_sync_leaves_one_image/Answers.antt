use Rattle.laws_keystate.proofs.DiskImages.{a_sync}
use Rattle.laws_keystate.proofs.a_sync_leaves_one_image.Goals as goal

pub returns : goal.returns
returns c = a_sync
