use Rattle.laws_keystate.proofs.DiskImages.{any_bytes}
use Rattle.laws_keystate.proofs.any_bytes_may_stand.Goals as goal

pub returns : goal.returns
returns c = any_bytes
