use Rattle.std.proofs.Common.{refl}
use Rattle.sp_measure.specs.Proofs.{name_of}
use Rattle.sp_measure.proofs.nonces.name.Goals as goal

pub returns : goal.returns
unfolding name_of
returns c = rw (c.copy_from_slice-2.ensures.after, c.to_be_bytes-2.ensures, c.copy_from_slice.ensures.after, c.to_be_bytes.ensures) refl
