use Rattle.std.proofs.Common.{◌∙◌, refl}
use Rattle.sp_measure.specs.Proofs.{name_of}
use Rattle.sp_measure.proofs.nonces.nonce.Goals as goal

pub returns : goal.returns
unfolding name_of
returns c = c.copy_from_slice.ensures.after ∙ rw (c.tag-tag.ensures, c.name.ensures) refl
