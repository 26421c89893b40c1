use Rattle.std.proofs.Common.{[], ◌∷◌, ◌∙◌, length, ap, refl}
use Rattle.sp_ots.specs.Strings.{u16str, u32str}
use Rattle.sp_ots.proofs.Messages.{laid_out}
use Rattle.sp_ots.proofs.hashes.element_message.Goals as goal

pub returns : goal.returns
unfolding u16str u32str
returns c =
    laid_out c.args.id.now c.to_be_bytes.result c.to_be_bytes-2.result (c.args.j ∷ []) c.args.element.now
    c.put.new.message c.put-2.new.message c.put-3.new.message c.put-4.new.message c.put-5.new.message
    c.told-id (ap length c.to_be_bytes.ensures) (ap length c.to_be_bytes-2.ensures) refl c.told-element
    c.put.ensures c.put-2.ensures c.put-3.ensures c.put-4.ensures c.put-5.ensures
    ∙ rw (c.to_be_bytes.ensures, c.to_be_bytes-2.ensures) refl
