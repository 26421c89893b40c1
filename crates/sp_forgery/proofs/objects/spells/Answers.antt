use Rattle.sp_base.proofs.NumberLemmas.{AreBytes-from_places}
use Rattle.sp_msg.specs.Views.{as_body}
use Rattle.sp_forgery.proofs.objects.spells.Goals as goal

pub returns : goal.returns
returns c =
    (c.a_body_has_one_spelling.ensures.read_is_encoded c.args._format c.args.bytes.now (as_body c.args.body.now)
    (AreBytes-from_places c.args.bytes.now (λ i. (c.type_inv.bytes i).fits)) c.requires).0
