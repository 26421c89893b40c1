use Rattle.sp_base.proofs.NumberLemmas.{AreBytes-from_places}
use Rattle.sp_msg.specs.Views.{as_body}
use Rattle.sp_node_arrivals.proofs.SignedLemmas.{good_fields}
use Rattle.sp_node_arrivals.proofs.signed.recall_spelled.Goals as goal

pub returns : goal.returns
returns c =
    good_fields c.args._format c.args.bytes.now (as_body c.args._body.now) (AreBytes-from_places c.args.bytes.now (λ i. (c.type_inv.bytes i).fits)) c.requires
