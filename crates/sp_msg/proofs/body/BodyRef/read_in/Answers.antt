use Rattle.sp_base.proofs.NumberLemmas.{AreBytes-from_places}
use Rattle.sp_msg.proofs.ReadIsEncoded.{read_is_good}
use Rattle.sp_msg.proofs.body.BodyRef.read_in.Goals as goal

pub returns-clause-fields : goal.returns-clause-fields
returns-clause-fields c = read_is_good c.args.format _ _ (AreBytes-from_places _ (λ i. (c.type_inv.bytes i).fits)) c.whole_body.ensures
