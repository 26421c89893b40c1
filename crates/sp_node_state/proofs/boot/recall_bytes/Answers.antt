use Rattle.sp_base.proofs.NumberLemmas.{AreBytes-from_places}
use Rattle.sp_node_state.proofs.boot.recall_bytes.Goals as goal

pub returns : goal.returns
returns c = AreBytes-from_places c.args.bytes.now (λ i. (c.type_inv.bytes i).fits)
