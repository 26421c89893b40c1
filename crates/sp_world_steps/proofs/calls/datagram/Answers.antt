use Rattle.sp_base.proofs.NumberLemmas.{AreBytes-from_places}
use Rattle.sp_world_steps.proofs.Objects.{few_items}
use Rattle.sp_world_steps.proofs.calls.datagram.Goals as goal

pub returns-in-Ok-clause-few : goal.returns-in-Ok-clause-few
returns-in-Ok-clause-few c =
    few_items _ _ c.args.u c.args.bytes.now c.in-Ok.step (AreBytes-from_places c.args.bytes.now (λ i. (c.type_inv.bytes i).fits)) c.requires.answered
    c.in-Ok.ensures.step
