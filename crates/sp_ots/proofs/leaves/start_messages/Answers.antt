use Rattle.std.proofs.Common.{◌≡◌, ◌+◌, ◌++◌, ◌∙◌, arith}
use Rattle.std.proofs.lemmas.List.{length-set}
use Rattle.sp_ots.specs.Strings.{u8str}
use Rattle.sp_ots.specs.Leaves.{front_of}
use Rattle.sp_ots.proofs.EachLeaf.{each_more}
use Rattle.sp_ots.proofs.leaves.start_messages.Goals as goal

pub lanes-preserved : goal.lanes-preserved
lanes-preserved c =
    let k = c.lanes.k in
    let message = c.element_message.result in
    record {
      long = length-set c.lanes.messages k message ∙ c.lanes.invariant.long;
      laid = each_more (λ m x. x ≡ front_of c.args.id.now (c.args.q + m) c.args.i ++ u8str 0xff ++ c.args.seed.now) c.lanes.messages k message
          (omega (arith, c.lanes.invariant.long)) c.lanes.invariant.laid c.element_message.ensures;
    }
