use Rattle.std.proofs.Common.{◌≡◌, ◌+◌, take, ◌∙◌, arith}
use Rattle.std.proofs.lemmas.List.{length-set}
use Rattle.sp_ots.specs.Leaves.{front_of}
use Rattle.sp_ots.proofs.EachLeaf.{each_more}
use Rattle.sp_ots.proofs.leaves.fronts.Goals as goal

pub lanes-preserved : goal.lanes-preserved
lanes-preserved c =
    let k = c.lanes.k in
    let message = c.put_front.new.message in
    record {
      long = length-set c.lanes.messages k message ∙ c.lanes.invariant.long;
      begun = each_more (λ m x. take 22 x ≡ front_of c.args.id.now (c.args.q + m) 0x8080) c.lanes.messages k message
          (omega (arith, c.lanes.invariant.long)) c.lanes.invariant.begun c.put_front.ensures;
    }
