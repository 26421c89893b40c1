use Rattle.std.proofs.Common.{List, refl, ℕ}
use Rattle.sp_base.specs.declared.id.NodeId.{NodeId}
use Rattle.sp_client.specs.Locals.{may_refuse_rel}
use Rattle.sp_rules.specs.Node.{NodeState}
use Rattle.sp_rules.specs.Sends.{rel_refusal}
use Rattle.sp_rules.specs.Steps.{SendRel}
use Rattle.sp_client_node.proofs.Refusals.{own, rel_answered}
use Rattle.sp_client_node.proofs.local.LocalNodeLocal.send_rel.Goals as goal

pub returns-clause-own : goal.returns-clause-own
returns-clause-own c =
    let old : NodeState = c.args.self.now.node.state in
    let new : NodeState = c.send_rel-call.new.self.state in
    let dst : NodeId = c.args.dst in
    let payload : List ℕ = c.args.payload.now in
    own may_refuse_rel (SendRel dst payload) (rel_refusal old dst) old new c.send_rel-call.result c.keep.result _ _ refl
    (rel_answered old new dst payload) c.send_rel-call.ensures.step c.keep.ensures
