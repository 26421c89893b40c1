use Rattle.std.proofs.Common.{refl}
use Rattle.sp_client.specs.Locals.{command_of, may_refuse_prio}
use Rattle.sp_rules.specs.Messages.{as_send}
use Rattle.sp_rules.specs.Node.{NodeState}
use Rattle.sp_rules.specs.Sends.{PrioSend, prio_refusal}
use Rattle.sp_rules.specs.Steps.{SendPrio}
use Rattle.sp_client_node.proofs.Refusals.{own, prio_answered}
use Rattle.sp_client_node.proofs.Sends.{send_steps}
use Rattle.sp_client_node.proofs.local.LocalNodeLocal.send_prio.Goals as goal

pub returns-clause-step : goal.returns-clause-step
returns-clause-step c =
    let m : PrioSend = as_send c.args.message.now in
    send_steps c.args.self.now (record { node = c.send_prio-call.new.self; effects = c.keep.new.effects }) (SendPrio m)
    (command_of c.args.message.now) (prio_refusal c.args.self.now.node.state m)
    c.send_prio-call.result c.keep.result (λ a s. s) c.send_prio-call.ensures.step c.send_prio-call.ensures.work c.keep.ensures

pub returns-clause-own : goal.returns-clause-own
returns-clause-own c =
    let m : PrioSend = as_send c.args.message.now in
    let old : NodeState = c.args.self.now.node.state in
    let new : NodeState = c.send_prio-call.new.self.state in
    own may_refuse_prio (SendPrio m) (prio_refusal old m) old new c.send_prio-call.result c.keep.result _ _ refl
    (prio_answered old new m) c.send_prio-call.ensures.step c.keep.ensures
