use Rattle.std.proofs.Common.{refl}
use Rattle.sp_client.specs.Locals.{krel_command, may_refuse_krel}
use Rattle.sp_rules.specs.KflowSends.{KSend, krel_refusal}
use Rattle.sp_rules.specs.Messages.{as_ksend}
use Rattle.sp_rules.specs.Node.{NodeState}
use Rattle.sp_rules.specs.Steps.{SendKrel}
use Rattle.sp_client_node.proofs.Refusals.{krel_answered, own}
use Rattle.sp_client_node.proofs.Sends.{send_steps}
use Rattle.sp_client_node.proofs.local.LocalNodeLocal.send_krel.Goals as goal

pub returns-clause-step : goal.returns-clause-step
returns-clause-step c =
    let m : KSend = as_ksend c.args.message.now in
    send_steps c.args.self.now (record { node = c.send_krel-call.new.self; effects = c.keep.new.effects }) (SendKrel m)
    (krel_command c.args.message.now) (krel_refusal c.args.self.now.node.state m)
    c.send_krel-call.result c.keep.result (λ a s. s) c.send_krel-call.ensures.step c.send_krel-call.ensures.work c.keep.ensures

pub returns-clause-own : goal.returns-clause-own
returns-clause-own c =
    let m : KSend = as_ksend c.args.message.now in
    let old : NodeState = c.args.self.now.node.state in
    let new : NodeState = c.send_krel-call.new.self.state in
    own may_refuse_krel (SendKrel m) (krel_refusal old m) old new c.send_krel-call.result c.keep.result _ _ refl
    (krel_answered old new m) c.send_krel-call.ensures.step c.keep.ensures
