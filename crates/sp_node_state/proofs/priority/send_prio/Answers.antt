use Rattle.sp_msg.specs.Masks.{bits}
use Rattle.sp_rules.specs.Messages.{as_send}
use Rattle.sp_node_state.proofs.Urgent.{accepted_prio, refused_so}
use Rattle.sp_node_state.proofs.priority.send_prio.Goals as goal

pub returns-in_err-may_send : goal.returns-in_err-may_send
returns-in_err-may_send c =
    refused_so c.args.state.now (as_send c.args.message.now) c.from_residual.result c.in_err-may_send.field-0.0 c.in_err-may_send.ensures.refused
    c.in_err-may_send.ensures.no_want
    c.from_residual.ensures.1

pub returns : goal.returns
returns c =
    accepted_prio c.args.state.now c.admit_own-effects.new.state (as_send c.args.message.now) (bits c.in_ok-mask.mask) c.in-Ok.ready.blank.kept.body
    (record { reply = c.next_number-number.result; effects = c.admit_own-effects.result }) c.in_ok-may_send.ensures.free c.in_ok-mask.ensures
    c.in-Ok.ensures.body
    c.next_number-number.ensures c.admit_own-effects.ensures.told c.admit_own-effects.ensures.state
