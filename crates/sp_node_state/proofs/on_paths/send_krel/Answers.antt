use Rattle.std.proofs.Common.{arith}
use Rattle.sp_rules.specs.Messages.{as_ksend}
use Rattle.sp_node_state.proofs.OnPaths.{accepted_krel, krel_refused_so}
use Rattle.sp_node_state.proofs.PathsSent.{place_is}
use Rattle.sp_node_state.proofs.on_paths.send_krel.Goals as goal

pub returns-in_err-place : goal.returns-in_err-place
returns-in_err-place c =
    krel_refused_so c.args.state.now (as_ksend c.args.message.now) c.from_residual.result c.in_err-place.field-0.0 c.in_err-place.ensures.refused
    c.in_err-place.ensures.no_want
    c.from_residual.ensures.1

pub mask_for-requires-clause-waiting : goal.mask_for-requires-clause-waiting
mask_for-requires-clause-waiting c =
    (place_is c.args.state.now c.args.message.now.dst c.args.message.now.paths c.in_ok-place.place c.in_ok-place.ensures.place).mask

pub ready_krel-requires-clause-number : goal.ready_krel-requires-clause-number
ready_krel-requires-clause-number c =
    (place_is c.args.state.now c.args.message.now.dst c.args.message.now.paths c.in_ok-place.place c.in_ok-place.ensures.place).number

pub returns : goal.returns
returns c =
    accepted_krel c.args.state.now c.push_krel-effects.new.state (as_ksend c.args.message.now) c.in_ok-mask.mask c.in-Ok.ready.blank.kept.body
    (record { reply = c.in_ok-place.place.seq; effects = c.push_krel-effects.result }) (omega arith) c.in_ok-place.ensures.free c.in_ok-mask.ensures
    c.in-Ok.ensures.body
    (place_is c.args.state.now c.args.message.now.dst c.args.message.now.paths c.in_ok-place.place c.in_ok-place.ensures.place).number
    c.push_krel-effects.ensures.told c.push_krel-effects.ensures.state
