use Rattle.std.proofs.Common.{◌≡◌, ◌∙◌, ℕ, refl, ap, arith}
use Rattle.sp_msg.specs.Caused.{Caused}
use Rattle.sp_node_state.specs.States.{state_of}
use Rattle.sp_rules.specs.Node.{NodeState}
use Rattle.sp_rules.specs.Prio.{expiring}
use Rattle.sp_rules.specs.Ticks.{time_after}
use Rattle.sp_node.proofs.Dues.{nothing_told, ticks_so}
use Rattle.sp_node.proofs.tick.tick.Goals as goal

pub returns-in_err-effects-clause-quiet : goal.returns-in_err-effects-clause-quiet
returns-in_err-effects-clause-quiet c = λ none quiet.
    let n = c.args.state.now in
    let told = nothing_told n c.in_ok-dues.dues none c.in_ok-dues.ensures.owed in
    let timely : c.max-time.result ≡ time_after n c.args.now = c.max-time.ensures ∙ ap (λ (m : NodeState). time_after m c.args.now) c.state.view_is in
    let stays : expiring n.parts.prio c.max-time.result ≡ 0 = ap (λ (t : ℕ). expiring n.parts.prio t) timely ∙ quiet in
    let no = c.in_err-effects.ensures.none (omega (arith, told, stays)) in
    absurd (cc)

pub returns-clause-step : goal.returns-clause-step
returns-clause-step c =
    let s = c.state.inside in
    let view : NodeState = state_of s.fixed s.live s.heard.items s.now s.calls s.links.items s.signer s.core in
    let there : NodeState = state_of s.fixed s.live s.heard.items c.max-time.result s.calls s.links.items s.signer c.expire.new.core in
    ticks_so c.args.state.now view there c.settle_both-reply.new.state c.max-time.result c.args.now c.expire.new.core c.in_ok-effects.effects
    c.expire.new.effects c.settle_both-reply.new.effects c.settle_both-reply.result c.state.view_is c.max-time.ensures c.expire.ensures.core refl
    (ap (λ (e : Caused). e.list) c.in_ok-effects.ensures.room) c.expire.ensures.list c.settle_both-reply.ensures.told c.settle_both-reply.ensures.reply
    c.settle_both-reply.ensures.state
