use Rattle.std.proofs.Common.{◌∙◌, sym, ap}
use Rattle.sp_hss.specs.Decision.{is_valid}
use Rattle.sp_node_parts.specs.Closing.{now_under}
use Rattle.sp_rules.specs.Node.{NodeState}
use Rattle.sp_rules.specs.Topologies.{succeeds}
use Rattle.sp_node_state.proofs.Published.{adopted, bad_signature, strange}
use Rattle.sp_node_state.specs.Publications.{as_document}
use Rattle.sp_node_state.proofs.state.State.answer_to.Goals as goal

pub returns-then-not-is_signed-clause-answer : goal.returns-then-not-is_signed-clause-answer
returns-then-not-is_signed-clause-answer c =
    let d = as_document c.args.reading.now in
    bad_signature c.args.self.now d c.requires.above
    (ap (λ (m : NodeState). is_valid m.fixed.admin d.message d.signature) (sym c.self.view_is) ∙ sym c.is_signed.ensures.signed ∙ c.if-not-is_signed.true)

pub returns-then-not-follows-clause-answer : goal.returns-then-not-follows-clause-answer
returns-then-not-follows-clause-answer c =
    let d = as_document c.args.reading.now in
    strange c.args.self.now d c.requires.above
    (ap (λ (m : NodeState). is_valid m.fixed.admin d.message d.signature) (sym c.self.view_is) ∙ sym c.is_signed.ensures.signed ∙ c.if-not-is_signed.false)
    (ap (λ (m : NodeState). succeeds (now_under m.fixed.topology m.live) d.topology) (sym c.self.view_is) ∙ sym c.follows.ensures ∙ c.if-not-follows.true)

pub returns-clause-answer : goal.returns-clause-answer
returns-clause-answer c =
    let d = as_document c.args.reading.now in
    adopted c.args.self.now d c.requires.above
    (ap (λ (m : NodeState). is_valid m.fixed.admin d.message d.signature) (sym c.self.view_is) ∙ sym c.is_signed.ensures.signed ∙ c.if-not-is_signed.false)
    (ap (λ (m : NodeState). succeeds (now_under m.fixed.topology m.live) d.topology) (sym c.self.view_is) ∙ sym c.follows.ensures ∙ c.if-not-follows.false)
