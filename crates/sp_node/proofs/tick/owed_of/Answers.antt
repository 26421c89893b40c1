use Rattle.std.proofs.Common.{◌≡◌, ◌∙◌, sym, subst, ap}
use Rattle.sp_msg.specs.Bodies.{HasGoodFieldsIn}
use Rattle.sp_msg.specs.Views.{signer_of}
use Rattle.sp_msg.specs.declared.body.Body.{Body}
use Rattle.sp_rules.specs.Node.{NodeState}
use Rattle.sp_rules.specs.Ticks.{due_now}
use Rattle.sp_node.proofs.Kept.{due_fields, due_mine}
use Rattle.sp_node.proofs.tick.owed_of.Goals as goal

pub blank-requires-clause-mine : goal.blank-requires-clause-mine
blank-requires-clause-mine c =
    subst (λ (body : Body). signer_of body ≡ c.args.state.now.fixed.me) (sym c.ack_body.ensures)
    (due_mine c.args.kind c.args.state.now c.in-Some.ack c.requires.kept
    (ap (λ (n : NodeState). due_now c.args.kind n) (sym c.state.view_is) ∙ sym c.due_of.ensures ∙ c.in-Some.is))

pub blank-requires-clause-fields : goal.blank-requires-clause-fields
blank-requires-clause-fields c =
    subst (λ (body : Body). HasGoodFieldsIn c.args.state.now.fixed.topology.format body) (sym c.ack_body.ensures)
    (due_fields c.args.kind c.args.state.now c.in-Some.ack c.requires.kept
    (ap (λ (n : NodeState). due_now c.args.kind n) (sym c.state.view_is) ∙ sym c.due_of.ensures ∙ c.in-Some.is))
