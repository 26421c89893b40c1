use Rattle.std.proofs.Common.{sym, ◌∙◌, subst}
use Rattle.sp_frame.specs.Ranges.{IsContentsIn}
use Rattle.sp_rules.specs.Node.{NodeState}
use Rattle.sp_rules.specs.Polls.{contents_to}
use Rattle.sp_node.proofs.Kept.{contents_kept}
use Rattle.sp_node.proofs.poll.unsealed.Goals as goal

pub in_turn-requires-clause-contents : goal.in_turn-requires-clause-contents
in_turn-requires-clause-contents c =
    subst (λ (n : NodeState). IsContentsIn n.fixed.topology.format n.fixed.signature_len (contents_to n.fixed n.parts c.args.v)) (sym c.state.view_is)
    (contents_kept c.args.state.now c.args.v c.requires.kept (sym c.is_behind.ensures ∙ c.if-is_behind.false)
    (sym c.is_shut_to.ensures ∙ c.if-is_shut_to.false))
