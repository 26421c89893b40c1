use Rattle.std.proofs.Common.{◌≡◌, ◌≤◌, ◌∙◌, ℕ, List, true, sym, ap, subst}
use Rattle.std.specs.List.{All}
use Rattle.sp_base.specs.declared.limits.TheConstants.{MAX_WEIGHT}
use Rattle.sp_node_state.proofs.InEffect.{effective_small}
use Rattle.sp_node_state.proofs.PathsSent.{krel_ends}
use Rattle.sp_node_state.proofs.Sizes.{sizes}
use Rattle.sp_rules.specs.Messages.{as_ksend}
use Rattle.sp_rules.specs.Node.{NodeState}
use Rattle.sp_rules.specs.Parts.{nodes_of}
use Rattle.sp_rules.specs.Prio.{is_node}
use Rattle.sp_rules.specs.Weights.{effective}
use Rattle.sp_rules.specs.Topologies.{IsRunnable}
use Rattle.sp_node_state.proofs.on_paths.mask_for.Goals as goal

pub choose-requires-clause-topology : goal.choose-requires-clause-topology
choose-requires-clause-topology c = subst (λ (n : NodeState). IsRunnable n.fixed.topology) (sym c.state.view_is) c.requires.kept.fixed.topology

pub choose-requires-clause-edges : goal.choose-requires-clause-edges
choose-requires-clause-edges c =
    subst (λ (n : NodeState). n.parts.weights.edges ≡ n.fixed.topology.edges) (sym c.state.view_is)
    (c.requires.kept.parts.weights.edges ∙ sym c.requires.kept.fixed.edges)

pub choose-requires-clause-small : goal.choose-requires-clause-small
choose-requires-clause-small c =
    let n = c.args.state.now in
    subst (λ (n : NodeState). (edge : ℕ) → effective n.parts.weights edge ≤ MAX_WEIGHT) (sym c.state.view_is)
    (effective_small (sizes n) n.signer.index n.parts.weights
    (subst (λ (least : List ℕ). All (λ weight. weight ≤ MAX_WEIGHT) least) (sym c.requires.obeys.least) c.requires.kept.live.weights)
    c.requires.kept.parts.weights)

pub choose-requires-clause-from : goal.choose-requires-clause-from
choose-requires-clause-from c =
    subst (λ (n : NodeState). is_node (nodes_of n.fixed.topology) n.fixed.me.0 ≡ true) (sym c.state.view_is)
    (krel_ends c.args.state.now (as_ksend c.args.message.now) c.requires.free c.requires.kept).from

pub choose-requires-clause-to : goal.choose-requires-clause-to
choose-requires-clause-to c =
    subst (λ (n : NodeState). is_node (nodes_of n.fixed.topology) c.args.message.now.dst.0 ≡ true) (sym c.state.view_is)
    (krel_ends c.args.state.now (as_ksend c.args.message.now) c.requires.free c.requires.kept).to

pub choose-requires-clause-other : goal.choose-requires-clause-other
choose-requires-clause-other c =
    λ e. (krel_ends c.args.state.now (as_ksend c.args.message.now) c.requires.free c.requires.kept).other
    (ap (λ (n : NodeState). n.fixed.me) (sym c.state.view_is) ∙ e)
