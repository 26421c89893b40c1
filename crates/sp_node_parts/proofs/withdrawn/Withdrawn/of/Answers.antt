use Rattle.std.proofs.Common.{◌≡◌, ◌∙◌, ℕ, List, map, ap, ap₂}
use Rattle.sp_base.specs.declared.id.NodeId.{NodeId}
use Rattle.sp_rules.specs.Parts.{nodes_of}
use Rattle.sp_rules.specs.Topologies.{removed_of, under, weights_in}
use Rattle.sp_topology.specs.declared.topology.Edge.{Edge}
use Rattle.sp_topology.specs.declared.topology.NodeKey.{NodeKey}
use Rattle.sp_node_parts.proofs.Closing.{under_own}
use Rattle.sp_node_parts.specs.declared.withdrawn.Withdrawn.{Withdrawn}
use Rattle.sp_node_parts.proofs.withdrawn.Withdrawn.of.Goals as goal

with : List ℕ → List NodeId → Withdrawn
with weights removed = record { weights = weights; removed = removed }

pub returns : goal.returns
unfolding with
returns c =
    let t = c.args.topology.now in
    let edges = c.as_slice-edges.ensures in
    let weights : c.in_ok-weights.weights.items ≡ weights_in t.edges = c.in_ok-weights.ensures ∙ ap weights_in edges in
    let removed : c.in_ok-removed.removed.items ≡ removed_of (nodes_of t) t.edges =
    c.in_ok-removed.ensures
    ∙ ap (λ (ns : List NodeKey). removed_of (map (λ (n : NodeKey). n.id) ns) (under c.as_slice-edges.result.now c.as_slice-2.result.now)) c.as_slice.ensures
    ∙ ap₂ (λ (es : List Edge) (ws : List ℕ). removed_of (nodes_of t) (under es ws)) edges (c.as_slice-2.ensures.value ∙ weights)
    ∙ ap (removed_of (nodes_of t)) (under_own t.edges) in
    ap₂ with (c.from_vec.ensures ∙ weights) (c.from_vec-2.ensures ∙ removed)
