use Rattle.std.proofs.Common.{◌≡◌, ◌∙◌, not, List, refl, ap}
use Rattle.std.specs.Cmp.Lexicographic.{pointwise}
use Rattle.std.specs.List.{list_any}
use Rattle.sp_rules.specs.Topologies.{has_same_ends, is_same_node, returns as comes_back, under}
use Rattle.sp_rules.specs.Versions.{Live}
use Rattle.sp_topology.specs.declared.topology.Edge.{Edge}
use Rattle.sp_topology.specs.declared.topology.NodeKey.{NodeKey}
use Rattle.sp_node_parts.proofs.Closing.{under_own}
use Rattle.sp_node_parts.proofs.Later.{by_last, by_third, joined}
use Rattle.sp_node_parts.specs.declared.withdrawn.Withdrawn.{Withdrawn}
use Rattle.sp_node_parts.proofs.succession.succeeds.Goals as goal

pub returns-then-not-have_same_ends : goal.returns-then-not-have_same_ends
returns-then-not-have_same_ends c =
    let t = c.args.first.now in
    let u = c.args.next.now in
    let back = list_any (comes_back (under t.edges c.args.live.now.weights) u.edges) t.nodes in
    by_third c.is_later.result c.are_same_nodes.result c.have_same_ends.result (not back) c.if-not-have_same_ends.true
    ∙ joined t u c.args.live.now c.is_later.result c.are_same_nodes.result c.have_same_ends.result back c.requires.count c.is_later.ensures
    (c.are_same_nodes.ensures ∙ ap (λ (ns : List NodeKey). pointwise is_same_node ns c.as_slice.result.now) c.as_slice-nodes.ensures
    ∙ ap (pointwise is_same_node t.nodes) c.as_slice.ensures)
    (c.have_same_ends.ensures ∙ ap (λ (es : List Edge). pointwise has_same_ends es c.as_slice-2.result.now) c.as_slice-edges.ensures
    ∙ ap (pointwise has_same_ends t.edges) c.as_slice-2.ensures) refl

pub returns : goal.returns
returns c =
    let t = c.args.first.now in
    let u = c.args.next.now in
    let l = c.args.live.now in
    let weights : c.as_slice-3.result.now ≡ l.weights = c.as_slice-3.ensures ∙ ap (λ (x : Live). x.weights) c.live.view_is in
    let later : under c.as_slice-4.result.now c.as_slice-5.result.now ≡ u.edges =
    ap (λ (es : List Edge). under es c.as_slice-5.result.now) c.as_slice-4.ensures
    ∙ ap (under u.edges) (c.as_slice-5.ensures ∙ ap (λ (w : Withdrawn). w.weights) c.requires.withdrawn) ∙ under_own u.edges in
    let now : under c.as_slice-edges.result.now c.as_slice-3.result.now ≡ under t.edges l.weights =
    ap (λ (es : List Edge). under es c.as_slice-3.result.now) c.as_slice-edges.ensures ∙ ap (under t.edges) weights in
    by_last c.is_later.result c.are_same_nodes.result c.have_same_ends.result (not c.one_returns.result) c.if-not-is_later.false c.if-not-are_same_nodes.false
    c.if-not-have_same_ends.false
    ∙ joined t u l c.is_later.result c.are_same_nodes.result c.have_same_ends.result c.one_returns.result c.requires.count c.is_later.ensures
    (c.are_same_nodes.ensures ∙ ap (λ (ns : List NodeKey). pointwise is_same_node ns c.as_slice.result.now) c.as_slice-nodes.ensures
    ∙ ap (pointwise is_same_node t.nodes) c.as_slice.ensures)
    (c.have_same_ends.ensures ∙ ap (λ (es : List Edge). pointwise has_same_ends es c.as_slice-2.result.now) c.as_slice-edges.ensures
    ∙ ap (pointwise has_same_ends t.edges) c.as_slice-2.ensures)
    (c.one_returns.ensures
    ∙ ap (λ (es : List Edge). list_any (comes_back es (under c.as_slice-4.result.now c.as_slice-5.result.now)) c.as_slice-nodes.result.now) now
    ∙ ap (λ (es : List Edge). list_any (comes_back (under t.edges l.weights) es) c.as_slice-nodes.result.now) later
    ∙ ap (list_any (comes_back (under t.edges l.weights) u.edges)) c.as_slice-nodes.ensures)
