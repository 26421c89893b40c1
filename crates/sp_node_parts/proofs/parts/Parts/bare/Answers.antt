use Rattle.std.proofs.Common.{◌≡◌, ℕ, List, None, length, map, replicate, refl, ap, ◌∙◌, arith}
use Rattle.std.proofs.lemmas.List.{length-map}
use Rattle.std.proofs.lemmas.Result.{IfOk-weaker}
use Rattle.sp_base.proofs.FormatLemmas.{few_edges}
use Rattle.sp_base.specs.declared.id.EdgeId.{EdgeId}
use Rattle.sp_base.specs.declared.id.NodeId.{NodeId}
use Rattle.sp_rules.specs.Kflow as kflow
use Rattle.sp_rules.specs.Kflow.{KState}
use Rattle.sp_rules.specs.Lives as lives
use Rattle.sp_rules.specs.declared.lives.Life.{Life}
use Rattle.sp_rules.specs.Parts.{Parts, as_neighbour}
use Rattle.sp_rules.specs.Prio as prio
use Rattle.sp_rules.specs.Prio.{PrioState}
use Rattle.sp_rules.specs.Rel as rel
use Rattle.sp_rules.specs.Rel.{RelState}
use Rattle.sp_rules.specs.Weights as weights
use Rattle.sp_rules.specs.Weights.{WeightState}
use Rattle.sp_rules.specs.declared.prio.Neighbour.{Neighbour}
use Rattle.sp_topology.specs.declared.topology.NodeKey.{NodeKey}
use Rattle.sp_node_parts.proofs.Starts.{few_neighbours}
use Rattle.sp_node_parts.proofs.parts.Parts.bare.Goals as goal

abbrev made : WeightState → PrioState → RelState → KState → List Life → ℕ → Parts
made w p r k ls count = record { weights = w; prio = p; rel = r; kflow = k; lives = ls; origins = replicate count None }

all_of : (w : WeightState) (p q : PrioState) (r s : RelState) (k l : KState) (ls ms : List Life) (count number : ℕ) → p ≡ q → r ≡ s → k ≡ l → ls ≡ ms
    → count ≡ number → made w p r k ls count ≡ made w q s l ms number
all_of w p q r s k l ls ms count number one two three four five = rw (one, two, three, four, five) refl

pub tables_of-requires-clause-few : goal.tables_of-requires-clause-few
tables_of-requires-clause-few c =
    few_neighbours c.deref-4.result.now c.in-Ok.joined.items c.args.me.0 c.args.topology.now.edges
    (c.deref-4.ensures.value ∙ c.in_ok-neighbours.ensures ∙ ap (map as_neighbour) c.deref.ensures.value)
    c.in-Ok.ensures.neighbours (omega (arith, c.requires.graph.edge_count, few_edges c.args.topology.now.format))

pub returns : goal.returns
returns c =
    let t = c.args.topology.now in
    let ids : c.in_ok-nodes.nodes.items ≡ map (λ (n : NodeKey). n.id) t.nodes = c.in_ok-nodes.ensures ∙ ap (map (λ (n : NodeKey). n.id)) c.as_slice.ensures in
    let nodes : c.deref-3.result.now ≡ map (λ (n : NodeKey). n.id) t.nodes = c.deref-3.ensures.value ∙ ids in
    let neighbours : c.deref-4.result.now ≡ map as_neighbour c.in-Ok.joined.items =
    c.deref-4.ensures.value ∙ c.in_ok-neighbours.ensures ∙ ap (map as_neighbour) c.deref.ensures.value in
    let all = ap (map as_neighbour) c.in-Ok.ensures.neighbours in
    let peers : c.deref-5.result.now ≡ map (λ (n : NodeId × EdgeId). n.0) c.in-Ok.joined.items =
    c.deref-5.ensures.value ∙ c.in_ok-peers.ensures ∙ ap (map (λ (n : NodeId × EdgeId). n.0)) c.deref-2.ensures.value in
    let them = ap (map (λ (n : NodeId × EdgeId). n.0)) c.in-Ok.ensures.neighbours in
    let prios = ap (λ (xs : List NodeId). prio.start c.args.me.0 xs c.deref-4.result.now c.args.limits.store) nodes
    ∙ ap (λ (ns : List Neighbour). prio.start c.args.me.0 (map (λ (n : NodeKey). n.id) t.nodes) ns c.args.limits.store) (neighbours ∙ all) in
    let rels = ap (λ (xs : List NodeId). rel.start c.args.me xs c.deref-5.result.now c.args.limits.buffer) nodes
    ∙ ap (λ (ns : List NodeId). rel.start c.args.me (map (λ (n : NodeKey). n.id) t.nodes) ns c.args.limits.buffer) (peers ∙ them) in
    let kflows = ap (λ (xs : List NodeId). kflow.start c.args.me xs c.deref-4.result.now c.args.limits.buffer) nodes
    ∙ ap (λ (ns : List Neighbour). kflow.start c.args.me (map (λ (n : NodeKey). n.id) t.nodes) ns c.args.limits.buffer) (neighbours ∙ all) in
    let count = ap (λ (xs : List NodeId). length xs) nodes ∙ length-map t.nodes (λ (n : NodeKey). n.id) in
    IfOk-weaker c.tables_of.result _ _
    (λ parts is. is ∙ all_of (weights.start t) _ _ _ _ _ _ _ _ _ _ prios rels kflows (ap lives.start nodes) count) c.tables_of.ensures
