-- A topology without its withdrawn edges is a graph in its ranges, where the weights that are in effect are.
use Rattle.std.proofs.Common.{◌≡◌, ◌<◌, ◌≤◌, ℕ, zero, suc, ◌+◌, max, inl, inr, Bool, true, false, cond, List, [], ◌∷◌, ◌++◌, append_assoc, drop, drop-cons}
use Rattle.std.proofs.Common.{length, map, refl, sym, ap, ◌∙◌, arith}
use Rattle.std.specs.Prelude.{◌==◌, ◌||◌, slice_index_or}
use Rattle.std.specs.List.{All, AllPairs}
use Rattle.std.proofs.lemmas.Bool.{eqb-true}
use Rattle.std.proofs.lemmas.Bool.Decides.{nat_tests}
use Rattle.std.proofs.lemmas.List.Elements.{All-cons}
use Rattle.std.proofs.lemmas.List.Kept.{AllPairs-cons}
use Rattle.sp_base.specs.declared.id.NodeId.{NodeId}
use Rattle.sp_base.proofs.FormatLemmas.{few_edges, few_nodes}
use Rattle.sp_base.specs.Formats.{max_nodes}
use Rattle.sp_base.specs.declared.limits.TheConstants.{MAX_WEIGHT}
use Rattle.sp_graph.specs.Edges.{IsEdge, IsGraph, IsLower}
use Rattle.sp_paths.specs.Cheapest.{IsNode}
use Rattle.sp_routes.specs.Joined.{HasFlag}
use Rattle.sp_routes.specs.declared.joined.TheConstants.{IDS}
use Rattle.sp_rules.specs.Masks.{graph_of, greatest_id, weighed}
use Rattle.sp_rules.specs.Parts.{nodes_of}
use Rattle.sp_rules.specs.Prio.{is_node}
use Rattle.sp_rules.specs.Weights.{WeightState, effective, is_withdrawn, minimum}
use Rattle.sp_topology.specs.declared.topology.Edge.{Edge}
use Rattle.sp_topology.specs.declared.topology.LmsHeight.{LmsHeight}
use Rattle.sp_topology.specs.declared.topology.NodeKey.{NodeKey}
use Rattle.sp_topology.specs.declared.topology.Topology.{Topology}
use Rattle.sp_rules.specs.Topologies.{IsRunnable}
use Rattle.sp_topology.specs.Ranges.{AreEdges, AreNodes, IsBelow, ends_of, has_id, ids_of}

-- ---- nodes

-- an id comes after those before, and isn't above the greatest
id_in : (format : ℕ) (height : LmsHeight) (before : ℕ) (nodes : List NodeKey) (id : ℕ) → AreNodes format height before nodes → has_id id (ids_of nodes) ≡ true
    → (before < id) × (id ≤ greatest_id nodes)
id_in format height before [] id are is = absurd cc
id_in format height before (n ∷ nodes) id are is = go (n.id.0 == id) refl (id_in format height n.id.0 nodes id are.2)
  where
    go : (here : Bool) → (n.id.0 == id) ≡ here → (has_id id (ids_of nodes) ≡ true → (n.id.0 < id) × (id ≤ greatest_id nodes))
        → (before < id) × (id ≤ max n.id.0 (greatest_id nodes))
    go true e later = let same = eqb-true n.id.0 id e in (omega (arith, same, are.0), omega (arith, same))
    go false e later = let rest = later (rw e at is) in (omega (arith, rest, are.0), omega (arith, rest))

-- each node has a greater id than the one before
room_for : (format : ℕ) (height : LmsHeight) (before : ℕ) (nodes : List NodeKey) → AreNodes format height before nodes
    → before + length (ids_of nodes) ≤ max before (greatest_id nodes)
room_for format height before [] are = omega arith
room_for format height before (n ∷ nodes) are = let rest = room_for format height n.id.0 nodes are.2 in omega (arith, rest, are.0)

greatest_small : (format : ℕ) (height : LmsHeight) (before : ℕ) (nodes : List NodeKey) → AreNodes format height before nodes
    → greatest_id nodes ≤ max_nodes format
greatest_small format height before [] are = omega arith
greatest_small format height before (n ∷ nodes) are = let rest = greatest_small format height n.id.0 nodes are.2 in omega (arith, rest, are.0)

same_ids : (nodes : List NodeKey) (id : ℕ) → is_node (map (λ n. n.id) nodes) id ≡ has_id id (ids_of nodes)
same_ids [] id = refl
same_ids (n ∷ nodes) id = ap (λ (b : Bool). (n.id.0 == id) || b) (same_ids nodes id)

-- a node of the topology is one of the graph
pub node_there : (t : Topology) (w : WeightState) (v : NodeId) → IsRunnable t → is_node (nodes_of t) v.0 ≡ true → IsNode (graph_of t w) v
node_there t w v good is = id_in t.format t.height 0 t.nodes v.0 good.ranges.nodes (sym (same_ids t.nodes v.0) ∙ is)

-- ---- edges

below_again : (p q r : ℕ × ℕ) → IsBelow p q → IsBelow q r → IsBelow p r
below_again p q r (inl a) (inl b) = inl (omega (arith, a, b))
below_again p q r (inl a) (inr b) = inl (omega (arith, a, b.0))
below_again p q r (inr a) (inl b) = inl (omega (arith, a.0, b))
below_again p q r (inr a) (inr b) = inr (a.0 ∙ b.0, omega (arith, a.1, b.1))

-- what is left of edges without the withdrawn ones: edges of a graph, each before those after it, all of them behind these ends
record AreLeft (nodes : ℕ) (before : ℕ × ℕ) (left : List Edge) : Type 0 where
  edges : All (IsEdge nodes) left
  behind : All (λ e. IsBelow before (ends_of e)) left
  ascend : AllPairs IsLower left

-- no weight in effect is below the administrator's minimum, which is at least 1 where the edge isn't withdrawn
some_weight : (w : WeightState) (place : ℕ) → is_withdrawn w place ≡ false → 1 ≤ effective w place
some_weight w place open_ = let least : 1 ≤ minimum w place = grind (arith, nat_tests, open_) in omega (arith, least)

edges_left : (format nodes : ℕ) (ids : List ℕ) (w : WeightState) (place : ℕ) (before : ℕ × ℕ) (edges : List Edge)
    → ((id : ℕ) → has_id id ids ≡ true → (0 < id) × (id ≤ nodes)) → ((edge : ℕ) → effective w edge ≤ MAX_WEIGHT) → AreEdges format ids before edges
    → AreLeft nodes before (weighed w place edges)
edges_left format nodes ids w place before [] known small are = record {
  edges = λ k d inside. absurd (omega (arith, inside));
  behind = λ k d inside. absurd (omega (arith, inside));
  ascend = λ i j d less inside. absurd (omega (arith, inside));
}
edges_left format nodes ids w place before (e ∷ edges) known small are =
    go (is_withdrawn w place) refl (edges_left format nodes ids w (place + 1) (ends_of e) edges known small are.2)
  where
    left : List Edge
    left = weighed w (place + 1) edges

    here : Edge
    here = record { low = e.low; high = e.high; weight = effective w place }

    farther : All (λ f. IsBelow (ends_of e) (ends_of f)) left → All (λ f. IsBelow before (ends_of f)) left
    farther behind k d inside = below_again before (ends_of e) (ends_of (slice_index_or left k d)) are.0.after (behind k d inside)

    go : (t : Bool) → is_withdrawn w place ≡ t → AreLeft nodes (ends_of e) left → AreLeft nodes before (cond t left (here ∷ left))
    go true is rest = record { edges = rest.edges; behind = farther rest.behind; ascend = rest.ascend }
    go false is rest =
        let low = known e.low.0 are.0.low in
        let high = known e.high.0 are.0.high in
        record {
          edges = All-cons (IsEdge nodes) here left (low.0, are.0.ascend, high.1, (some_weight w place is, small place)) rest.edges;
          behind = All-cons (λ (f : Edge). IsBelow before (ends_of f)) here left are.0.after (farther rest.behind);
          ascend = AllPairs-cons IsLower here left rest.behind rest.ascend;
        }

few_left : (w : WeightState) (place : ℕ) (edges : List Edge) → length (weighed w place edges) ≤ length edges
few_left w place [] = omega arith
few_left w place (e ∷ edges) = go (is_withdrawn w place) (few_left w (place + 1) edges)
  where
    go : (t : Bool) → length (weighed w (place + 1) edges) ≤ length edges
        → length (cond t (weighed w (place + 1) edges) (record { low = e.low; high = e.high; weight = effective w place } ∷ weighed w (place + 1) edges))
        ≤ length (e ∷ edges)
    go true rest = omega (arith, rest)
    go false rest = omega (arith, rest)

-- the topology under these weights is a graph in its ranges
pub graph_good : (t : Topology) (w : WeightState) → IsRunnable t → ((edge : ℕ) → effective w edge ≤ MAX_WEIGHT) → IsGraph (graph_of t w)
graph_good t w good small =
    let known : (id : ℕ) → has_id id (ids_of t.nodes) ≡ true → (0 < id) × (id ≤ greatest_id t.nodes) =
    λ id is. id_in t.format t.height 0 t.nodes id good.ranges.nodes is in
    let left = edges_left t.format (greatest_id t.nodes) (ids_of t.nodes) w 0 (0, 0) t.edges known small good.ranges.graph.are_edges in
    record {
      nodes = (
        omega (arith, room_for t.format t.height 0 t.nodes good.ranges.nodes, good.ranges.graph.node_count),
        omega (arith, greatest_small t.format t.height 0 t.nodes good.ranges.nodes, few_nodes t.format),
      );
      few = omega (arith, few_left w 0 t.edges, good.ranges.graph.edge_count, few_edges t.format);
      edges = left.edges;
      ascend = left.ascend;
    }

-- both ends of each edge of a topology have flags
ends_flagged : (format : ℕ) (ids : List ℕ) (before : ℕ × ℕ) (edges : List Edge) → ((id : ℕ) → has_id id ids ≡ true → id < IDS)
    → AreEdges format ids before edges
    → All HasFlag edges
ends_flagged format ids before [] known are = λ k d inside. absurd (omega (arith, inside))
ends_flagged format ids before (e ∷ edges) known are =
    All-cons HasFlag e edges (known e.low.0 are.0.low, known e.high.0 are.0.high) (ends_flagged format ids (ends_of e) edges known are.2)

pub edges_flagged : (t : Topology) → IsRunnable t → All HasFlag t.edges
edges_flagged t good =
    let most = greatest_small t.format t.height 0 t.nodes good.ranges.nodes in
    let few = few_nodes t.format in
    ends_flagged t.format (ids_of t.nodes) (0, 0) t.edges
    (λ id is. let there = id_in t.format t.height 0 t.nodes id good.ranges.nodes is in omega (arith, there, most, few)) good.ranges.graph.are_edges

-- ---- edge by edge

-- an edge with the weight that is in effect at its place
abbrev pub at_weight : WeightState → ℕ → Edge → Edge
at_weight w place e = record { low = e.low; high = e.high; weight = effective w place }

-- the next edge is left out, or comes next
weighed_next : (w : WeightState) (place : ℕ) (edges : List Edge) (k : ℕ) (d : Edge) → k < length edges
    → weighed w place (drop k edges)
    ≡ cond (is_withdrawn w place) (weighed w (place + 1) (drop (k + 1) edges))
    (at_weight w place (slice_index_or edges k d) ∷ weighed w (place + 1) (drop (k + 1) edges))
weighed_next w place edges k d inside =
    let next : suc k ≡ k + 1 = omega arith in
    ap (weighed w place) (drop-cons edges k d inside ∙ ap (λ (n : ℕ). slice_index_or edges k d ∷ drop n edges) next)

pub left_out : (w : WeightState) (place : ℕ) (edges made whole : List Edge) (k : ℕ) (d : Edge) → k < length edges → is_withdrawn w place ≡ true
    → made ++ weighed w place (drop k edges) ≡ whole → made ++ weighed w (place + 1) (drop (k + 1) edges) ≡ whole
left_out w place edges made whole k d inside shut so_far =
    let rest = weighed w (place + 1) (drop (k + 1) edges) in
    let next : weighed w place (drop k edges) ≡ rest =
    weighed_next w place edges k d inside ∙ ap (λ (t : Bool). cond t rest (at_weight w place (slice_index_or edges k d) ∷ rest)) shut in
    ap (λ (more : List Edge). made ++ more) (sym next) ∙ so_far

pub put_in : (w : WeightState) (place : ℕ) (edges made whole : List Edge) (k : ℕ) (d : Edge) → k < length edges → is_withdrawn w place ≡ false
    → made ++ weighed w place (drop k edges) ≡ whole
    → (made ++ at_weight w place (slice_index_or edges k d) ∷ []) ++ weighed w (place + 1) (drop (k + 1) edges) ≡ whole
put_in w place edges made whole k d inside open_ so_far =
    let here = at_weight w place (slice_index_or edges k d) in
    let rest = weighed w (place + 1) (drop (k + 1) edges) in
    let next : weighed w place (drop k edges) ≡ here ∷ rest = weighed_next w place edges k d inside ∙ ap (λ (t : Bool). cond t rest (here ∷ rest)) open_ in
    append_assoc made (here ∷ []) rest ∙ ap (λ (more : List Edge). made ++ more) (sym next) ∙ so_far
