-- The lanes of a graph, node by node and edge by edge.
use Rattle.std.proofs.Common.{◌≡◌, ◌+◌, ℕ, List, [], ◌∷◌, ◌++◌, map, sym, ap, append_assoc, ◌∙◌, arith}
use Rattle.std.specs.List.{filter, flat_map}
use Rattle.std.proofs.lemmas.List.{map-append}
use Rattle.std.proofs.lemmas.List.Elements.{filter-append}
use Rattle.std.proofs.lemmas.List.FromFn.{map-range_with_len_more}
use Rattle.sp_base.specs.declared.id.NodeId.{NodeId}
use Rattle.sp_topology.specs.declared.topology.Edge.{Edge}
use Rattle.sp_graph.specs.Split.{Arc, edge_arcs, node_arc, nodes_to}
use Rattle.sp_paths.specs.declared.lane.Lane.{Lane}
use Rattle.sp_paths.specs.Parts.{arc_of, is_there}

abbrev node : ℕ → NodeId
node n = record { 0 = n }

nodes_more : (n : ℕ) → map node_arc (nodes_to (n + 1)) ≡ map node_arc (nodes_to n) ++ node_arc (node (n + 1)) ∷ []
nodes_more n = ap (map node_arc) (map-range_with_len_more node 1 n (n + 1) (omega arith)) ∙ map-append node_arc (nodes_to n) (node (n + 1) ∷ [])

-- the lanes of one node more
pub push_node : (s t : NodeId) (before now new : List Lane) (n : ℕ) → map arc_of now ≡ map arc_of before ++ filter (is_there s t) (map node_arc (nodes_to n))
    → map arc_of new ≡ map arc_of now ++ filter (is_there s t) (node_arc (node (n + 1)) ∷ [])
    → map arc_of new ≡ map arc_of before ++ filter (is_there s t) (map node_arc (nodes_to (n + 1)))
push_node s t before now new n so_far one =
    let there = is_there s t in
    let last : List Arc = node_arc (node (n + 1)) ∷ [] in
    one ∙ ap (λ (arcs : List Arc). arcs ++ filter there last) so_far
    ∙ append_assoc (map arc_of before) (filter there (map node_arc (nodes_to n))) (filter there last)
    ∙ ap (λ (arcs : List Arc). map arc_of before ++ arcs) (sym (filter-append there (map node_arc (nodes_to n)) last))
    ∙ ap (λ (arcs : List Arc). map arc_of before ++ filter there arcs) (sym (nodes_more n))

-- the arcs of these edges, where they are there
abbrev pub left : NodeId → NodeId → List Edge → List Arc
left s t edges = filter (is_there s t) (flat_map edge_arcs edges)
