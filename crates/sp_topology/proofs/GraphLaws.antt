-- A graph has no fault exactly where it is in its ranges.
use Rattle.std.proofs.Common.{◌≡◌, ℕ, List, [], ◌∷◌, length, Some, None, refl}
use Rattle.std.specs.Prelude.{Option}
use Rattle.sp_base.specs.Cursor.{or_else}
use Rattle.sp_topology.specs.declared.topology.Edge.{Edge}
use Rattle.sp_topology.specs.declared.refused.TopologyRefused.{TopologyRefused}
use Rattle.sp_topology.specs.Faults.{NoFaultIsInRange, are_nodes, edge_count_fault, edge_fault, edges_fault, ends_fault, graph_fault, id_fault, ids_fault}
use Rattle.sp_topology.specs.Faults.{node_count_fault, weight_fault}
use Rattle.sp_topology.specs.Ranges.{AreEdges, AreIds, IsGraph, ends_of}
use Rattle.sp_topology.proofs.Judged.{edge_count_passed, edge_count_passes, ends_pass, ends_passed, id_passed, id_passes, node_count_passed, node_count_passes}
use Rattle.sp_topology.proofs.Judged.{weight_passed, weight_passes}

-- neither is a fault
neither : (x y : Option TopologyRefused) → or_else x y ≡ None → (x ≡ None) × (y ≡ None)
neither None y e = (refl, e)
neither (Some fault) y e = absurd (cc)

ids_passed : (format : ℕ) → (before : ℕ) (ids : List ℕ) → ids_fault format before ids ≡ None → AreIds format before ids
ids_passed format before [] e = tt
ids_passed format before (id ∷ ids) e =
    let parts = neither (id_fault format before id) (ids_fault format id ids) e in
    (id_passed format before id parts.0, ids_passed format id ids parts.1)

ids_pass : (format : ℕ) → (before : ℕ) (ids : List ℕ) → AreIds format before ids → ids_fault format before ids ≡ None
ids_pass format before [] are = refl
ids_pass format before (id ∷ ids) are = rw (id_passes format before id are.0) (ids_pass format id ids are.1)

edges_passed : (format : ℕ) → (ids : List ℕ) (before : ℕ × ℕ) (edges : List Edge) → edges_fault format ids before edges ≡ None
    → AreEdges format ids before edges
edges_passed format ids before [] e = tt
edges_passed format ids before (edge ∷ edges) e =
    let parts = neither (edge_fault format ids before edge) (edges_fault format ids (ends_of edge) edges) e in
    let both = neither (ends_fault (are_nodes ids (ends_of edge)) before (ends_of edge)) (weight_fault format edge.weight) parts.0 in
    (ends_passed ids before (ends_of edge) both.0, weight_passed format edge.weight both.1, edges_passed format ids (ends_of edge) edges parts.1)

edges_pass : (format : ℕ) → (ids : List ℕ) (before : ℕ × ℕ) (edges : List Edge) → AreEdges format ids before edges → edges_fault format ids before edges ≡ None
edges_pass format ids before [] are = refl
edges_pass format ids before (edge ∷ edges) are =
    rw (ends_pass ids before (ends_of edge) are.0, weight_passes format edge.weight are.1) (edges_pass format ids (ends_of edge) edges are.2)

passed : (format : ℕ) (ids : List ℕ) (edges : List Edge) → graph_fault format ids edges ≡ None → AreIds format 0 ids × IsGraph format ids edges
passed format ids edges e =
    let one = neither (node_count_fault format (length ids)) (or_else (ids_fault format 0 ids)
    (or_else (edge_count_fault format (length edges)) (edges_fault format ids (0, 0) edges))) e in
    let two = neither (ids_fault format 0 ids) (or_else (edge_count_fault format (length edges)) (edges_fault format ids (0, 0) edges)) one.1 in
    let three = neither (edge_count_fault format (length edges)) (edges_fault format ids (0, 0) edges) two.1 in
    let graph : IsGraph format ids edges = record {
      node_count = node_count_passed format (length ids) one.0;
      edge_count = edge_count_passed format (length edges) three.0;
      are_edges = edges_passed format ids (0, 0) edges three.1;
    } in
    (ids_passed format 0 ids two.0, graph)

pass : (format : ℕ) (ids : List ℕ) (edges : List Edge) → AreIds format 0 ids × IsGraph format ids edges → graph_fault format ids edges ≡ None
pass format ids edges is =
    let graph = is.1 in
    rw (node_count_passes format (length ids) graph.node_count.0 graph.node_count.1, ids_pass format 0 ids is.0)
    (rw (edge_count_passes format (length edges) graph.edge_count) (edges_pass format ids (0, 0) edges graph.are_edges))

pub no_fault_is_in_range : NoFaultIsInRange
no_fault_is_in_range format ids edges = (passed format ids edges, pass format ids edges)
