-- A node has fewer neighbours than there are ids.
use Rattle.std.proofs.Common.{◌≡◌, ◌≤◌, ℕ, ◌+◌, List, [], ◌∷◌, length, map, Option, Some, None, ap, arith, length-append}
use Rattle.std.proofs.lemmas.List.{length-map}
use Rattle.sp_base.specs.declared.id.EdgeId.{EdgeId}
use Rattle.sp_base.specs.declared.id.NodeId.{NodeId}
use Rattle.sp_base.specs.declared.limits.TheConstants.{MAX_EDGES_2}
use Rattle.sp_rules.specs.Parts.{as_neighbour}
use Rattle.sp_rules.specs.declared.prio.Neighbour.{Neighbour}
use Rattle.sp_rules.specs.declared.store.TheConstants.{IDS}
use Rattle.sp_topology.specs.Neighbours.{neighbour, neighbours_from, other_end}
use Rattle.sp_topology.specs.declared.topology.Edge.{Edge}

one_more : (place : ℕ) (o : Option NodeId) → length (neighbour place o) ≤ 1
one_more place None = omega arith
one_more place (Some v) = omega arith

few : (me place : ℕ) (edges : List Edge) → length (neighbours_from me place edges) ≤ length edges
few me place [] = omega arith
few me place (e ∷ edges) =
    let here = one_more place (other_end me e) in
    let rest = few me (place + 1) edges in
    omega (arith, here, rest, length-append (neighbour place (other_end me e)) (neighbours_from me (place + 1) edges))

pub few_neighbours : (xs : List Neighbour) (joined : List (NodeId × EdgeId)) (me : ℕ) (edges : List Edge) → xs ≡ map as_neighbour joined
    → joined ≡ neighbours_from me 0 edges → length edges ≤ MAX_EDGES_2 → length xs ≤ IDS
few_neighbours xs joined me edges are is most =
    omega (arith, most, few me 0 edges, ap length is, ap length are, length-map joined as_neighbour)
