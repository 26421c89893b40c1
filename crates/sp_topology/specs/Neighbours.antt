-- Who is joined to whom, and by which edge.
use Rattle.std.specs.Prelude.{ℕ, ◌+◌, ◌<◌, ◌==◌, ◌&&◌, ◌||◌, Bool, List, [], ◌∷◌, ◌++◌, Option, Some, None, if◌then◌else◌}
use Rattle.sp_base.specs.declared.id.EdgeId.{EdgeId}
use Rattle.sp_base.specs.declared.id.NodeId.{NodeId}
use Rattle.sp_topology.specs.declared.topology.Edge.{Edge}

-- the edge joins the two, whichever comes first
abbrev pub joins : ℕ → ℕ → Edge → Bool
joins a b e = ((e.low.0 == a) && (e.high.0 == b)) || ((e.low.0 == b) && (e.high.0 == a))

-- the end of an edge to which it leads from this node
abbrev pub other_end : ℕ → Edge → Option NodeId
other_end node e = if e.low.0 == node then Some e.high else (if e.high.0 == node then Some e.low else None)

-- the edge at this place as one to the other node, where it has one
abbrev pub neighbour : ℕ → Option NodeId → List (NodeId × EdgeId)
neighbour place None = []
neighbour place (Some other) = (other, record { 0 = place }) ∷ []

-- the neighbours of a node by these edges, of which the first has this place
abbrev pub neighbours_from : ℕ → ℕ → List Edge → List (NodeId × EdgeId)
neighbours_from node place [] = []
neighbours_from node place (e ∷ edges) = neighbour place (other_end node e) ++ neighbours_from node (place + 1) edges

-- each id is above the one before, and the first above this one
abbrev pub Ascend : ℕ → List (NodeId × EdgeId) → Type 0
Ascend before [] = Unit {0}
Ascend before (n ∷ neighbours) = (before < n.0.0) × Ascend n.0.0 neighbours
