-- A graph in which the cheapest path is a trap: no second path is apart from it.
--
--              2                 the weights: 1-2 1, 1-3 4, 2-3 1, 2-4 4, 3-4 1
--           1/   \4
--          1   |1  4             one path:   1 2 3 4              costs 3
--           4\   /1              two paths:  1 2 4 and 1 3 4      cost 10
--              3                 three paths don't exist: two arcs leave the part of node 1
use Rattle.std.specs.Prelude.{ℕ, ◌≡◌, List, [], ◌∷◌}
use Rattle.sp_base.specs.declared.id.NodeId.{NodeId}
use Rattle.sp_topology.specs.declared.topology.Edge.{Edge}
use Rattle.sp_graph.specs.declared.graph.Graph.{Graph}
use Rattle.sp_graph.specs.declared.part.Part.TheVariants as parts
use Rattle.sp_graph.specs.Cuts.{IsCut, is_among, leaving}
use Rattle.sp_graph.specs.Disjoint.{Disjoint, Least, cost}
use Rattle.sp_graph.specs.Edges.{IsGraph}

abbrev pub node : ℕ → NodeId
node n = record { 0 = n }

-- an edge between two numbers
abbrev pub edge : ℕ → ℕ → ℕ → Edge
edge low high weight = record { low = node low; high = node high; weight = weight }

-- the graph: 1-2-3-4 is cheapest, and leaves no second path
abbrev pub trap : Graph
trap = record { nodes = 4; edges = edge 1 2 1 ∷ edge 1 3 4 ∷ edge 2 3 1 ∷ edge 2 4 4 ∷ edge 3 4 1 ∷ [] }

-- the cheapest path alone
abbrev pub one_path : List (List NodeId)
one_path = (node 1 ∷ node 2 ∷ node 3 ∷ node 4 ∷ []) ∷ []

-- the two paths that are apart
abbrev pub two_paths : List (List NodeId)
two_paths = (node 1 ∷ node 2 ∷ node 4 ∷ []) ∷ (node 1 ∷ node 3 ∷ node 4 ∷ []) ∷ []

-- all that the picture says
pub record TrapHolds : Type 0 where
  pub in_range : IsGraph trap
  pub one : Disjoint trap (node 1) (node 4) 1 one_path
  pub one_cost : cost trap one_path ≡ 3
  pub one_least : Least trap (node 1) (node 4) 1 one_path
  pub two : Disjoint trap (node 1) (node 4) 2 two_paths
  pub two_cost : cost trap two_paths ≡ 10
  pub two_least : Least trap (node 1) (node 4) 2 two_paths
  pub is_cut : IsCut (node 1) (node 4) (is_among (parts.Out (node 1) ∷ []))
  pub size : leaving trap (node 1) (node 4) (is_among (parts.Out (node 1) ∷ [])) ≡ 2
  pub no_three : (paths : List (List NodeId)) → Disjoint trap (node 1) (node 4) 3 paths → ⊥
