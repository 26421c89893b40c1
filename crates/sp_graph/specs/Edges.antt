-- A graph in its ranges: which edges may stand in it, and in which order.
use Rattle.std.specs.Prelude.{ℕ, ◌≡◌, ◌-◌, ◌<◌, ◌≤◌, ◌⊎◌, List, [], ◌∷◌, ◌++◌, length, slice_get, Option, IfSome}
use Rattle.std.specs.List.{All, AllPairs}
use Rattle.sp_base.specs.declared.limits.TheConstants.{MAX_EDGES_2, MAX_NODES_2, MAX_WEIGHT}
use Rattle.sp_base.specs.Formats.{max_edges, max_nodes}
use Rattle.sp_topology.specs.declared.topology.Edge.{Edge}
use Rattle.sp_graph.specs.declared.graph.Graph.{Graph}

abbrev pub IsWeight : Edge → Type 0
IsWeight e = (1 ≤ e.weight) × (e.weight ≤ MAX_WEIGHT)

-- both ends are nodes
abbrev pub IsAmong : ℕ → Edge → Type 0
IsAmong nodes e = (1 ≤ e.low.0) × (e.low.0 ≤ nodes) × (1 ≤ e.high.0) × (e.high.0 ≤ nodes)

-- the first edge stands before the second in the order of their ends
abbrev pub IsLower : Edge → Edge → Type 0
IsLower f e = (f.low.0 < e.low.0) ⊎ ((f.low.0 ≡ e.low.0) × (f.high.0 < e.high.0))

-- the last of some edges
abbrev pub last_edge : List Edge → Option Edge
last_edge edges = slice_get edges (length edges - 1)

-- the edge joins two nodes, the lower one first, and stands after the edges so far
pub record IsNextEdge (format : ℕ) (g : Graph) (e : Edge) : Type 0 where
  pub ends : (1 ≤ e.low.0) × (e.low.0 < e.high.0) × (e.high.0 ≤ g.nodes)
  pub weight : IsWeight e
  pub ascends : IfSome (last_edge g.edges) (λ f. IsLower f e)
  pub few : length g.edges < max_edges format

-- the graph with one edge more, after the others
abbrev pub with_edge : Graph → Edge → Graph
with_edge g e = record { nodes = g.nodes; edges = g.edges ++ e ∷ [] }

-- so many nodes may be there
abbrev pub AreNodes : ℕ → Type 0
AreNodes nodes = (2 ≤ nodes) × (nodes ≤ MAX_NODES_2)

-- both ends are nodes, the lower one first, and the weight is in its range
abbrev pub IsEdge : ℕ → Edge → Type 0
IsEdge nodes e = (1 ≤ e.low.0) × (e.low.0 < e.high.0) × (e.high.0 ≤ nodes) × IsWeight e

-- a graph in its ranges, each edge before those after it
pub record IsGraph (g : Graph) : Type 0 where
  pub nodes : AreNodes g.nodes
  pub few : length g.edges ≤ MAX_EDGES_2
  pub edges : All (IsEdge g.nodes) g.edges
  pub ascend : AllPairs IsLower g.edges

-- the same in a format, which has fewer nodes and edges
pub record IsGraphIn (format : ℕ) (g : Graph) : Type 0 where
  pub nodes : (2 ≤ g.nodes) × (g.nodes ≤ max_nodes format)
  pub few : length g.edges ≤ max_edges format
  pub edges : All (IsEdge g.nodes) g.edges
  pub ascend : AllPairs IsLower g.edges
