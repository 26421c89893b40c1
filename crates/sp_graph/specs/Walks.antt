-- A path through a graph, as the list of its nodes, and what it costs.
--
--     1 2 4       from node 1 over node 2 to node 4, in the steps 1-2 and 2-4
use Rattle.std.specs.Prelude.{ℕ, ◌≡◌, ◌≢◌, Bool, true, cond, ◌==◌, ◌&&◌, ◌||◌, List, [], ◌∷◌, ◌++◌, drop}
use Rattle.std.specs.List.{All, AllPairs, Any, sum_by, zip}
use Rattle.sp_base.specs.declared.id.NodeId.{NodeId}
use Rattle.sp_topology.specs.declared.topology.Edge.{Edge}
use Rattle.sp_graph.specs.declared.graph.Graph.{Graph}

-- each element of a list with the one after it
abbrev pub steps : {X : Type 0} → List X → List (X × X)
steps xs = zip xs (drop 1 xs)

-- whether the edge joins the two nodes, whichever comes first
abbrev pub is_between : NodeId → NodeId → Edge → Bool
is_between u v e = ((e.low.0 == u.0) && (e.high.0 == v.0)) || ((e.low.0 == v.0) && (e.high.0 == u.0))

-- the weight of the edge between the two nodes
abbrev pub weight_between : List Edge → NodeId → NodeId → ℕ
weight_between [] u v = 0
weight_between (e ∷ edges) u v = cond (is_between u v e) e.weight (weight_between edges u v)

-- the step is along an edge
abbrev pub Joined : Graph → NodeId × NodeId → Type 0
Joined g step = Any (λ e. is_between step.0 step.1 e ≡ true) g.edges

-- from s over nodes in between to t, along edges, and through no node twice
pub record IsPath (g : Graph) (s t : NodeId) (path : List NodeId) : Type 0 where
  pub ends : (inner : List NodeId) × (path ≡ s ∷ (inner ++ t ∷ []))
  pub joined : All (Joined g) (steps path)
  pub once : AllPairs (λ u v. u ≢ v) path

-- the weights of a path's edges together
abbrev pub path_cost : Graph → List NodeId → ℕ
path_cost g path = sum_by (λ step. weight_between g.edges step.0 step.1) (steps path)
