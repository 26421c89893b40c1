-- Tests that decide what `check` asks for, over any lists of nodes. No public clause names these.
use Rattle.std.specs.Prelude.{ℕ, ◌≡◌, ◌+◌, ◌-◌, ◌*◌, ◌<◌, nat_lt, MatchBool, ◌+ℤ◌, ◌==◌, ◌&&◌, ◌||◌, Bool, true, false, not, cond, List, []}
use Rattle.std.specs.Prelude.{◌∷◌, drop, Option, Some, None, ℤ, pos, ◌≤ℤ◌}
use Rattle.std.specs.List.{list_all, list_any}
use Rattle.sp_base.specs.declared.id.NodeId.{NodeId}
use Rattle.sp_topology.specs.declared.topology.Edge.{Edge}
use Rattle.sp_graph.specs.declared.graph.Graph.{Graph}
use Rattle.sp_graph.specs.declared.part.Part.{Part}
use Rattle.sp_graph.specs.declared.part.Part.TheVariants as parts
use Rattle.sp_graph.specs.Certificates.{number_of, reduced_cost, turned, uses}
use Rattle.sp_graph.specs.Split.{Arc, edge_arc, parts_of}
use Rattle.sp_graph.specs.Walks.{is_between, steps}
use Rattle.sp_paths.specs.declared.paths.Paths.{Paths}
use Rattle.sp_paths.specs.Parts.{is_there}

abbrev pub is_node : NodeId → NodeId → Bool
is_node u v = u.0 == v.0

-- whether a path has a node
abbrev pub has_node : List NodeId → NodeId → Bool
has_node path v = list_any (is_node v) path

-- whether an edge joins a step's two nodes
abbrev pub is_joined : List Edge → NodeId × NodeId → Bool
is_joined edges step = list_any (is_between step.0 step.1) edges

-- the last of the list
abbrev pub ends_at : NodeId → List NodeId → Bool
ends_at t [] = false
ends_at t (v ∷ []) = is_node v t
ends_at t (v ∷ w ∷ path) = ends_at t (w ∷ path)

-- the first is the one node, and the last, in another place, is the other
abbrev pub goes_between : NodeId → NodeId → List NodeId → Bool
goes_between s t [] = false
goes_between s t (v ∷ path) = is_node v s && ends_at t path

-- no node comes twice
abbrev pub all_differ : List NodeId → Bool
all_differ [] = true
all_differ (v ∷ path) = not (has_node path v) && all_differ path

-- whether nodes are a path: from one end to the other, along edges, none twice
abbrev pub is_path : List Edge → NodeId → NodeId → List NodeId → Bool
is_path edges s t path = goes_between s t path && list_all (is_joined edges) (steps path) && all_differ path

-- the two nodes, whichever comes first
abbrev pub is_step : NodeId → NodeId → NodeId × NodeId → Bool
is_step u v step = (is_node u step.0 && is_node v step.1) || (is_node u step.1 && is_node v step.0)

-- whether a path has a step
abbrev pub has_step : List NodeId → NodeId → NodeId → Bool
has_step path u v = list_any (is_step u v) (steps path)

-- whether a node is one of the two ends
abbrev pub is_end : NodeId → NodeId → NodeId → Bool
is_end s t v = is_node v s || is_node v t

-- no node of the one but the ends is on the other
abbrev pub share_no_node : NodeId → NodeId → List NodeId → List NodeId → Bool
share_no_node s t p q = list_all (λ v. is_end s t v || not (has_node q v)) p

-- whether two paths share no step
abbrev pub share_no_edge : List NodeId → List NodeId → Bool
share_no_edge p q = list_all (λ step. not (has_step q step.0 step.1)) (steps p)

-- whether two paths share neither an inner node nor a step
abbrev pub are_apart : NodeId → NodeId → List NodeId → List NodeId → Bool
are_apart s t p q = share_no_node s t p q && share_no_edge p q

-- whether each two paths are apart
abbrev pub all_apart : NodeId → NodeId → List (List NodeId) → Bool
all_apart s t [] = true
all_apart s t (p ∷ paths) = list_all (are_apart s t p) paths && all_apart s t paths

-- the path goes from u to v at once
abbrev pub goes : List NodeId → NodeId → NodeId → Bool
goes path u v = list_any (λ step. is_node step.0 u && is_node step.1 v) (steps path)

-- the node stands between the path's first and its last
abbrev pub passes : List NodeId → NodeId → Bool
passes path v = list_any (λ step. is_node step.0 v) (steps (drop 1 path))

-- what is left of an amount after this was taken from it; None where it was less
abbrev pub IsLeft : ℕ → ℕ → Option ℕ → Type 0
IsLeft amount taken None = amount < taken
IsLeft amount taken (Some left) = left + taken ≡ amount

-- 1 where the first number is below the second
abbrev pub below : ℕ → ℕ → ℕ
below n m = cond (nat_lt n m) 1 0

-- how many parts of lower nodes are there
abbrev pub before : NodeId → NodeId → ℕ → ℕ
before s t v = 2 * (v - 1) - below s.0 v - below t.0 v

-- the place of a part that is there, among all parts in their order
abbrev pub place : NodeId → NodeId → Part → ℕ
place s t (parts.In v) = before s t v.0
place s t (parts.Out v) = before s t v.0 + cond (v.0 == s.0) 0 1

-- where the arc is there, the reduced cost of its residual arc isn't below 0
abbrev pub FitsAs : Graph → NodeId → NodeId → List ℤ → Bool → Arc → Type 0
FitsAs g s t potentials used a = is_there s t a ≡ true → pos 0 ≤ℤ reduced_cost (number_of (parts_of g s t) potentials) (cond used (turned a) a)

-- an arc fits the potentials that the paths tell
unfoldable pub FitsAt : Graph → NodeId → NodeId → Paths → Arc → Type 0
FitsAt g s t p a = FitsAs g s t p.potentials (uses p.paths a) a

-- the arcs along an edge, both ways
unfoldable pub FitBoth : Graph → NodeId → NodeId → Paths → Edge → Type 0
FitBoth g s t p e = FitsAt g s t p (edge_arc e.low e.high e.weight) × FitsAt g s t p (edge_arc e.high e.low e.weight)

-- the reduced cost of an arc of this cost between these potentials, or of its turned one, isn't below 0
abbrev pub FitsArc : Bool → ℕ → ℤ → ℤ → Type 0
FitsArc used cost from to = MatchBool used ((pos cost +ℤ from) ≤ℤ to) (to ≤ℤ (pos cost +ℤ from))
