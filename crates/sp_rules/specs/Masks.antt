-- The edges over which an own priority message goes: all of them, or those of the cheapest paths to its destination that share no node.
-- Where several sets of paths cost the least, the node may take any: this is the one choice that the rules leave it.
use Rattle.std.specs.Prelude.{ℕ, zero, suc, ◌≡◌, ◌==◌, ◌+◌, ◌^◌, ◌<◌, ◌≤◌, Bool, max, List, [], ◌∷◌, Option, slice_get, if◌then◌else◌}
use Rattle.std.specs.List.{list_any}
use Rattle.sp_base.specs.declared.id.NodeId.{NodeId}
use Rattle.sp_graph.specs.Disjoint.{Disjoint, Least}
use Rattle.sp_graph.specs.Masks.{is_walked_at}
use Rattle.sp_graph.specs.declared.graph.Graph.{Graph}
use Rattle.sp_msg.specs.Views.{names_edge}
use Rattle.sp_topology.specs.declared.topology.Edge.{Edge}
use Rattle.sp_topology.specs.declared.topology.NodeKey.{NodeKey}
use Rattle.sp_topology.specs.declared.topology.Topology.{Topology}
use Rattle.sp_rules.specs.Weights.{WeightState, effective, is_withdrawn}

-- ---- the graph that paths are sought in

abbrev pub greatest_id : List NodeKey → ℕ
greatest_id [] = 0
greatest_id (n ∷ nodes) = max n.id.0 (greatest_id nodes)

-- the edges that aren't withdrawn with the weights that are in effect. The first has this place
abbrev pub weighed : WeightState → ℕ → List Edge → List Edge
weighed s place [] = []
weighed s place (e ∷ edges) =
    if is_withdrawn s place then weighed s (place + 1) edges
    else record { low = e.low; high = e.high; weight = effective s place } ∷ weighed s (place + 1) edges

-- the topology under these weights. Ids that no node has are nodes without an edge, on no path
abbrev pub graph_of : Topology → WeightState → Graph
graph_of t s = record { nodes = greatest_id t.nodes; edges = weighed s 0 t.edges }

-- ---- masks

-- what a message goes over: the edges of a mask, or no edge, since only so many paths are there
pub data Choice : Type 0 where
  Mask : (mask : ℕ) → Choice
  OnlyPaths : (found : ℕ) → Choice

-- the edges that aren't withdrawn, by their places among all. The first has this place
abbrev pub open_edges : ℕ → List ℕ → ℕ
open_edges place [] = 0
open_edges place (weight ∷ weights) = if weight == 0 then open_edges (place + 1) weights else 2 ^ place + open_edges (place + 1) weights

-- there is an edge at this place, and some path goes along it
abbrev pub is_used : List (List NodeId) → Option Edge → Bool
is_used paths place = list_any (is_walked_at place) paths

-- the mask names exactly the edges of the paths, by their places among all edges
abbrev pub IsMaskOf : List Edge → List (List NodeId) → ℕ → Type 0
IsMaskOf edges paths mask = (edge : ℕ) → names_edge mask edge ≡ is_used paths (slice_get edges edge)

-- the mask of so many paths that share no node, of which no others cost less
pub record IsCheapestMask (w : WeightState) (g : Graph) (s t : NodeId) (count mask : ℕ) : Type 0 where
  pub paths : List (List NodeId)
  pub disjoint : Disjoint g s t count paths
  pub least : Least g s t count paths
  pub mask_of : IsMaskOf w.edges paths mask

-- there are found such paths, which are fewer than count, and no more
pub record AreFewer (g : Graph) (s t : NodeId) (count found : ℕ) : Type 0 where
  pub fewer : found < count
  pub paths : List (List NodeId)
  pub disjoint : Disjoint g s t found paths
  pub no_more : (n : ℕ) (others : List (List NodeId)) → Disjoint g s t n others → n ≤ found

-- so many paths were asked for in a graph of the edges that aren't withdrawn, and none of them means all these edges
abbrev pub IsChoice : WeightState → Graph → NodeId → NodeId → ℕ → Choice → Type 0
IsChoice w g s t zero choice = choice ≡ Mask (open_edges 0 w.least)
IsChoice w g s t (suc more) (Mask mask) = IsCheapestMask w g s t (suc more) mask
IsChoice w g s t (suc more) (OnlyPaths found) = AreFewer g s t (suc more) found
