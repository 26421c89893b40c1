-- Sets of edges as masks: which edges a path goes along, and along which edges of a mask a node sends on.
use Rattle.std.specs.Prelude.{ℕ, ◌≡◌, ◌≢◌, ◌⊎◌, ◌^◌, Bool, true, false, List, Option, Some, None, slice_get}
use Rattle.std.specs.List.{list_any}
use Rattle.sp_base.specs.declared.id.NodeId.{NodeId}
use Rattle.sp_base.specs.declared.id.EdgeId.{EdgeId}
use Rattle.sp_msg.specs.Views.{names_edge}
use Rattle.sp_topology.specs.declared.topology.Edge.{Edge}
use Rattle.sp_graph.specs.declared.graph.Graph.{Graph}
use Rattle.sp_graph.specs.Walks.{is_between, steps}

-- whether the path goes along the edge, whichever way
abbrev pub is_walked : Edge → List NodeId → Bool
is_walked e path = list_any (λ step. is_between step.0 step.1 e) (steps path)

-- whether there is an edge at this place, and the path goes along it
abbrev pub is_walked_at : Option Edge → List NodeId → Bool
is_walked_at None path = false
is_walked_at (Some e) path = is_walked e path

-- the mask has just the edges that the path goes along
abbrev pub IsMaskOf : Graph → List NodeId → ℕ → Type 0
IsMaskOf g path mask = (place : ℕ) → names_edge mask place ≡ is_walked_at (slice_get g.edges place) path

-- the mask of the edge at a place alone, and of none
abbrev pub mask_at : Option ℕ → ℕ
mask_at None = 0
mask_at (Some place) = 2 ^ place

-- the mask has the edge, the node is an end of it, and what the node sends on didn't come from its other end
pub record Forwards (g : Graph) (mask : ℕ) (node : NodeId) (edge : EdgeId) (came : Option NodeId) : Type 0 where
  pub joins : Edge
  pub is_edge : slice_get g.edges edge.0 ≡ Some joins
  pub named : names_edge mask edge.0 ≡ true
  pub leads : ((node ≡ joins.low) × (came ≢ Some joins.high)) ⊎ ((node ≡ joins.high) × (came ≢ Some joins.low))
