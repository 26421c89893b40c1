-- Lanes and the arcs that they stand for. No public clause names these.
--
--     the in-part of node v has the number 2 v, its out-part 2 v + 1
use Rattle.std.specs.Prelude.{ℕ, ◌≡◌, ◌+◌, ◌*◌, ◌/◌, ◌%◌, ◌<◌, ◌≤◌, ◌==◌, ◌&&◌, Bool, false, cond, pos}
use Rattle.sp_base.specs.declared.id.NodeId.{NodeId}
use Rattle.sp_base.specs.declared.limits.TheConstants.{MAX_WEIGHT}
use Rattle.sp_graph.specs.declared.part.Part.{Part}
use Rattle.sp_graph.specs.declared.part.Part.TheVariants as parts
use Rattle.sp_graph.specs.Split.{Arc, stays}
use Rattle.sp_paths.specs.declared.limits.TheConstants.{PARTS}
use Rattle.sp_paths.specs.declared.lane.Lane.{Lane}

abbrev pub node_of : Part → NodeId
node_of (parts.In v) = v
node_of (parts.Out v) = v

-- the number of a part
abbrev pub number : Part → ℕ
number (parts.In v) = 2 * v.0
number (parts.Out v) = 2 * v.0 + 1

-- the part of a number
abbrev pub part_at : ℕ → Part
part_at n = cond ((n % 2) == 0) (parts.In (record { 0 = n / 2 })) (parts.Out (record { 0 = n / 2 }))

-- an arc between two parts
abbrev pub arc : Part → Part → ℕ → Arc
arc from to cost = record { from = from; to = to; cost = pos cost }

-- the arc of a lane
abbrev pub arc_of : Lane → Arc
arc_of l = arc (part_at l.from) (part_at l.to) l.cost

-- both parts of the arc are there
abbrev pub is_there : NodeId → NodeId → Arc → Bool
is_there s t a = stays s t a.from && stays s t a.to

-- no path goes along the lane, and its numbers are in their ranges
pub record IsFresh (l : Lane) : Type 0 where
  pub unused : l.used ≡ false
  pub from : l.from < PARTS
  pub to : l.to < PARTS
  pub weight : l.cost ≤ MAX_WEIGHT
