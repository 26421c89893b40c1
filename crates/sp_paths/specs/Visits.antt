-- The path of a walk along lanes, as the list of its nodes. No public clause names these.
--
--     Out s -> In 2, In 2 -> Out 2, Out 2 -> In t       s 2 t
use Rattle.std.specs.Prelude.{ℕ, List, [], ◌∷◌, map}
use Rattle.sp_base.specs.declared.id.NodeId.{NodeId}
use Rattle.sp_graph.specs.declared.part.Part.{Part}
use Rattle.sp_graph.specs.declared.part.Part.TheVariants as parts
use Rattle.sp_paths.specs.declared.lane.Lane.{Lane}
use Rattle.sp_paths.specs.Lanes.{lane_at}
use Rattle.sp_paths.specs.Parts.{part_at}

-- the ends of a lane, as parts
abbrev pub way_of : Lane → Part × Part
way_of l = (part_at l.from, part_at l.to)

-- the ways of a walk's lanes
abbrev pub ways_along : List Lane → List ℕ → List (Part × Part)
ways_along lanes walk = map (λ i. way_of (lane_at lanes i)) walk

-- the nodes that are entered
abbrev pub visits : List (Part × Part) → List NodeId
visits [] = []
visits ((from, parts.In v) ∷ ways) = v ∷ visits ways
visits ((from, parts.Out v) ∷ ways) = visits ways

-- the nodes of a walk, from its source on
abbrev pub path_along : List Lane → NodeId → List ℕ → List NodeId
path_along lanes s walk = s ∷ visits (ways_along lanes walk)
