-- How paths and a cut are told, line by line.
--
--     path 1 2 4          a line for each path, with its nodes
--     cost 10             the weights of all edges together
--
--     fewer 2             how many paths there are, where there are fewer than were asked for
--     cut 1 2- 2+         the parts that only so many arcs lead out of: an end by its number, else the in-part 2- and the out-part 2+
use Rattle.std.specs.Prelude.{ℕ, ◌==◌, List, [], ◌++◌, codes, cond}
use Rattle.std.specs.List.{flat_map}
use Rattle.std.specs.Fmt.{decimal}
use Rattle.sp_base.specs.declared.id.NodeId.{NodeId}
use Rattle.sp_graph.specs.declared.part.Part.{Part}
use Rattle.sp_graph.specs.declared.part.Part.TheVariants as parts
use Rattle.sp_paths.specs.declared.paths.Paths.{Paths}

abbrev pub node_text : NodeId → List ℕ
node_text v = codes " " ++ decimal v.0

-- the line of a path
unfoldable pub path_line : List NodeId → List ℕ
path_line path = codes "path" ++ (flat_map node_text path ++ codes "\n")

-- the line of a cost
unfoldable pub cost_line : ℕ → List ℕ
cost_line cost = codes "cost " ++ (decimal cost ++ codes "\n")

-- the lines of paths
unfoldable pub paths_text : Paths → List ℕ
paths_text p = flat_map path_line p.paths ++ cost_line p.cost

-- the sign after a node's number, where the node isn't the end that is a single part
abbrev pub part_sign : NodeId → NodeId → List ℕ → List ℕ
part_sign end v sign = cond (v.0 == end.0) [] sign

-- between two ends, of which the first has its out-part alone, and the second its in-part
unfoldable pub part_text : NodeId → NodeId → Part → List ℕ
part_text s t (parts.In v) = node_text v ++ part_sign t v (codes "-")
part_text s t (parts.Out v) = node_text v ++ part_sign s v (codes "+")

-- the lines of a cut, where there are fewer paths
unfoldable pub fewer_text : NodeId → NodeId → ℕ → List Part → List ℕ
fewer_text s t found cut = codes "fewer " ++ (decimal found ++ (codes "\ncut" ++ (flat_map (part_text s t) cut ++ codes "\n")))
