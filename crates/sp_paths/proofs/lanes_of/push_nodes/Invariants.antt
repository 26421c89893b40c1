use Rattle.std.proofs.Common.{◌≡◌, ◌++◌, map}
use Rattle.std.specs.List.{All, filter}
use Rattle.sp_graph.specs.Split.{node_arc, nodes_to}
use Rattle.sp_paths.specs.Parts.{IsFresh, arc_of, is_there}
use Rattle.sp_paths.proofs.lanes_of.push_nodes.Given as goal

abbrev pub invariant-loop-place : goal.invariant-loop-place
invariant-loop-place l = record {
  arcs : map arc_of l.lanes.items ≡ map arc_of l.fn.lanes.items ++ filter (is_there l.s l.t) (map node_arc (nodes_to l.place));
  fresh : All IsFresh l.lanes.items;
}
