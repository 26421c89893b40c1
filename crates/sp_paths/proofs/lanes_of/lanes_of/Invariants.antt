use Rattle.std.proofs.Common.{◌≡◌, ◌++◌, map, drop}
use Rattle.std.specs.List.{All}
use Rattle.sp_graph.specs.Split.{arcs_of}
use Rattle.sp_paths.specs.Parts.{IsFresh, arc_of}
use Rattle.sp_paths.proofs.LaneLists.{left}
use Rattle.sp_paths.proofs.lanes_of.lanes_of.Given as goal

abbrev pub invariant-loop-edge : goal.invariant-loop-edge
invariant-loop-edge l = record {
  arcs : map arc_of l.lanes.items ++ left l.s l.t (drop l.edge-index l.graph.edges) ≡ arcs_of l.graph l.s l.t;
  fresh : All IsFresh l.lanes.items;
}
