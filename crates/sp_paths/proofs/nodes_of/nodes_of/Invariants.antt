use Rattle.std.proofs.Common.{◌≡◌, ◌++◌, drop}
use Rattle.sp_paths.specs.Visits.{path_along, visits, ways_along}
use Rattle.sp_paths.proofs.nodes_of.nodes_of.Given as goal

abbrev pub invariant-loop-place : goal.invariant-loop-place
invariant-loop-place l = l.path.items ++ visits (ways_along l.lanes (drop l.place-index l.walk)) ≡ path_along l.lanes l.fn.s l.walk
