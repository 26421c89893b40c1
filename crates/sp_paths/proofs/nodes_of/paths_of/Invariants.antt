use Rattle.std.proofs.Common.{◌≡◌, ◌++◌, drop, map}
use Rattle.sp_paths.specs.Visits.{path_along}
use Rattle.sp_paths.proofs.nodes_of.paths_of.Given as goal

abbrev pub invariant-loop-walk : goal.invariant-loop-walk
invariant-loop-walk l =
    l.paths.items ++ map (λ walk. path_along l.lanes l.s walk.items) (drop l.walk-index l.walks) ≡ map (λ walk. path_along l.lanes l.s walk.items) l.walks
