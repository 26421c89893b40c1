use Rattle.std.proofs.Common.{◌≡◌, length}
use Rattle.sp_paths.specs.Tests.{all_apart}
use Rattle.sp_paths.proofs.apart.are_apart.Given as goal

abbrev pub invariant-paths : goal.invariant-paths
invariant-paths l = all_apart l.fn.s l.fn.t l.rest ≡ all_apart l.fn.s l.fn.t l.paths

abbrev pub decreases-paths : goal.decreases-paths
decreases-paths l = length l.rest
