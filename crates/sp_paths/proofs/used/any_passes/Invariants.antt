use Rattle.std.proofs.Common.{◌≡◌, drop}
use Rattle.std.specs.List.{list_any}
use Rattle.sp_paths.specs.Tests.{passes}
use Rattle.sp_paths.proofs.used.any_passes.Given as goal

abbrev pub invariant-loop-path : goal.invariant-loop-path
invariant-loop-path l = list_any (λ path. passes path l.fn.node) (drop l.path-index l.paths) ≡ list_any (λ path. passes path l.fn.node) l.paths
