use Rattle.std.proofs.Common.{◌≡◌, drop}
use Rattle.std.specs.List.{list_any}
use Rattle.sp_paths.specs.Tests.{goes}
use Rattle.sp_paths.proofs.used.any_goes.Given as goal

abbrev pub invariant-loop-path : goal.invariant-loop-path
invariant-loop-path l = list_any (λ path. goes path l.fn.u l.fn.v) (drop l.path-index l.paths) ≡ list_any (λ path. goes path l.fn.u l.fn.v) l.paths
