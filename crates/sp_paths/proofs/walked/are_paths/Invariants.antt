use Rattle.std.proofs.Common.{◌≡◌, drop}
use Rattle.std.specs.List.{list_all}
use Rattle.sp_paths.specs.Tests.{is_path}
use Rattle.sp_paths.proofs.walked.are_paths.Given as goal

abbrev pub invariant-loop-path : goal.invariant-loop-path
invariant-loop-path l = list_all (is_path l.edges l.fn.s l.fn.t) (drop l.path-index l.paths) ≡ list_all (is_path l.edges l.fn.s l.fn.t) l.paths
