use Rattle.std.proofs.Common.{◌≡◌, drop}
use Rattle.std.specs.List.{list_all}
use Rattle.sp_paths.specs.Tests.{are_apart}
use Rattle.sp_paths.proofs.apart.is_apart.Given as goal

abbrev pub invariant-loop-other : goal.invariant-loop-other
invariant-loop-other l = list_all (are_apart l.fn.s l.fn.t l.path) (drop l.other-index l.others) ≡ list_all (are_apart l.fn.s l.fn.t l.path) l.others
