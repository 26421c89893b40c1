use Rattle.std.proofs.Common.{◌≡◌}
use Rattle.sp_paths.proofs.PartLists.{parts_to}
use Rattle.sp_paths.proofs.parts.parts.Given as goal

abbrev pub invariant-loop-place : goal.invariant-loop-place
invariant-loop-place l = l.parts.items ≡ parts_to l.fn.s l.fn.t l.place
