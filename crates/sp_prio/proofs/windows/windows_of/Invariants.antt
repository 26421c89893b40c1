use Rattle.std.proofs.Common.{◌≡◌, [], replicate}
use Rattle.sp_prio.proofs.windows.windows_of.Given as goal

abbrev pub invariant-windows : goal.invariant-windows
invariant-windows l = l.windows.items ≡ replicate l.counter []
