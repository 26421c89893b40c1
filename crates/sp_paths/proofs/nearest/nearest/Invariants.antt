use Rattle.sp_paths.specs.Lanes.{Best, at, is_in}
use Rattle.sp_paths.proofs.nearest.nearest.Given as goal

abbrev pub invariant-loop-i : goal.invariant-loop-i
invariant-loop-i l = Best (at l.potential) (is_in l.reached) l.lanes l.i l.best
