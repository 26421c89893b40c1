use Rattle.std.proofs.Common.{count_by}
use Rattle.sp_paths.proofs.WalkLemmas.{Walking}
use Rattle.sp_paths.proofs.walk.walk.Given as goal

abbrev pub invariant-on : goal.invariant-on
invariant-on l = Walking l.fn.lanes l.s l.t l.here l.lanes l.walk.items

abbrev pub decreases-on : goal.decreases-on
decreases-on l = count_by (λ lane. lane.used) l.lanes
