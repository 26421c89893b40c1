use Rattle.sp_paths.proofs.RouteLemmas.{Rounds}
use Rattle.sp_paths.proofs.route.route.Given as goal

abbrev pub invariant-loop-round : goal.invariant-loop-round
invariant-loop-round l = Rounds l.fn.lanes l.fn.potential l.s l.t l.round l.lanes l.potential l.reached
