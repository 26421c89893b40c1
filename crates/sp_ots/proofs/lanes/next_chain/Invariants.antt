use Rattle.std.proofs.Common.{ℕ, ◌<◌, ◌≤◌}
use Rattle.sp_ots.specs.UnderWay.{IsInTurn}
use Rattle.sp_ots.proofs.lanes.next_chain.Given as goal

abbrev pub invariant-chains : goal.invariant-chains
invariant-chains l = (j : ℕ) → l.start ≤ j → j < l.i → ¬ IsInTurn l.from l.to l.most j
