use Rattle.std.proofs.Common.{◌≡◌, ℕ, ◌+◌, ◌<◌, ◌≤◌, ◌++◌, [], length, take, get_or}
use Rattle.sp_ots.specs.Lanes.{lanes}
use Rattle.sp_ots.proofs.leaves.put.Given as goal

abbrev pub invariant-lanes : goal.invariant-lanes
invariant-lanes l = record {
  long : length l.messages ≡ lanes;
  laid : (m : ℕ) → m < l.k → take (l.place + 32) (get_or l.messages m []) ≡ take l.place (get_or l.fn.messages m []) ++ get_or l.pieces m [];
  rest : (m : ℕ) → l.k ≤ m → get_or l.messages m [] ≡ get_or l.fn.messages m [];
}
