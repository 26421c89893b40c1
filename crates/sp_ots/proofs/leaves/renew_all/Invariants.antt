use Rattle.std.proofs.Common.{◌≡◌, ℕ, ◌<◌, ◌≤◌, ◌++◌, [], length, take, get_or}
use Rattle.sp_ots.specs.Lanes.{lanes}
use Rattle.sp_ots.specs.Strings.{u8str}
use Rattle.sp_ots.proofs.leaves.renew_all.Given as goal

abbrev pub invariant-lanes : goal.invariant-lanes
invariant-lanes l = record {
  long : length l.messages ≡ lanes;
  laid : (m : ℕ) → m < l.k → get_or l.messages m [] ≡ take 22 (get_or l.fn.messages m []) ++ u8str l.step ++ get_or l.elements m [];
  rest : (m : ℕ) → l.k ≤ m → get_or l.messages m [] ≡ get_or l.fn.messages m [];
}
