use Rattle.std.proofs.Common.{◌≡◌, ℕ, ◌+◌, ◌<◌, [], length, take, get_or}
use Rattle.sp_ots.specs.Lanes.{lanes}
use Rattle.sp_ots.specs.Leaves.{front_of}
use Rattle.sp_ots.proofs.leaves.fronts.Given as goal

abbrev pub invariant-lanes : goal.invariant-lanes
invariant-lanes l = record {
  long : length l.messages ≡ lanes;
  begun : (m : ℕ) → m < l.k → take 22 (get_or l.messages m []) ≡ front_of l.id (l.q + m) 0x8080;
}
