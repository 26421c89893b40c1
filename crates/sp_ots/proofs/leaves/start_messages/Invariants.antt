use Rattle.std.proofs.Common.{◌≡◌, ℕ, ◌+◌, ◌<◌, ◌++◌, [], length, get_or}
use Rattle.sp_ots.specs.Lanes.{lanes}
use Rattle.sp_ots.specs.Strings.{u8str}
use Rattle.sp_ots.specs.Leaves.{front_of}
use Rattle.sp_ots.proofs.leaves.start_messages.Given as goal

abbrev pub invariant-lanes : goal.invariant-lanes
invariant-lanes l = record {
  long : length l.messages ≡ lanes;
  laid : (m : ℕ) → m < l.k → get_or l.messages m [] ≡ front_of l.id (l.q + m) l.i ++ u8str 0xff ++ l.seed;
}
