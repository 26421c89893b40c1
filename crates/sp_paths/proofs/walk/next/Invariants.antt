use Rattle.std.proofs.Common.{◌≡◌, ◌<◌, ℕ, true}
use Rattle.std.specs.Prelude.{◌≢◌}
use Rattle.sp_paths.specs.Lanes.{lane_at}
use Rattle.sp_paths.proofs.walk.next.Given as goal

abbrev pub invariant-loop-place : goal.invariant-loop-place
invariant-loop-place l = (k : ℕ) → k < l.place → (lane_at l.lanes k).used ≡ true → (lane_at l.lanes k).from ≢ l.here
