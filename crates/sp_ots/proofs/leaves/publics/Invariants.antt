use Rattle.std.proofs.Common.{◌≡◌, ℕ, ◌+◌, ◌*◌, ◌<◌, [], length, take, get_or}
use Rattle.sp_ots.specs.Lanes.{lanes}
use Rattle.sp_ots.specs.Leaves.{ends_behind}
use Rattle.sp_ots.proofs.leaves.publics.Given as goal

abbrev pub invariant-chains : goal.invariant-chains
invariant-chains l = record {
  long : length l.messages ≡ lanes;
  laid : (k : ℕ) → k < lanes → take (22 + 32 * l.i) (get_or l.messages k []) ≡ ends_behind l.id (l.q + k) l.last l.seed l.i;
}
