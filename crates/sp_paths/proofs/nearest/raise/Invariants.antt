use Rattle.std.proofs.Common.{◌≡◌, ◌<◌, ◌≤◌, ℕ, length}
use Rattle.sp_paths.specs.Lanes.{at, is_in, raised}
use Rattle.sp_paths.proofs.nearest.raise.Given as goal

abbrev pub invariant-loop-v : goal.invariant-loop-v
invariant-loop-v l = record {
  same : length l.potential ≡ length l.fn.potential;
  done : (u : ℕ) → u < l.v → at l.potential u ≡ raised (is_in l.reached) l.gap (at l.fn.potential) u;
  left : (u : ℕ) → l.v ≤ u → at l.potential u ≡ at l.fn.potential u;
}
