use Rattle.std.proofs.Common.{◌≡◌, ℕ, ◌+◌, ◌<◌, [], take, get_or}
use Rattle.sp_ots.specs.Lanes.{lanes}
use Rattle.sp_ots.specs.Leaves.{end_of_start, front_of}
use Rattle.sp_ots.proofs.leaves.ends.Given as goal

abbrev pub invariant-steps : goal.invariant-steps
invariant-steps l = record {
  front : (k : ℕ) → k < lanes → take 22 (get_or l.messages k []) ≡ front_of l.id (l.q + k) l.i;
  element : (k : ℕ) → k < lanes → get_or l.elements k [] ≡ end_of_start l.id (l.q + k) l.i l.j l.seed;
}
