use Rattle.std.proofs.Common.{◌≡◌, ◌*◌, ℕ, List, map}
use Rattle.sp_ots.specs.Lanes.{columns}
use Rattle.sp_ots.specs.Blocks.{AreRoundsAt}
use Rattle.sp_ots.proofs.block.take_in.Given as goal

abbrev pub invariant-schedule : goal.invariant-schedule
invariant-schedule g l = (ms : List (List ℕ)) (before block : List ℕ → List ℕ) → l.fn.hash ≡ columns before ms → l.blocks ≡ map block ms
    → AreRoundsAt before block ms l.w l.v (16 * l.turn)
