use Rattle.std.proofs.Common.{◌≡◌, ◌*◌, length, map, take}
use Rattle.sha2.specs.Sha256.{word_at}
use Rattle.sp_ots.specs.Lanes.{lanes}
use Rattle.sp_ots.proofs.schedule.load.Given as goal

abbrev pub invariant-lanes : goal.invariant-lanes
invariant-lanes l = (length l.lanes ≡ lanes) × (take l.k l.lanes ≡ map (λ b. word_at b (4 * l.i)) (take l.k l.blocks))
