use Rattle.std.proofs.Common.{◌-◌, length}
use Rattle.sp_store.proofs.choice.+is_flying_from.Given as goal

abbrev pub decreases-is_flying_from : goal.decreases-is_flying_from
decreases-is_flying_from l = length l.flight.now - l.place
