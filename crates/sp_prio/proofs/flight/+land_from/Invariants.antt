use Rattle.std.proofs.Common.{◌-◌, length}
use Rattle.sp_prio.proofs.flight.+land_from.Given as goal

abbrev pub decreases-land_from : goal.decreases-land_from
decreases-land_from l = length l.pairs.now - l.place
