use Rattle.std.proofs.Common.{◌-◌, length}
use Rattle.sp_prio.proofs.flight.+messages_from.Given as goal

abbrev pub decreases-messages_from : goal.decreases-messages_from
decreases-messages_from l = length l.pairs.now - l.place
