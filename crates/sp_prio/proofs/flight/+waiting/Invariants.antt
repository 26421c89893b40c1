use Rattle.std.proofs.Common.{◌-◌, length}
use Rattle.sp_prio.proofs.flight.+waiting.Given as goal

abbrev pub decreases-waiting : goal.decreases-waiting
decreases-waiting l = length l.pairs.now - l.place
