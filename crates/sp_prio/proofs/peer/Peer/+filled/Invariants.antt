use Rattle.std.proofs.Common.{◌-◌, length}
use Rattle.sp_prio.proofs.peer.Peer.+filled.Given as goal

abbrev pub decreases-filled : goal.decreases-filled
decreases-filled l = 4 - length l.flight.pairs
