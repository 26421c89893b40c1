use Rattle.std.proofs.Common.{length}
use Rattle.sp_node_arrivals.proofs.prio.+leave.Given as goal

abbrev pub decreases-leave : goal.decreases-leave
decreases-leave l = length l.ready
