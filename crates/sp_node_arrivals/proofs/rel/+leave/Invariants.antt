use Rattle.std.proofs.Common.{length}
use Rattle.sp_node_arrivals.proofs.rel.+leave.Given as goal

abbrev pub decreases-leave : goal.decreases-leave
decreases-leave l = length l.ready
