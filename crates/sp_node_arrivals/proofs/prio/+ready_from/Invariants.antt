use Rattle.std.proofs.Common.{◌-◌, length}
use Rattle.sp_node_arrivals.proofs.prio.+ready_from.Given as goal

abbrev pub decreases-ready_from : goal.decreases-ready_from
decreases-ready_from l = length l.prios.now - l.place
