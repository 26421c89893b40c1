use Rattle.std.proofs.Common.{◌-◌, length}
use Rattle.sp_node_arrivals.proofs.rel.+ready_from.Given as goal

abbrev pub decreases-ready_from : goal.decreases-ready_from
decreases-ready_from l = length l.rels.now - l.place
