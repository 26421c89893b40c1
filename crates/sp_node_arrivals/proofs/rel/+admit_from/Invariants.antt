use Rattle.std.proofs.Common.{◌-◌, length}
use Rattle.sp_node_arrivals.proofs.rel.+admit_from.Given as goal

abbrev pub decreases-admit_from : goal.decreases-admit_from
decreases-admit_from l = length l.rels.now - l.place
