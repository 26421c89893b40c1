use Rattle.std.proofs.Common.{◌-◌, length}
use Rattle.sp_node_arrivals.proofs.arriving.+list_from.Given as goal

abbrev pub decreases-list_from : goal.decreases-list_from
decreases-list_from l = length l.answers.now - l.place
