use Rattle.std.proofs.Common.{◌-◌, length}
use Rattle.sp_frame.proofs.writing.+push_numbered.Given as goal

abbrev pub decreases-push_numbered : goal.decreases-push_numbered
decreases-push_numbered l = length l.prios.now - l.place
