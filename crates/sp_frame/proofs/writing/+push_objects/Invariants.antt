use Rattle.std.proofs.Common.{◌-◌, length}
use Rattle.sp_frame.proofs.writing.+push_objects.Given as goal

abbrev pub decreases-push_objects : goal.decreases-push_objects
decreases-push_objects l = length l.rels.now - l.place
