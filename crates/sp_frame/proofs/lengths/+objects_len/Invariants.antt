use Rattle.std.proofs.Common.{◌-◌, length}
use Rattle.sp_frame.proofs.lengths.+objects_len.Given as goal

abbrev pub decreases-objects_len : goal.decreases-objects_len
decreases-objects_len l = length l.rels.now - l.place
