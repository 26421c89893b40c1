use Rattle.std.proofs.Common.{◌-◌, length}
use Rattle.sp_frame.proofs.lengths.+numbered_len.Given as goal

abbrev pub decreases-numbered_len : goal.decreases-numbered_len
decreases-numbered_len l = length l.prios.now - l.place
