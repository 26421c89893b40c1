use Rattle.sp_msg.proofs.HalfLemmas.{or_halves}
use Rattle.sp_msg.proofs.mask.joined.Goals as goal

pub returns : goal.returns
returns c = or_halves c.args.high c.args.other_high c.args.low c.args.other_low c.ranges.low.fits c.ranges.other_low.fits
