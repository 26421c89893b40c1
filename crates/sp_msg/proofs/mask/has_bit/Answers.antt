use Rattle.std.proofs.Common.{arith}
use Rattle.std.proofs.lemmas.Bool.Decides.{nat_tests}
use Rattle.sp_msg.proofs.MaskLemmas.{names_no_far_edge}
use Rattle.sp_msg.proofs.mask.has_bit.Goals as goal

pub returns-else-from-lt-BITS : goal.returns-else-from-lt-BITS
returns-else-from-lt-BITS c = rw (names_no_far_edge c.args.bits c.args.place c.ranges.bits.fits (omega arith)) (grind (arith, nat_tests))
