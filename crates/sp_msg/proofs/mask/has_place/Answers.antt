use Rattle.std.proofs.Common.{◌∙◌, sym, arith}
use Rattle.std.proofs.lemmas.Bool.Decides.{nat_tests}
use Rattle.sp_msg.proofs.HalfLemmas.{high_bit, low_bit}
use Rattle.sp_msg.proofs.mask.has_place.Goals as goal

pub returns-then-place-lt128 : goal.returns-then-place-lt128
returns-then-place-lt128 c = c.has_bit.ensures ∙ sym (low_bit c.args.high c.args.low c.args.place (grind (arith, nat_tests)))

pub returns-else-place-lt128 : goal.returns-else-place-lt128
returns-else-place-lt128 c =
    c.has_bit-else-place-lt128.ensures ∙ sym (high_bit c.args.high c.args.low c.args.place c.ranges.low.fits (grind (arith, nat_tests)))
