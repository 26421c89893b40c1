use Rattle.std.proofs.Common.{arith}
use Rattle.std.proofs.lemmas.Bool.Decides.{nat_tests}
use Rattle.sp_msg.proofs.HalfLemmas.{high_power}
use Rattle.sp_msg.proofs.mask.Mask.of.Goals as goal

pub returns-else-edge-lt128 : goal.returns-else-edge-lt128
returns-else-edge-lt128 c = high_power c.args.edge.0 c.requires (grind (arith, nat_tests))
