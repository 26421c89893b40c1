use Rattle.std.proofs.Common.{arith}
use Rattle.sp_text.proofs.SpelledLemmas.{nothing_spelled, pair_spelled}
use Rattle.sp_text.proofs.hex_word.write_digits.Goals as goal

pub bytes-init : goal.bytes-init
bytes-init c = nothing_spelled

pub bytes-preserved : goal.bytes-preserved
bytes-preserved c = pair_spelled _ _ _ _ _ (omega arith) (omega arith) c.bytes.invariant c.digit.ensures c.digit-in-bytes.ensures
