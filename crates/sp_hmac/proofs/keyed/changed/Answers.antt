use Rattle.std.proofs.Common.{◌<◌, length, get_or, arith}
use Rattle.std.specs.Int.Bits.{bit_xor}
use Rattle.std.proofs.lemmas.List.{get_or_default}
use Rattle.std.proofs.lemmas.List.Edits.{map_over_more}
use Rattle.sp_hmac.proofs.keyed.changed.Goals as goal

pub bytes-preserved : goal.bytes-preserved
bytes-preserved c =
    let block = c.bytes.byte-items in
    let i = c.bytes.byte-index in
    let byte = get_or block i 0 in
    let within : i < length block = omega arith in
    map_over_more (λ b. bit_xor b c.args.pad) c.args.block.now block i byte (omega arith) c.bytes.invariant (get_or_default block i 0 byte within)
