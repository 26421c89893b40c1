use Rattle.std.proofs.Common.{◌∙◌, arith}
use Rattle.sp_hmac.proofs.Blocks.{block_of_short, block_of_long}
use Rattle.sp_hmac.proofs.keyed.key_block.Goals as goal

pub returns-then-key-le-BLOCK_LEN : goal.returns-then-key-le-BLOCK_LEN
returns-then-key-le-BLOCK_LEN c = block_of_short c.args.key.now c.copy_from_slice.new.self (omega arith) c.copy_from_slice.ensures.after

pub returns-else-key-le-BLOCK_LEN : goal.returns-else-key-le-BLOCK_LEN
returns-else-key-le-BLOCK_LEN c =
    block_of_long c.args.key.now c.copy_from_slice-else-key-le-BLOCK_LEN.new.self (omega arith)
    (c.copy_from_slice-else-key-le-BLOCK_LEN.ensures.after ∙ c.digest-digest.ensures)
