use Rattle.std.proofs.Common.{◌≡◌, length, map, take}
use Rattle.sha2.specs.Sha256.{sha256}
use Rattle.sp_ots.specs.Lanes.{lanes}
use Rattle.sp_ots.specs.Blocks.{block_digest}
use Rattle.sp_ots.proofs.message.digests.Given as goal

abbrev pub invariant-fill : goal.invariant-fill
invariant-fill l = (length l.padded_messages ≡ lanes) × (map block_digest (take l.k l.padded_messages) ≡ map sha256 (take l.k l.messages))
