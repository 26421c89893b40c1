-- A tag has 32 bytes.
use Rattle.std.proofs.Common.{◌≡◌, ℕ, List, ◌++◌, length}
use Rattle.sha2.specs.Sha256.{sha256}
use Rattle.sha2.proofs.Facts256.{length-sha256}
use Rattle.sp_hmac.specs.Hmac.{hmac, block_hmac, key_block, changed}

-- a tag has 32 bytes
pub length-hmac : (key message : List ℕ) → length (hmac key message) ≡ 32
unfolding block_hmac
length-hmac key message = length-sha256 (changed 92 (key_block key) ++ sha256 (changed 54 (key_block key) ++ message))
