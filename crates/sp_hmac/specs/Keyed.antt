-- What a key that is hashed once holds: both of its changed blocks, each taken in by a hasher. The key itself isn't kept.
use Rattle.std.specs.Prelude.{ℕ, List}
use Rattle.sha2.specs.Hashers.{Holds256}
use Rattle.sp_hmac.specs.Hmac.{changed, key_block}
use Rattle.sp_hmac.specs.declared.keyed.Keyed.{Keyed}

pub record HoldsKey (k : Keyed) (key : List ℕ) : Type 0 where
  pub inner : Holds256 k.inner (changed 0x36 (key_block key))
  pub outer : Holds256 k.outer (changed 0x5c (key_block key))
