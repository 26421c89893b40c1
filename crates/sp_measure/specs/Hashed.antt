-- The hashes of this format: HMAC-SHA-256 and SHA-256.
use Rattle.sha2.specs.Sha256.{sha256}
use Rattle.sp_hmac.specs.Hmac.{hmac}
use Rattle.sp_measure.specs.Proofs.{Hashes}

abbrev pub hashed : Hashes
hashed = record { tag = hmac; hash = sha256 }
