-- What a seed signs is valid under the seed's public key.
use Rattle.std.specs.Prelude.{◌≡◌, ℕ, ◌<◌, List, length}
use Rattle.sp_ots.specs.declared.param.OtsParam.{OtsParam}
use Rattle.sp_lms.specs.declared.param.LmsParam.{LmsParam}
use Rattle.sp_lms.specs.Parameters.{leaf_count}
use Rattle.sp_lms.specs.Keys.{public_key, signature}
use Rattle.sp_lms.specs.Validity.{IsValid}

abbrev pub SeedSignaturesAreValid : Type 0
SeedSignaturesAreValid = (lms : LmsParam) (one_time : OtsParam) (id seed message : List ℕ) (q : ℕ)
    → length id ≡ 16 → q < leaf_count lms
    → IsValid (public_key lms one_time id seed) message (signature lms one_time id seed q message)
