-- What a valid signature by a lower tree begins with, its front, which is the same for all signatures by that tree.
--
--    front         4 one level less than two | signature by the upper tree | 56 public key of the lower tree
--    signature     front | signature by the lower tree
use Rattle.std.specs.Prelude.{◌≡◌, ℕ, ◌+◌, ◌-◌, ◌<◌, ◌≤◌, List, length, take, drop}
use Rattle.sp_ots.specs.declared.param.OtsParam.{OtsParam}
use Rattle.sp_lms.specs.declared.param.LmsParam.{LmsParam}
use Rattle.sp_lms.specs.Parameters.{signature_len}
use Rattle.sp_lms.specs.Validity as tree
use Rattle.sp_hss.specs.Validity.{number_of}

-- the lower tree's key in a front
abbrev pub lower_key_of : List ℕ → List ℕ
lower_key_of front = drop (length front - 56) front

-- the upper tree's signature in a front
abbrev pub upper_of : List ℕ → List ℕ
upper_of front = take (length front - 60) (drop 4 front)

-- a front is valid under a public key: the upper tree signs the lower tree's key
pub record IsFrontUnder (public front : List ℕ) : Type 0 where
  pub levels : number_of public ≡ 2
  pub levels_below : number_of front ≡ 1
  pub long : 60 ≤ length front
  pub upper_valid : tree.IsValid (drop 4 public) (lower_key_of front) (upper_of front)

-- how long a front is under a public key of two levels
pub record IsFrontLen (public : List ℕ) (len : ℕ) : Type 0 where
  pub levels : number_of public ≡ 2
  pub upper : LmsParam
  pub one_time : OtsParam
  pub types : tree.HasTypes upper one_time (drop 4 public)
  pub len_is : len ≡ 4 + signature_len upper one_time + 56

-- so many bytes are a front's under a public key of two levels, or none under any other key
abbrev pub IsFrontRoom : List ℕ → ℕ → Type 0
IsFrontRoom public len = 0 < len → IsFrontLen public len
