-- What a contract sees of a signing key: what made it, and how many of its leaves are used.
use Rattle.std.specs.Prelude.{ℕ, List}
use Rattle.sp_ots.specs.declared.param.OtsParam.{OtsParam}
use Rattle.sp_lms.specs.declared.param.LmsParam.{LmsParam}

pub record Key : Type 0 where
  pub lms : LmsParam
  pub ots : OtsParam
  -- the tree's id, of 16 bytes: I
  pub id : List ℕ
  pub seed : List ℕ
  -- the leaves below this number may not sign again
  pub used : ℕ
