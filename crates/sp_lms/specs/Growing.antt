-- What a contract sees of a key whose tree grows: what makes the key, and how many of its leaves stand.
use Rattle.std.specs.Prelude.{ℕ, List}
use Rattle.sp_ots.specs.declared.param.OtsParam.{OtsParam}
use Rattle.sp_lms.specs.declared.param.LmsParam.{LmsParam}

pub record Growing : Type 0 where
  pub lms : LmsParam
  pub ots : OtsParam
  -- the tree's id, of 16 bytes: I
  pub id : List ℕ
  pub seed : List ℕ
  -- the leaves below this number stand, and the nodes above them alone
  pub grown : ℕ
