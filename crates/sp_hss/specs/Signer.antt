-- What a contract sees of a signer: its seed, the index that comes next, and the bound that it stops at.
use Rattle.std.specs.Prelude.{ℕ, List}
use Rattle.sp_lms.specs.declared.param.LmsParam.{LmsParam}

pub record Signer : Type 0 where
  pub height : LmsParam
  pub seed : List ℕ
  -- the next signature has this index, and none below is used again
  pub index : ℕ
  -- the indexes below this one are reserved for the signer
  pub bound : ℕ
