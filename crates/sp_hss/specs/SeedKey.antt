-- What a contract sees of the key of a seed before it signs.
use Rattle.std.specs.Prelude.{ℕ, List}
use Rattle.sp_lms.specs.declared.param.LmsParam.{LmsParam}

pub record SeedKey : Type 0 where
  pub height : LmsParam
  pub seed : List ℕ
