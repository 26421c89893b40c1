-- What an event caused, in its order, and for how many effects more there is room.
use Rattle.std.specs.Prelude.{ℕ, List}
use Rattle.sp_msg.specs.declared.effect.Effect.{Effect}

pub record Caused : Type 0 where
  pub list : List Effect
  pub room : ℕ
