-- What a node has and says after the pieces of a frame: what the rules leave, answer and cause.
use Rattle.std.specs.Prelude.{◌≡◌, List, map}
use Rattle.sp_msg.specs.declared.effect.Effect.{Effect}
use Rattle.sp_rules.specs.Handle.{Handled}
use Rattle.sp_rules.specs.Parts.{Parts}
use Rattle.sp_rules.specs.declared.answers.Item.{Item}

pub record IsAdmitted (done : Handled) (left : Parts) (answers : List Item) (caused : List Effect) : Type 0 where
  pub parts : left ≡ done.parts
  pub items : answers ≡ map (λ a. a.1) done.answered
  pub effects : caused ≡ done.effects
