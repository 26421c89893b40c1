-- What a call of a turn says of the faults of its sink.
use Rattle.std.specs.Prelude.{ℕ, ◌≡◌, ◌≤◌, IsErrOf, Result}
use Rattle.sp_outside.specs.Causes.{Rose}
use Rattle.sp_service_turns.specs.declared.ended.Ended.{Ended}
use Rattle.sp_service_turns.specs.declared.ended.Ended.TheVariants as ended

-- their count never falls; it rises where the sink ended the call, and else it stands
pub record SinkFaults {T : Type 0} (result : Result T Ended) (before after : ℕ) : Type 0 where
  pub later : before ≤ after
  pub failed : IsErrOf result ended.Sink → Rose before after
  pub sunk : ¬ IsErrOf result ended.Sink → after ≡ before
