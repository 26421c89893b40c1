-- The greatest number that a run names.
use Rattle.std.specs.Prelude.{ℕ, ◌≤◌, List}
use Rattle.std.specs.List.{All}
use Rattle.sp_journal.specs.declared.entry.Entry.{Entry}
use Rattle.sp_msg.specs.declared.effect.Effect.{Effect}
use Rattle.sp_msg.specs.declared.effect.Effect.TheVariants as effects
use Rattle.sp_runs.specs.Inputs.{acting}
use Rattle.sp_schedule_events.specs.declared.event.Event.{Event}

-- the place or the source that an effect names, or 0
abbrev pub names : Effect → ℕ
names (effects.Stored place id src seq prio) = place
names (effects.Gone place id why) = place
names (effects.Delivered src seq payload) = src.0
names (effects.DeliveredPrio src seq payload) = src.0
names (effects.DeliveredKrel src seq payload) = src.0
names _ = 0

-- no event is of a node above it, and no effect names a number above it
pub record IsTop (es : List Event) (js : List Entry) (top : ℕ) : Type 0 where
  pub acts : All (λ e. (acting e).0 ≤ top) es
  pub told : All (λ j. All (λ e. names e ≤ top) j.effects) js
