-- The schedule of a number is run to its end.
use Rattle.std.proofs.Common.{◌≡◌, ℕ, List, Option, Some, None, refl, sym, subst, ◌∙◌}
use Rattle.laws_runs_format.specs.Unforged.{GeneratedForgeNothing, NothingForged}
use Rattle.sp_generate.specs.Generated.{generated_events, generated_scenario}
use Rattle.sp_schedule.specs.declared.stage.Stage.TheVariants as stages
use Rattle.sp_schedule_events.specs.declared.scenario.Scenario.{Scenario}
use Rattle.sp_schedule_events.specs.declared.event.Event.{Event}
use Rattle.sp_world.specs.Past.{Past}
use Rattle.sp_world.specs.declared.refused.WorldRefused.{WorldRefused}
use Rattle.sp_world.specs.declared.refused.WorldRefused.TheVariants as stops
use Rattle.sp_replay.specs.Outputs.{IsGenerated}
use Rattle.sp_replay.specs.Played.{IsPlayedBy}
use Rattle.sp_replay.proofs.Complete.{none_forged}

-- nothing of it is forged, so all its events are done
pub generated_run : GeneratedForgeNothing → (number : ℕ) (s : Scenario) (es : List Event) (past : Past) → s ≡ generated_scenario number
    → es ≡ generated_events number
    → IsPlayedBy (stages.End s es) past past.stopped → IsGenerated number past
generated_run law number s es past scenario events played = go past.stopped refl played
  where
    unforged : NothingForged s es
    unforged =
        let P : Scenario → Type 0 = λ t. NothingForged t es in
        subst P (sym scenario) (subst (λ (fs : List Event). NothingForged (generated_scenario number) fs) (sym events) (law number))

    go : (stopped : Option WorldRefused) → past.stopped ≡ stopped → IsPlayedBy (stages.End s es) past stopped → IsGenerated number past
    go None is done = record { scenario = sym done.0.0 ∙ scenario; events = sym done.0.1 ∙ events; going = is }
    go (Some (stops.Forged event what)) is forged = absurd (none_forged (stages.End s es) past event what unforged forged)
    go (Some stops.Memory) is never = absurd never
