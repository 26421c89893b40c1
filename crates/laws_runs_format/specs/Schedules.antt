-- What a good schedule promises of its events, in a run of its header's setting.
use Rattle.std.specs.Prelude.{◌≡◌, ◌∷◌, ◌++◌, List}
use Rattle.sp_runs.specs.Runs.{InRange}
use Rattle.sp_runs.specs.Scenarios.{setting_of}
use Rattle.sp_schedule.specs.Scenarios.{IsSchedule}
use Rattle.sp_schedule_events.specs.declared.event.Event.{Event}
use Rattle.sp_schedule_events.specs.declared.scenario.Scenario.{Scenario}

-- each event may come after those before it
abbrev pub ScheduledEventsAreInRange : Type 0
ScheduledEventsAreInRange = (s : Scenario) (all es rest : List Event) (e : Event) → IsSchedule s all → all ≡ es ++ e ∷ rest → InRange (setting_of s) es e
