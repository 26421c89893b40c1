-- The count of flows of a kind may be taken over any events that have those of the run in front.
use Rattle.std.specs.Prelude.{◌≤◌, List, ◌++◌}
use Rattle.sp_runs.specs.Rounds.{flow_count}
use Rattle.sp_runs.specs.Settings.{Setting}
use Rattle.sp_schedule_events.specs.declared.event.Event.{Event}
use Rattle.sp_rules.specs.declared.kflow.FlowKind.{FlowKind}

-- it never falls when events are added
abbrev pub FlowCountNeverFalls : Type 0
FlowCountNeverFalls = (kind : FlowKind) (x : Setting) (es later : List Event) → flow_count kind x es ≤ flow_count kind x (es ++ later)
