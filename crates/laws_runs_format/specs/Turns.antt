-- Each event that may happen in a run has a turn: the definitions of runs leave no event of a schedule without one.
use Rattle.std.specs.Prelude.{ℕ, ◌<◌, List, length}
use Rattle.sp_base.specs.declared.id.NodeId.{NodeId}
use Rattle.sp_graph.specs.declared.graph.Graph.{Graph}
use Rattle.sp_journal.specs.declared.entry.Entry.{Entry}
use Rattle.sp_rules.specs.Masks.{Choice, IsChoice}
use Rattle.sp_rules.specs.Weights.{WeightState}
use Rattle.sp_rules.specs.declared.node.TheConstants.{MAX_CALLS}
use Rattle.sp_runs.specs.Runs.{Clean, InRange}
use Rattle.sp_runs.specs.Scenarios.{IsHeader, setting_of}
use Rattle.sp_runs.specs.Worlds.{World}
use Rattle.sp_schedule_events.specs.declared.event.Event.{Event}
use Rattle.sp_schedule_events.specs.declared.scenario.Scenario.{Scenario}
use Rattle.laws_runs.specs.Turns.{Happens}
use Rattle.laws_runs_format.specs.Arts.{arts_of}

-- in any graph, for any two of its ends and any number of paths, there are the cheapest disjoint paths, or fewer than were asked for
abbrev pub EachRequestHasAChoice : Type 0
EachRequestHasAChoice = (w : WeightState) (g : Graph) (s t : NodeId) (paths : ℕ) → (choice : Choice) × IsChoice w g s t paths choice

-- so in every run of a header in its ranges, after fewer events than a node answers calls
abbrev pub ScheduledEventsHaveTurns : Type 0
ScheduledEventsHaveTurns = (s : Scenario) (es : List Event) (js : List Entry) (w : World) → IsHeader s
    → Clean (arts_of (setting_of s)) (setting_of s) es js w
    → length es < MAX_CALLS → (e : Event) → InRange (setting_of s) es e → Happens (arts_of (setting_of s)) (setting_of s) es w e
