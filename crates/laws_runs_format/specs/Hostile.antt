-- Which events may be forged in a run of a schedule: the adversary's alone.
use Rattle.std.specs.Prelude.{List}
use Rattle.sp_journal.specs.declared.entry.Entry.{Entry}
use Rattle.sp_runs.specs.Runs.{Clean, IsForgedAt}
use Rattle.sp_runs.specs.Scenarios.{IsHeader, setting_of}
use Rattle.sp_runs.specs.Worlds.{World}
use Rattle.sp_runs.specs.declared.what.What.{What}
use Rattle.sp_schedule_events.specs.declared.event.Event.{Event}
use Rattle.sp_schedule_events.specs.declared.scenario.Scenario.{Scenario}
pub use Rattle.laws_runs.specs.Laws.{IsHostile}
use Rattle.laws_runs_format.specs.Arts.{arts_of}

-- after a run in which nothing is forged, of an event of which something is
abbrev pub OnlyHostileEventsAreForged : Type 0
OnlyHostileEventsAreForged = (s : Scenario) (es : List Event) (js : List Entry) (w : World) (event : Event) (what : What)
    → IsHeader s
    → Clean (arts_of (setting_of s)) (setting_of s) es js w → IsForgedAt (arts_of (setting_of s)) (setting_of s) es js w event what → IsHostile event
