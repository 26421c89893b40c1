-- A law of events and their lines.
use Rattle.std.specs.Prelude.{◌≡◌, ◌≤◌, ◌↔◌, List, Ok}
use Rattle.sp_base.specs.Formats.{max_nodes}
use Rattle.sp_text.specs.Spelling.{Word}
use Rattle.sp_schedule_events.specs.Events.{event_words}
use Rattle.sp_schedule_events.specs.EventLines.{InRange, read_event}
use Rattle.sp_schedule_events.specs.declared.scenario.Scenario.{Scenario}
use Rattle.sp_schedule_events.specs.declared.event.Event.{Event}

-- words are read as an event exactly where they are the event's words, and it may come there
abbrev pub EventsHaveOneLine : Type 0
EventsHaveOneLine =
    (s : Scenario) (es : List Event) (words : List Word) (e : Event) → s.graph.nodes ≤ max_nodes s.format
    → (read_event s es words ≡ Ok e) ↔ (InRange s es e × (words ≡ event_words s e))
