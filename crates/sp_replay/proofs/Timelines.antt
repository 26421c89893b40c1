-- A past that was played of a schedule without its line `end`.
use Rattle.std.proofs.Common.{List, Option, Some, None}
use Rattle.sp_schedule.specs.declared.stage.Stage.TheVariants as stages
use Rattle.sp_schedule_events.specs.declared.scenario.Scenario.{Scenario}
use Rattle.sp_schedule_events.specs.declared.event.Event.{Event}
use Rattle.sp_world.specs.Past.{Past}
use Rattle.sp_world.specs.declared.refused.WorldRefused.{WorldRefused}
use Rattle.sp_world.specs.declared.refused.WorldRefused.TheVariants as stops
use Rattle.sp_replay.specs.Played.{IsPlayedBy}

-- a past that was played of a schedule's events was so of a text that stops before its line `end`
pub without_end : (s : Scenario) (es : List Event) (past : Past) (stopped : Option WorldRefused) → IsPlayedBy (stages.End s es) past stopped
    → IsPlayedBy (stages.Events s es) past stopped
without_end s es past None played = played
without_end s es past (Some (stops.Forged number what)) played = record {
  event = played.event;
  rest = played.rest;
  events = played.events;
  next = played.next;
}
without_end s es past (Some stops.Memory) played = played
