use Rattle.std.proofs.Common.{◌≡◌, ◌++◌, take}
use Rattle.std.specs.List.{flat_map}
use Rattle.std.specs.String.{string_bytes}
use Rattle.sp_lines.specs.Rows.{line_text}
use Rattle.sp_schedule_events.specs.Events.{event_words}
use Rattle.sp_schedule.proofs.printing.push_events.Given as goal

abbrev pub invariant-events : goal.invariant-events
invariant-events l = string_bytes l.out ≡ string_bytes l.fn.out ++ flat_map (λ x. line_text (event_words l.fn.scenario x)) (take l.event-index l.events)
