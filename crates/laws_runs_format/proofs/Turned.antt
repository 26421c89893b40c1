-- Each event of a schedule has a turn.
use Rattle.sp_rules.specs.Masks.{graph_of}
use Rattle.sp_runs.specs.Scenarios.{setting_of}
use Rattle.laws_runs.proofs.Turns.{each_event_has_a_turn}
use Rattle.laws_runs_format.proofs.Choices.{each_request_has_a_choice}
use Rattle.laws_runs_format.proofs.Headers.{headers_fit}
use Rattle.laws_runs_format.proofs.ReadBack.{format_carries}
use Rattle.laws_runs_format.specs.Arts.{arts_of}
use Rattle.laws_runs_format.specs.Turns.{ScheduledEventsHaveTurns}

pub scheduled_events_have_turns : ScheduledEventsHaveTurns
scheduled_events_have_turns s es js w good run few e range =
    let x = setting_of s in
    each_event_has_a_turn (arts_of x) x es js w (headers_fit s good) (format_carries x.topology.format)
    (λ weights u v paths there other. each_request_has_a_choice weights (graph_of x.topology weights) u v paths) run few e range
