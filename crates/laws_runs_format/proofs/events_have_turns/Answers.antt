use Rattle.laws_runs_format.proofs.Choices.{each_request_has_a_choice}
use Rattle.laws_runs_format.proofs.Turned.{scheduled_events_have_turns}
use Rattle.laws_runs_format.proofs.events_have_turns.Goals as goal

pub returns-clause-choices : goal.returns-clause-choices
returns-clause-choices c = each_request_has_a_choice

pub returns-clause-turns : goal.returns-clause-turns
returns-clause-turns c = scheduled_events_have_turns
