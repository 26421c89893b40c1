use Rattle.laws_runs.proofs.Turns.{each_event_has_a_turn}
use Rattle.laws_runs.proofs.each_event_has_a_turn.Goals as goal

pub returns : goal.returns
returns c = each_event_has_a_turn
