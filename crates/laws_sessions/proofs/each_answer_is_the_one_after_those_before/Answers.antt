use Rattle.laws_sessions.proofs.Dialogues.{dialogues_are_answered}
use Rattle.laws_sessions.proofs.each_answer_is_the_one_after_those_before.Goals as goal

pub returns : goal.returns
returns g c = dialogues_are_answered g.L.Local.steps
