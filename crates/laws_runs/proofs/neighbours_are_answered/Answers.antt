use Rattle.laws_runs.proofs.Words.{neighbours_are_answered}
use Rattle.laws_runs.proofs.neighbours_are_answered.Goals as goal

pub returns : goal.returns
returns c = neighbours_are_answered
