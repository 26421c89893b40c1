use Rattle.laws_progress.proofs.StartsTold.{starts_are_told}
use Rattle.laws_progress.proofs.starts_are_told_in_rounds.Goals as goal

pub returns : goal.returns
returns c = starts_are_told
