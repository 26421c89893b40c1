use Rattle.laws_progress.proofs.Worked.{rounds_are_counted}
use Rattle.laws_progress.proofs.two_examples_are_counted.Goals as goal

pub returns : goal.returns
returns c = rounds_are_counted
