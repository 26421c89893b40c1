use Rattle.laws_runs.proofs.HeldBoots.{held_boots_are_born}
use Rattle.laws_runs.proofs.held_boots_are_born.Goals as goal

pub returns : goal.returns
returns c = held_boots_are_born
