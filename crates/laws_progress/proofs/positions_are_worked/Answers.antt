use Rattle.laws_progress.proofs.WorkedPositions.{positions_are_worked}
use Rattle.laws_progress.proofs.positions_are_worked.Goals as goal

pub returns : goal.returns
returns c = positions_are_worked
