use Rattle.laws_progress.proofs.Positions.{positions_are_in_order}
use Rattle.laws_progress.proofs.positions_are_in_order.Goals as goal

pub returns : goal.returns
returns c = positions_are_in_order
