use Rattle.laws_progress.proofs.Delivery.{acknowledgements_return}
use Rattle.laws_progress.proofs.acknowledgements_return.Goals as goal

pub returns : goal.returns
returns c = acknowledgements_return
