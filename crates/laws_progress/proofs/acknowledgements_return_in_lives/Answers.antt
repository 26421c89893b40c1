use Rattle.laws_progress.proofs.LifeDelivery.{acknowledgements_return_in_lives}
use Rattle.laws_progress.proofs.acknowledgements_return_in_lives.Goals as goal

pub returns : goal.returns
returns c = acknowledgements_return_in_lives
