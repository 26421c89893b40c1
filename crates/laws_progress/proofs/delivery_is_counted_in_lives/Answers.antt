use Rattle.laws_progress.proofs.LifeDelivery.{delivery_is_counted_in_lives}
use Rattle.laws_progress.proofs.delivery_is_counted_in_lives.Goals as goal

pub returns : goal.returns
returns c = delivery_is_counted_in_lives
