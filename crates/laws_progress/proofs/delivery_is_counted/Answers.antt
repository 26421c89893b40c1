use Rattle.laws_progress.proofs.Delivery.{delivery_is_counted}
use Rattle.laws_progress.proofs.delivery_is_counted.Goals as goal

pub returns : goal.returns
returns c = delivery_is_counted
