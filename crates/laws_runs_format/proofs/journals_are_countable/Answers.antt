use Rattle.laws_runs_format.proofs.Deliveries.{journals_are_countable}
use Rattle.laws_runs_format.proofs.journals_are_countable.Goals as goal

pub returns : goal.returns
returns c = journals_are_countable
