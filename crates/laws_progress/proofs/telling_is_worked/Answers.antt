use Rattle.laws_progress.proofs.WorkedTelling.{telling_is_worked}
use Rattle.laws_progress.proofs.telling_is_worked.Goals as goal

pub returns : goal.returns
returns c = telling_is_worked
