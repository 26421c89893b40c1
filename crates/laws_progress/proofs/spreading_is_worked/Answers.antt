use Rattle.laws_progress.proofs.WorkedSpreading.{spreading_is_worked}
use Rattle.laws_progress.proofs.spreading_is_worked.Goals as goal

pub returns : goal.returns
returns c = spreading_is_worked
