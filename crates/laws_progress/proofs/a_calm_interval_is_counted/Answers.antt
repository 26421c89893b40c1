use Rattle.laws_progress.proofs.WorkedLives.{lives_are_counted}
use Rattle.laws_progress.proofs.a_calm_interval_is_counted.Goals as goal

pub returns : goal.returns
returns c = lives_are_counted
