use Rattle.laws_progress.proofs.ToldPaths.{told_paths_are_calm}
use Rattle.laws_progress.proofs.told_paths_are_calm.Goals as goal

pub returns : goal.returns
returns c = told_paths_are_calm
