use Rattle.laws_progress.proofs.SpreadPathsRun.{spread_paths_run_under}
use Rattle.laws_progress.proofs.spread_paths_run_under.Goals as goal

pub returns : goal.returns
returns c = spread_paths_run_under
