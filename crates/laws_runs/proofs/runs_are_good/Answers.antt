use Rattle.laws_runs.proofs.GoodRuns.{runs_are_good}
use Rattle.laws_runs.proofs.runs_are_good.Goals as goal

pub returns : goal.returns
returns c = runs_are_good
