use Rattle.laws_runs.proofs.Beginnings.{beginnings_are_clean}
use Rattle.laws_runs.proofs.beginnings_are_clean.Goals as goal

pub returns : goal.returns
returns c = beginnings_are_clean
