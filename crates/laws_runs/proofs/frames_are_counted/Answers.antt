use Rattle.laws_runs.proofs.Counts.{frames_are_counted}
use Rattle.laws_runs.proofs.frames_are_counted.Goals as goal

pub returns : goal.returns
returns c = frames_are_counted
