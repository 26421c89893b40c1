use Rattle.laws_runs.proofs.Frames.{frames_are_made}
use Rattle.laws_runs.proofs.frames_are_made.Goals as goal

pub returns : goal.returns
returns c = frames_are_made
