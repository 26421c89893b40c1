use Rattle.laws_runs.proofs.Versions.{frames_bring_published}
use Rattle.laws_runs.proofs.frames_bring_published.Goals as goal

pub returns : goal.returns
returns c = frames_bring_published
