use Rattle.laws_runs.proofs.Bounds.{buffers_stay_bounded}
use Rattle.laws_runs.proofs.buffers_stay_bounded.Goals as goal

pub returns : goal.returns
returns c = buffers_stay_bounded
