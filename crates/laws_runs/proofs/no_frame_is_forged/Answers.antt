use Rattle.laws_runs.proofs.Crafts.{no_frame_is_forged}
use Rattle.laws_runs.proofs.no_frame_is_forged.Goals as goal

pub returns : goal.returns
returns c = no_frame_is_forged
