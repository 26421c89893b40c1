use Rattle.laws_runs_format.proofs.FrameLengths.{frames_have_their_length}
use Rattle.laws_runs_format.proofs.frames_have_their_length.Goals as goal

pub returns : goal.returns
returns c = frames_have_their_length
