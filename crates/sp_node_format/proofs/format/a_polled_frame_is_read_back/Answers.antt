use Rattle.sp_node_format.proofs.PolledFrames.{polled_is_read_back, signatures_are_short}
use Rattle.sp_node_format.proofs.format.a_polled_frame_is_read_back.Goals as goal

pub returns-clause-short : goal.returns-clause-short
returns-clause-short c = signatures_are_short

pub returns-clause-back : goal.returns-clause-back
returns-clause-back c = polled_is_read_back
