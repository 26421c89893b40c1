use Rattle.sp_recording.proofs.LawLemmas.{good_recordings_are_read}
use Rattle.sp_recording.proofs.laws.a_good_recording_is_read.Goals as goal

pub returns : goal.returns
returns c = good_recordings_are_read
