use Rattle.sp_service_turns.proofs.EndingLemmas.{open_text, whole_text}
use Rattle.sp_service_turns.proofs.laws.recordings_are_written.Goals as goal

pub returns : goal.returns
returns c = λ o ls closing. (whole_text o ls closing, open_text o ls)
