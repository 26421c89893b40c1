use Rattle.sp_recording.proofs.LawLemmas.{one_reading}
use Rattle.sp_recording.proofs.laws.a_text_has_one_reading.Goals as goal

pub returns : goal.returns
returns c = one_reading
