use Rattle.sp_schedule.proofs.LawLemmas.{one_reading}
use Rattle.sp_schedule.proofs.laws.a_text_has_one_reading.Goals as goal

pub returns : goal.returns
returns c = one_reading
