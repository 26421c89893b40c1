use Rattle.sp_schedule.proofs.LawLemmas.{good_texts_are_read}
use Rattle.sp_schedule.proofs.laws.a_good_text_is_read.Goals as goal

pub returns : goal.returns
returns c = good_texts_are_read
