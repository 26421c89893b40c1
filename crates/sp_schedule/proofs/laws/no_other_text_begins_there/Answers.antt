use Rattle.sp_schedule.proofs.LawLemmas.{no_other_begins_there}
use Rattle.sp_schedule.proofs.laws.no_other_text_begins_there.Goals as goal

pub returns : goal.returns
returns c = no_other_begins_there
