use Rattle.sp_journal_reading.proofs.LawLemmas.{no_other_begins_there}
use Rattle.sp_journal_reading.proofs.text_laws.no_other_journal_begins_there.Goals as goal

pub returns : goal.returns
returns c = no_other_begins_there
