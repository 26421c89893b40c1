use Rattle.sp_journal_reading.proofs.LawLemmas.{good_journals_are_read}
use Rattle.sp_journal_reading.proofs.text_laws.a_good_journal_is_read.Goals as goal

pub returns : goal.returns
returns c = good_journals_are_read
