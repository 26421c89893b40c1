use Rattle.sp_journal_reading.proofs.LawLemmas.{one_reading}
use Rattle.sp_journal_reading.proofs.text_laws.a_journal_text_has_one_reading.Goals as goal

pub returns : goal.returns
returns c = one_reading
