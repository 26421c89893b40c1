use Rattle.sp_journal_reading.proofs.TextLemmas.{journals_are_of_their_text}
use Rattle.sp_journal_reading.proofs.text_laws.a_journal_is_of_its_text.Goals as goal

pub returns : goal.returns
returns c = journals_are_of_their_text
