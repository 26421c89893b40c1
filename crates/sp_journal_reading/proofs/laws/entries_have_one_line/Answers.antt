use Rattle.sp_journal_reading.proofs.ReplyLemmas.{entries_have_one_line}
use Rattle.sp_journal_reading.proofs.laws.entries_have_one_line.Goals as goal

pub returns : goal.returns
returns c = entries_have_one_line
