use Rattle.sp_journal_reading.proofs.ReplyLemmas.{replies_have_one_line}
use Rattle.sp_journal_reading.proofs.laws.replies_have_one_line.Goals as goal

pub returns : goal.returns
returns c = replies_have_one_line
