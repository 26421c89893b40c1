use Rattle.laws_runs.proofs.Words.{each_reply_has_words}
use Rattle.laws_runs.proofs.each_reply_has_words.Goals as goal

pub returns : goal.returns
returns c = each_reply_has_words
