use Rattle.sp_text.proofs.WordLemmas.{join-words_of, words_of-join}
use Rattle.sp_text.proofs.word_list.words_come_back.Goals as goal

pub returns-clause-words : goal.returns-clause-words
returns-clause-words c = words_of-join

pub returns-clause-line : goal.returns-clause-line
returns-clause-line c = join-words_of
