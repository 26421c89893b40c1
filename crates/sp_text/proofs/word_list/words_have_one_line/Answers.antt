use Rattle.sp_text.proofs.GoodWords.{read_words_are_spelled, spelled_words_are_read}
use Rattle.sp_text.proofs.word_list.words_have_one_line.Goals as goal

pub returns-clause-read : goal.returns-clause-read
returns-clause-read c = spelled_words_are_read

pub returns-clause-spelled : goal.returns-clause-spelled
returns-clause-spelled c = read_words_are_spelled
