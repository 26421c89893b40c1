use Rattle.sp_frame.proofs.SectionLemmas.{read_is_spelled, spelled_is_read, tail_is_refused}
use Rattle.sp_frame.proofs.laws.sections_have_one_spelling.Goals as goal

pub returns-clause-spelled_is_read : goal.returns-clause-spelled_is_read
returns-clause-spelled_is_read c = spelled_is_read

pub returns-clause-tail_is_refused : goal.returns-clause-tail_is_refused
returns-clause-tail_is_refused c = tail_is_refused

pub returns-clause-read_is_spelled : goal.returns-clause-read_is_spelled
returns-clause-read_is_spelled c = read_is_spelled
