use Rattle.sp_text.proofs.NextLine.{read_lines_are_spelled, spelled_lines_are_read}
use Rattle.sp_text.proofs.lines.lines_have_one_text.Goals as goal

pub returns-clause-read : goal.returns-clause-read
returns-clause-read c = spelled_lines_are_read

pub returns-clause-spelled : goal.returns-clause-spelled
returns-clause-spelled c = read_lines_are_spelled
