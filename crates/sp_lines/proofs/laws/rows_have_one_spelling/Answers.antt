use Rattle.sp_lines.proofs.RowLemmas.{rows_have_one_spelling}
use Rattle.sp_lines.proofs.laws.rows_have_one_spelling.Goals as goal

pub returns : goal.returns
returns c = rows_have_one_spelling
