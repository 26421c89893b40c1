use Rattle.laws_sessions.proofs.WorkedLemmas.{worked_row}
use Rattle.laws_sessions.proofs.the_worked_row_is_answered_so.Goals as goal

pub returns : goal.returns
returns c = worked_row
