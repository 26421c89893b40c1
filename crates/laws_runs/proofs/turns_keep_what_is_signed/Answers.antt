use Rattle.laws_runs.proofs.Signed.{signs_begin, turns_keep_signs}
use Rattle.laws_runs.proofs.turns_keep_what_is_signed.Goals as goal

pub returns-clause-begin : goal.returns-clause-begin
returns-clause-begin c = signs_begin

pub returns-clause-turn : goal.returns-clause-turn
returns-clause-turn c = turns_keep_signs
