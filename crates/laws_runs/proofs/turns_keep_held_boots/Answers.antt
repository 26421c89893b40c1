use Rattle.laws_runs.proofs.HeldBoots.{boots_begin, turns_keep_boots}
use Rattle.laws_runs.proofs.turns_keep_held_boots.Goals as goal

pub returns-clause-begin : goal.returns-clause-begin
returns-clause-begin c = boots_begin

pub returns-clause-turn : goal.returns-clause-turn
returns-clause-turn c = turns_keep_boots
