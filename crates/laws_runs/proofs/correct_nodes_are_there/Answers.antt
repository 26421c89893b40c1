use Rattle.laws_runs.proofs.There.{correct_nodes_are_there, only_correct_nodes_run}
use Rattle.laws_runs.proofs.correct_nodes_are_there.Goals as goal

pub returns-clause-there : goal.returns-clause-there
returns-clause-there c = correct_nodes_are_there

pub returns-clause-only : goal.returns-clause-only
returns-clause-only c = only_correct_nodes_run
