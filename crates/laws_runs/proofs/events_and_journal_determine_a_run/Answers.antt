use Rattle.laws_runs.proofs.Determined.{past_is_determined, runs_are_determined}
use Rattle.laws_runs.proofs.events_and_journal_determine_a_run.Goals as goal

pub returns-clause-world : goal.returns-clause-world
returns-clause-world c = runs_are_determined

pub returns-clause-past : goal.returns-clause-past
returns-clause-past c = past_is_determined
