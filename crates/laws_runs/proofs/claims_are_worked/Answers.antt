use Rattle.laws_runs.proofs.WorkedBounds.{bounds_are_worked}
use Rattle.laws_runs.proofs.WorkedClaims.{lives_are_worked, nodes_are_worked, priority_is_worked, signatures_are_worked, weights_are_worked}
use Rattle.laws_runs.proofs.claims_are_worked.Goals as goal

pub returns-clause-bounds : goal.returns-clause-bounds
returns-clause-bounds c = bounds_are_worked

pub returns-clause-nodes : goal.returns-clause-nodes
returns-clause-nodes c = nodes_are_worked

pub returns-clause-priority : goal.returns-clause-priority
returns-clause-priority c = priority_is_worked

pub returns-clause-weights : goal.returns-clause-weights
returns-clause-weights c = weights_are_worked

pub returns-clause-signatures : goal.returns-clause-signatures
returns-clause-signatures c = signatures_are_worked

pub returns-clause-lives : goal.returns-clause-lives
returns-clause-lives c = lives_are_worked
