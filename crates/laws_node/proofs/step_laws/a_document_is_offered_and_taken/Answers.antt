use Rattle.laws_node.proofs.Spreading.{offers_are_taken, older_is_offered, versions_are_heard}
use Rattle.laws_node.proofs.step_laws.a_document_is_offered_and_taken.Goals as goal

pub returns-clause-heard : goal.returns-clause-heard
returns-clause-heard c = versions_are_heard

pub returns-clause-offered : goal.returns-clause-offered
returns-clause-offered c = older_is_offered

pub returns-clause-taken : goal.returns-clause-taken
returns-clause-taken c = offers_are_taken
