use Rattle.laws_node.proofs.Changing.{only_the_administrator_changes, versions_rise}
use Rattle.laws_node.proofs.Withdrawing.{start_obeys, step_obeys}
use Rattle.laws_node.proofs.step_laws.the_administrator_alone_changes_a_topology.Goals as goal

pub returns-clause-changes : goal.returns-clause-changes
returns-clause-changes c = only_the_administrator_changes

pub returns-clause-rise : goal.returns-clause-rise
returns-clause-rise c = versions_rise

pub returns-clause-start : goal.returns-clause-start
returns-clause-start c = start_obeys

pub returns-clause-obey : goal.returns-clause-obey
returns-clause-obey c = step_obeys
