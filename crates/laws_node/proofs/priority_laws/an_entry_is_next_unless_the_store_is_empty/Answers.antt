use Rattle.laws_node.proofs.StoreTurns.{an_entry_is_next}
use Rattle.laws_node.proofs.priority_laws.an_entry_is_next_unless_the_store_is_empty.Goals as goal

pub returns : goal.returns
returns c = an_entry_is_next
