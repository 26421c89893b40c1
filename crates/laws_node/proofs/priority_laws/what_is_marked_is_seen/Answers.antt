use Rattle.laws_node.proofs.WindowMarks.{marked_is_seen}
use Rattle.laws_node.proofs.priority_laws.what_is_marked_is_seen.Goals as goal

pub returns : goal.returns
returns c = marked_is_seen
