use Rattle.laws_node.proofs.WindowMarks.{seen_stays}
use Rattle.laws_node.proofs.priority_laws.what_is_seen_stays_seen.Goals as goal

pub returns : goal.returns
returns c = seen_stays
