use Rattle.laws_node.proofs.StoreShares.{fair}
use Rattle.laws_node.proofs.priority_laws.a_full_store_leaves_fair_shares.Goals as goal

pub returns : goal.returns
returns c = fair
