use Rattle.laws_node.proofs.FreshLemmas.{boot_is_known, greatest_is_kept}
use Rattle.laws_node.proofs.link_laws.a_link_keeps_the_greatest_pair.Goals as goal

pub returns-clause-greatest : goal.returns-clause-greatest
returns-clause-greatest c = greatest_is_kept

pub returns-clause-known : goal.returns-clause-known
returns-clause-known c = boot_is_known
