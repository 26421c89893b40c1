use Rattle.laws_measure.proofs.KeptLemmas.{each_is_kept}
use Rattle.laws_measure.proofs.publications_rest.Goals as goal

pub returns : goal.returns
returns c h key u v b d interval moves first = (each_is_kept h key u v b d interval moves first).apart
