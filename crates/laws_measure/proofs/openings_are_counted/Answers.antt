use Rattle.laws_measure.proofs.KeptLemmas.{each_is_kept}
use Rattle.laws_measure.proofs.openings_are_counted.Goals as goal

pub returns : goal.returns
returns c h key u v b d interval moves first =
    let is = each_is_kept h key u v b d interval moves first in
    (is.number, is.frames)
