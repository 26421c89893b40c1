use Rattle.laws_measure.proofs.ReceiptLemmas.{never_bad_at}
use Rattle.laws_measure.proofs.echoes_are_never_bad.Goals as goal

pub returns : goal.returns
returns c h key u v b d interval moves first place now p there bad = never_bad_at h key u v b d interval moves first place now p there bad
