use Rattle.laws_measure.proofs.GapLemmas.{no_gap_at}
use Rattle.laws_measure.proofs.probes_leave_no_gap.Goals as goal

pub returns : goal.returns
returns c h key u v b d interval moves first place p there gap = no_gap_at h key u v b d interval moves first place p there gap
