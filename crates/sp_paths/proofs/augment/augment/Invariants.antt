use Rattle.sp_paths.proofs.AugmentLemmas.{Back}
use Rattle.sp_paths.proofs.augment.augment.Given as goal

abbrev pub invariant-back : goal.invariant-back
invariant-back l = Back l.fn.lanes l.tree l.s l.t l.here l.k l.lanes

abbrev pub decreases-back : goal.decreases-back
decreases-back l = l.k
