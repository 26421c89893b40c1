use Rattle.std.proofs.Common.{length}
use Rattle.sp_ots.specs.TwoLeaves.{front_in}
use Rattle.sp_ots.specs.UnderWay.{AreFull, AreUnderWay, work_left}
use Rattle.sp_ots.proofs.chains.run_both.Given as goal

abbrev pub invariant-rounds : goal.invariant-rounds
invariant-rounds l = record {
  under_way : AreUnderWay (front_in l.leaves) l.from l.to l.fn.elements l.elements l.lanes;
  full : AreFull l.lanes;
}

abbrev pub decreases-rounds : goal.decreases-rounds
decreases-rounds l = work_left (length l.elements) l.lanes
