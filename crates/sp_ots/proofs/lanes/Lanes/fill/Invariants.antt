use Rattle.std.proofs.Common.{◌≡◌, ℕ, ◌<◌, ◌≤◌, List, length, slice_index}
use Rattle.sp_ots.specs.TwoLeaves.{front_in}
use Rattle.sp_ots.specs.UnderWay.{AreUnderWay, work_left}
use Rattle.sp_ots.proofs.lanes.Lanes.fill.Given as goal

abbrev pub invariant-lanes : goal.invariant-lanes
invariant-lanes l = record {
  under_way : (old : List (List ℕ)) → AreUnderWay (front_in l.leaves) l.from l.to old l.elements l.fn.self
      → AreUnderWay (front_in l.leaves) l.from l.to old l.elements l.self;
  full : (m : ℕ) → m < l.k → slice_index l.self.left m ≡ 0 → l.self.most ≡ 0;
  work : work_left (length l.elements) l.self ≤ work_left (length l.elements) l.fn.self;
}
