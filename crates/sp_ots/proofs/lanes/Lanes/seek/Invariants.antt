use Rattle.std.proofs.Common.{◌≡◌, ℕ, ◌≤◌, List, length}
use Rattle.sp_ots.specs.UnderWay.{AreUnderWay, work_left}
use Rattle.sp_ots.proofs.lanes.Lanes.seek.Given as goal

abbrev pub invariant-turns : goal.invariant-turns
invariant-turns l = record {
  under_way : (front : ℕ → List ℕ) (old now : List (List ℕ)) → length l.to ≡ length old
      → AreUnderWay front l.from l.to old now l.fn.self → AreUnderWay front l.from l.to old now l.self;
  none : l.fn.self.most ≡ 0 → l.self.most ≡ 0;
  chains : l.self.chains ≡ l.fn.self.chains;
  left : l.self.left ≡ l.fn.self.left;
  messages : l.self.messages ≡ l.fn.self.messages;
  work : work_left (length l.to) l.self ≤ work_left (length l.to) l.fn.self;
}

abbrev pub decreases-turns : goal.decreases-turns
decreases-turns l = l.self.most
