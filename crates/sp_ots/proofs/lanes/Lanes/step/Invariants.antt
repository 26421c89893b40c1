use Rattle.std.proofs.Common.{◌≡◌, ℕ, ◌-◌, List, ◌++◌, length, map, take, drop}
use Rattle.sp_ots.specs.UnderWay.{AreUnderWay, IsSound}
use Rattle.sp_ots.proofs.lanes.Lanes.step.Given as goal

abbrev pub invariant-lanes : goal.invariant-lanes
invariant-lanes l = record {
  under_way : (front : ℕ → List ℕ) (from : List ℕ) (old : List (List ℕ)) → ((i : ℕ) → length (front i) ≡ 22)
      → AreUnderWay front from l.to old l.fn.elements l.fn.self → AreUnderWay front from l.to old l.elements l.self;
  whole : length l.elements ≡ length l.fn.elements;
  sound : IsSound l.to l.self;
  most : l.self.most ≡ l.fn.self.most;
  next : l.self.next ≡ l.fn.self.next;
  left : l.self.left ≡ map (λ n. n - 1) (take l.k l.fn.self.left) ++ drop l.k l.fn.self.left;
  messages : drop l.k l.self.messages ≡ drop l.k l.fn.self.messages;
}
