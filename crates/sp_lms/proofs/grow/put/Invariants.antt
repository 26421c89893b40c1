use Rattle.std.proofs.Common.{◌≡◌, ◌+◌, ◌/◌, ◌^◌, ℕ, List, length}
use Rattle.sp_lms.specs.Parameters.{height}
use Rattle.sp_lms.specs.Nodes.{HasGrown}
use Rattle.sp_lms.proofs.Growth.{HasGrownUpTo}
use Rattle.sp_lms.proofs.grow.put.Given as goal

abbrev pub invariant-levels : goal.invariant-levels
invariant-levels l = record {
  this : l.r ≡ (2 ^ height l.fn.lms + l.q) / 2 ^ l.level;
  next : l.r + 1 ≡ (2 ^ height l.fn.lms + l.q + 1) / 2 ^ l.level;
  count : length l.nodes ≡ 2 ^ (height l.fn.lms + 1);
  grown : (leaf : ℕ → List ℕ) → HasGrown l.q (height l.fn.lms) l.id leaf l.fn.nodes → l.node ≡ leaf (2 ^ height l.fn.lms + l.q)
      → HasGrownUpTo l.level l.q (height l.fn.lms) l.id leaf l.nodes;
}
