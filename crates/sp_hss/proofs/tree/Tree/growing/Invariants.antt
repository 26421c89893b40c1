use Rattle.std.proofs.Common.{◌≡◌}
use Rattle.sp_hss.specs.Tree.{tree_growing}
use Rattle.sp_hss.proofs.tree.Tree.growing.Given as goal

abbrev pub invariant-leaves : goal.invariant-leaves
invariant-leaves l = l.key ≡ tree_growing l.fn.height l.seed l.fn.self l.counter
