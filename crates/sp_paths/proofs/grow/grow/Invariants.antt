use Rattle.std.proofs.Common.{◌-◌, length}
use Rattle.sp_paths.specs.Trees.{Grown}
use Rattle.sp_paths.proofs.grow.grow.Given as goal

abbrev pub invariant-turns : goal.invariant-turns
invariant-turns l = Grown l.fn.potential l.s l.lanes l.potential l.reached l.tree.items

abbrev pub decreases-turns : goal.decreases-turns
decreases-turns l = length l.reached - length l.tree.items
