use Rattle.std.proofs.Common.{◌+◌}
use Rattle.sp_lms.specs.Parameters.{height}
use Rattle.sp_lms.specs.Keys.{seed_leaf}
use Rattle.sp_lms.specs.Nodes.{HasGrown}
use Rattle.sp_lms.proofs.grow.grow_group.Given as goal

abbrev pub invariant-leaves : goal.invariant-leaves
invariant-leaves l = HasGrown (l.q + l.k) (height l.fn.lms) l.id (seed_leaf l.fn.lms l.fn.ots l.id l.seed) l.nodes
