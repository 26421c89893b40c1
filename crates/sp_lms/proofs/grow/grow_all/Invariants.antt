use Rattle.std.proofs.Common.{◌*◌}
use Rattle.sp_ots.specs.Lanes.{lanes}
use Rattle.sp_lms.specs.Parameters.{height}
use Rattle.sp_lms.specs.Keys.{seed_leaf}
use Rattle.sp_lms.specs.Nodes.{HasGrown}
use Rattle.sp_lms.proofs.grow.grow_all.Given as goal

abbrev pub invariant-groups : goal.invariant-groups
invariant-groups l = HasGrown (lanes * l.g) (height l.fn.lms) l.id (seed_leaf l.fn.lms l.ots l.id l.seed) l.nodes
