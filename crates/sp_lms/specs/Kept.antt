-- What a signing key keeps: every node of its tree, and no more used leaves than there are.
use Rattle.std.specs.Prelude.{◌≤◌}
use Rattle.sp_lms.specs.declared.key.LmsKey.TheInside.{Inside}
use Rattle.sp_lms.specs.Parameters.{height, leaf_count}
use Rattle.sp_lms.specs.Keys.{seed_leaf}
use Rattle.sp_lms.specs.Nodes.{HasNodes}

pub record IsKept (k : Inside) : Type 0 where
  pub within : k.used ≤ leaf_count k.lms
  pub tree : HasNodes (height k.lms) k.id (seed_leaf k.lms k.ots k.id k.seed) k.nodes.items
