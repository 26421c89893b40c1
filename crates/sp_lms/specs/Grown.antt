-- What a key keeps whose tree grows: the nodes that stand above the leaves that are grown alone.
use Rattle.std.specs.Prelude.{◌≤◌}
use Rattle.sp_lms.specs.declared.growing.GrowingKey.TheInside.{Inside}
use Rattle.sp_lms.specs.Parameters.{height, leaf_count}
use Rattle.sp_lms.specs.Keys.{seed_leaf}
use Rattle.sp_lms.specs.Nodes.{HasGrown}

pub record IsGrown (k : Inside) : Type 0 where
  pub within : k.grown ≤ leaf_count k.lms
  pub tree : HasGrown k.grown (height k.lms) k.id (seed_leaf k.lms k.ots k.id k.seed) k.nodes.items
