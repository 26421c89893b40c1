-- The signing key of a tree of the two levels.
use Rattle.std.specs.Prelude.{ℕ, List}
use Rattle.sp_ots.specs.declared.param.OtsParam.TheVariants.{W4}
use Rattle.sp_lms.specs.declared.param.LmsParam.{LmsParam}
use Rattle.sp_lms.specs.Key.{Key}
use Rattle.sp_lms.specs.Growing.{Growing}
use Rattle.sp_hss.specs.KeyTree.{tree_id, tree_seed}
use Rattle.sp_hss.specs.declared.tree.Tree.{Tree}

-- so many of its leaves are used
abbrev pub tree_with : LmsParam → List ℕ → Tree → ℕ → Key
tree_with h seed tree used = record { lms = h; ots = W4; id = tree_id seed tree; seed = tree_seed seed tree; used = used }

-- the key of a tree that grows, of which so many leaves stand
abbrev pub tree_growing : LmsParam → List ℕ → Tree → ℕ → Growing
tree_growing h seed tree grown = record { lms = h; ots = W4; id = tree_id seed tree; seed = tree_seed seed tree; grown = grown }
