-- The trees of a signer at an index.
use Rattle.std.specs.Prelude.{◌≡◌, ℕ, ◌+◌, ◌*◌, ◌<◌, ◌≤◌, List}
use Rattle.sp_lms.specs.declared.param.LmsParam.{LmsParam}
use Rattle.sp_lms.specs.Parameters.{leaf_count}
use Rattle.sp_lms.specs.Key.{Key}
use Rattle.sp_lms.specs.Growing.{Growing}
use Rattle.sp_hss.specs.KeyTree.{front_of}
use Rattle.sp_hss.specs.Tree.{tree_with, tree_growing}
use Rattle.sp_hss.specs.declared.tree.Tree.TheVariants.{Upper, Lower}

-- lower tree t is signed, and its next leaf makes the index, or it has none left. Of the next lower tree, where there is one, as many
-- leaves are grown as this one has used
pub record AreAt (h : LmsParam) (seed : List ℕ) (t index : ℕ) (upper lower : Key) (next : Growing) (front : List ℕ) : Type 0 where
  pub tree : t < leaf_count h
  pub upper_is : upper ≡ tree_with h seed Upper (t + 1)
  pub lower_is : lower ≡ tree_with h seed (Lower t) lower.used
  pub next_is : next ≡ tree_growing h seed (Lower (t + 1)) next.grown
  pub beside : t + 1 < leaf_count h → next.grown ≡ lower.used
  pub front_is : front ≡ front_of h seed t
  pub index_is : index ≡ t * leaf_count h + lower.used
  pub leaf : lower.used ≤ leaf_count h
