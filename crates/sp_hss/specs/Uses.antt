-- What each one-time key signs. A signature is made by two of them: a leaf of the upper tree signs the key of a lower tree, and a
-- leaf of the lower tree signs the message.
use Rattle.std.specs.Prelude.{ℕ, ◌+◌, ◌/◌, ◌%◌, ◌≤◌, List, [], ◌∷◌}
use Rattle.sp_lms.specs.declared.param.LmsParam.{LmsParam}
use Rattle.sp_lms.specs.Parameters.{leaf_count}
use Rattle.sp_hss.specs.KeyTree.{tree_key, tree_signature}
use Rattle.sp_hss.specs.declared.tree.Tree.{Tree}
use Rattle.sp_hss.specs.declared.tree.Tree.TheVariants.{Upper, Lower}

-- a one-time key of a seed: a leaf of one of its trees
pub record Leaf : Type 0 where
  pub tree : Tree
  pub number : ℕ

-- a leaf signs a message
pub record Use : Type 0 where
  pub leaf : Leaf
  pub message : List ℕ

-- an index signs a message
pub record Signing : Type 0 where
  pub index : ℕ
  pub message : List ℕ

-- the leaf that signs the message of an index
abbrev pub leaf_of_index : LmsParam → ℕ → Leaf
leaf_of_index h index = record { tree = Lower (index / leaf_count h); number = index % leaf_count h }

-- the upper leaf of this number signs the key of the lower tree of the same number
abbrev pub upper_use : LmsParam → List ℕ → ℕ → Use
upper_use h seed t = record { leaf = record { tree = Upper; number = t }; message = tree_key h seed (Lower t) }

-- the leaf of an index signs its message
abbrev pub lower_use : LmsParam → Signing → Use
lower_use h signing = record { leaf = leaf_of_index h signing.index; message = signing.message }

-- the signature that a use makes
abbrev pub made_by : LmsParam → List ℕ → Use → List ℕ
made_by h seed u = tree_signature h seed u.leaf.tree u.leaf.number u.message

-- what a list of signatures uses
abbrev pub uses : LmsParam → List ℕ → List Signing → List Use
uses h seed [] = []
uses h seed (s ∷ ss) = upper_use h seed (s.index / leaf_count h) ∷ lower_use h s ∷ uses h seed ss

-- each index is above the one before, and the first is not below `first`
abbrev pub Rising : ℕ → List Signing → Type 0
Rising first [] = Unit {0}
Rising first (s ∷ ss) = (first ≤ s.index) × Rising (s.index + 1) ss
