-- The nodes of a tree as a key keeps them: each at the place of its number, and nothing at place 0.
--
--               1
--           /       \
--         2           3          of this tree 3 leaves are grown. They are 4, 5 and 6, and node 2 stands above them alone.
--       /   \       /   \        The first leaf that is missing is 7 = 4 + 3. On each level the first node that is missing is
--      4     5     6     7       the one above that leaf: 7 = 7 / 1, 3 = 7 / 2 and 1 = 7 / 4
use Rattle.std.specs.Prelude.{◌≡◌, ℕ, ◌+◌, ◌/◌, ◌^◌, ◌<◌, ◌≤◌, List, [], length, slice_index_or}
use Rattle.sp_lms.specs.Trees.{tree_node}

-- a node stands so many levels below the root
pub record IsOnLevel (depth r : ℕ) : Type 0 where
  pub low : 2 ^ depth ≤ r
  pub high : r < 2 ^ (depth + 1)

-- a list has every node of a tree. A level that stands `depth` levels below the root stands `level` levels above the leaves
pub record HasNodes (height : ℕ) (id : List ℕ) (leaf : ℕ → List ℕ) (nodes : List (List ℕ)) : Type 0 where
  pub count : length nodes ≡ 2 ^ (height + 1)
  pub node : (level depth r : ℕ) → level + depth ≡ height → IsOnLevel depth r → slice_index_or nodes r [] ≡ tree_node id leaf level r

-- it has those that stand above the first `grown` leaves alone
pub record HasGrown (grown height : ℕ) (id : List ℕ) (leaf : ℕ → List ℕ) (nodes : List (List ℕ)) : Type 0 where
  pub count : length nodes ≡ 2 ^ (height + 1)
  pub node : (level depth r : ℕ) → level + depth ≡ height → IsOnLevel depth r → r < (2 ^ height + grown) / 2 ^ level
      → slice_index_or nodes r [] ≡ tree_node id leaf level r
