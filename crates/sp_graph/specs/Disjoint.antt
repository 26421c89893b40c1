-- Sets of paths that share nothing between their ends, and the cheapest of them.
--
--          2             1 2 4 and 1 3 4 share the two ends alone.
--        /   \           1 2 4 and 1 2 3 4 share node 2 and the edge 1-2.
--      1   |   4
--        \   /
--          3
use Rattle.std.specs.Prelude.{ℕ, ◌≡◌, ◌≤◌, ◌⊎◌, List, length}
use Rattle.std.specs.List.{All, AllPairs, Contains, sum_by}
use Rattle.sp_base.specs.declared.id.NodeId.{NodeId}
use Rattle.sp_graph.specs.declared.graph.Graph.{Graph}
use Rattle.sp_graph.specs.Walks.{IsPath, path_cost, steps}

-- the two paths share no node but the ends, and no edge, either way round
pub record Apart (s t : NodeId) (p q : List NodeId) : Type 0 where
  pub nodes : (v : NodeId) → Contains p v → Contains q v → (v ≡ s) ⊎ (v ≡ t)
  pub edges : (u v : NodeId) → Contains (steps p) (u, v) → Contains (steps q) (u, v) ⊎ Contains (steps q) (v, u) → ⊥

-- k paths from s to t, each two of them apart
pub record Disjoint (g : Graph) (s t : NodeId) (k : ℕ) (paths : List (List NodeId)) : Type 0 where
  pub count : length paths ≡ k
  pub are_paths : All (IsPath g s t) paths
  pub apart : AllPairs (Apart s t) paths

-- the weights of all their edges together
abbrev pub cost : Graph → List (List NodeId) → ℕ
cost g paths = sum_by (path_cost g) paths

-- no k disjoint paths cost less
abbrev pub Least : Graph → NodeId → NodeId → ℕ → List (List NodeId) → Type 0
Least g s t k paths = (others : List (List NodeId)) → Disjoint g s t k others → cost g paths ≤ cost g others
