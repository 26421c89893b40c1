-- What a book of paths keeps: sets from one source in one graph, each the answer to what was asked. No public clause names these.
use Rattle.std.specs.Prelude.{ℕ, ◌≡◌, ◌≤◌, ◌<◌, ◌-◌, ◌*◌, ◌==◌, ◌&&◌, Bool, false, List, [], slice_index_or, length}
use Rattle.std.specs.List.{All, AllPairs}
use Rattle.sp_base.specs.declared.id.NodeId.{NodeId}
use Rattle.sp_base.specs.declared.limits.TheConstants.{MAX_NODES_2}
use Rattle.sp_graph.specs.declared.graph.Graph.{Graph}
use Rattle.sp_paths.specs.Cheapest.{AreLeast}
use Rattle.sp_routes.specs.declared.book.KeptSet.{KeptSet}
use Rattle.sp_routes.specs.declared.book.Page.{Page}
use Rattle.sp_paths.specs.declared.limits.TheConstants.{MAX_PATHS}

abbrev pub no_set : KeptSet
no_set = record { destination = record { 0 = 0 }; count = 0; paths = [] }

-- the set at a place
abbrev pub set_at : List KeptSet → ℕ → KeptSet
set_at sets place = slice_index_or sets place no_set

-- in this graph, from this source, the set is what was asked for
abbrev pub IsAnswer : Graph → NodeId → KeptSet → Type 0
IsAnswer g s set = (1 ≤ set.count) × (set.count ≤ MAX_PATHS) × AreLeast g s set.destination set.count set.paths

-- the set is of so many paths to this destination
abbrev pub is_for : NodeId → ℕ → KeptSet → Bool
is_for t k set = (set.destination.0 == t.0) && (set.count == k)

-- each set is an answer, and no two are of as many paths to one destination: so there are at most so many as other nodes, for each number of paths
pub record IsPage (p : Page) : Type 0 where
  pub nodes : p.graph.nodes ≤ MAX_NODES_2
  pub answers : All (IsAnswer p.graph p.source) p.sets.items
  pub once : AllPairs (λ set later. is_for later.destination later.count set ≡ false) p.sets.items
  pub few : length p.sets.items ≤ (MAX_NODES_2 - 1) * MAX_PATHS

-- the paths that are asked for stand in this place
abbrev pub AnswersAt : Page → Graph → NodeId → NodeId → ℕ → ℕ → Type 0
AnswersAt p g s t k place = (place < length p.sets.items) × AreLeast g s t k (set_at p.sets.items place).paths

-- where the page is of this source in this graph, these paths aren't kept
abbrev pub IsNew : Page → Graph → NodeId → NodeId → ℕ → Type 0
IsNew p g s t k = p.graph ≡ g → p.source ≡ s → All (λ set. is_for t k set ≡ false) p.sets.items

-- the same sets, of the same source in the same graph
abbrev pub IsSame : Page → Page → Type 0
IsSame old new = (new.graph ≡ old.graph) × (new.source ≡ old.source) × (new.sets.items ≡ old.sets.items)
