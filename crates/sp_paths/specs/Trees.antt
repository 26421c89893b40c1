-- What is reached from the source, and the lanes by which it was. No public clause names these.
use Rattle.std.specs.Prelude.{ℕ, ◌≡◌, ◌≢◌, ◌⊎◌, ◌+◌, ◌*◌, ◌<◌, ◌≤◌, Bool, true, false, not, List, length, Option, Some, None}
use Rattle.std.specs.List.{count_by}
use Rattle.sp_base.specs.declared.limits.TheConstants.{MAX_WEIGHT}
use Rattle.sp_paths.specs.declared.lane.Lane.{Lane}
use Rattle.sp_paths.specs.Bounds.{most_gap, most_parts, most_potential}
use Rattle.sp_paths.specs.Lanes.{AreWithin, Closed, FitAll, at, head, is_in, lane_at, tail}

-- the residual arc has a reduced cost of 0
abbrev pub IsTight : (ℕ → ℕ) → Lane → Type 0
IsTight p l = l.cost + p l.from ≡ p l.to

-- one of the first n lanes of the tree ends there
abbrev pub Reaches : List Lane → List ℕ → ℕ → ℕ → Type 0
Reaches lanes tree n v = (j : ℕ) × (j < n) × (head (lane_at lanes (at tree j)) ≡ v)

-- each lane of the tree is tight
abbrev pub AreTight : (ℕ → ℕ) → List Lane → List ℕ → Type 0
AreTight p lanes tree = (j : ℕ) → j < length tree → IsTight p (lane_at lanes (at tree j))

-- the places of lanes, none twice, each from the source or from where an earlier one ends
pub record IsTree (s : ℕ) (lanes : List Lane) (tree : List ℕ) : Type 0 where
  pub inside : (j : ℕ) → j < length tree → at tree j < length lanes
  pub hangs : (j : ℕ) → j < length tree → (tail (lane_at lanes (at tree j)) ≡ s) ⊎ Reaches lanes tree j (tail (lane_at lanes (at tree j)))
  pub once : (i j : ℕ) → i < j → j < length tree → at tree i ≢ at tree j

-- what the tree reaches, from the potentials that were there first
pub record Grown (first : List ℕ) (s : ℕ) (lanes : List Lane) (potential : List ℕ) (reached : List Bool) (tree : List ℕ) : Type 0 where
  pub parts : length potential ≡ length first
  pub marks : length reached ≡ length first
  pub fits : FitAll (at potential) lanes
  pub source : is_in reached s ≡ true
  pub zero_there : at potential s ≡ 0
  pub is_tree : IsTree s lanes tree
  pub tight : AreTight (at potential) lanes tree
  pub tails : (j : ℕ) → j < length tree → is_in reached (tail (lane_at lanes (at tree j))) ≡ true
  pub heads : (j : ℕ) → j < length tree → is_in reached (head (lane_at lanes (at tree j))) ≡ true
  pub outs : (v : ℕ) → v < length first → is_in reached v ≡ true → (v ≡ s) ⊎ Reaches lanes tree (length tree) v
  pub least_set : (c : ℕ → Bool) → c s ≡ true → ((k : ℕ) → k < length lanes → Closed c (lane_at lanes k))
      → (v : ℕ) → v < length first → is_in reached v ≡ true → c v ≡ true
  pub low : (v : ℕ) → v < length first → is_in reached v ≡ true → at potential v ≤ length tree * MAX_WEIGHT
  pub high : (bound : ℕ) → ((v : ℕ) → at first v ≤ bound) → (v : ℕ) → at potential v ≤ bound + length tree * most_gap
  pub few : length tree + count_by not reached ≤ length reached

-- the source alone is reached
pub record IsStart (s : ℕ) (reached : List Bool) : Type 0 where
  pub source : is_in reached s ≡ true
  pub alone : (v : ℕ) → v < length reached → is_in reached v ≡ true → v ≡ s

-- what a search begins with
pub record IsReady (s : ℕ) (lanes : List Lane) (potential : List ℕ) : Type 0 where
  pub parts : length potential ≤ most_parts
  pub source : s < length potential
  pub within : AreWithin (length potential) lanes
  pub weights : (k : ℕ) → k < length lanes → (lane_at lanes k).cost ≤ MAX_WEIGHT
  pub fits : FitAll (at potential) lanes
  pub zero_there : at potential s ≡ 0
  pub low : (v : ℕ) → at potential v ≤ most_potential

-- what a search ends with: a tree that reaches the destination, or a set that no residual arc leaves
abbrev pub GrowsTo : List ℕ → ℕ → ℕ → List Lane → List ℕ → List Bool → Option (List ℕ) → Type 0
GrowsTo first s t lanes potential reached (Some tree) = Grown first s lanes potential reached tree × (is_in reached t ≡ true)
GrowsTo first s t lanes potential reached None =
    (tree : List ℕ) × Grown first s lanes potential reached tree × (is_in reached t ≡ false)
    × ((k : ℕ) → k < length lanes → Closed (is_in reached) (lane_at lanes k))
