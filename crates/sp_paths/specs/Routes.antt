-- How a search ends. No public clause names these.
use Rattle.std.specs.Prelude.{ℕ, ◌≡◌, ◌<◌, ◌≤◌, Bool, true, false, List, length}
use Rattle.sp_paths.specs.declared.lane.Lane.{Lane}
use Rattle.sp_paths.specs.declared.route.Routed.{Routed}
use Rattle.sp_paths.specs.declared.route.Routed.TheVariants as ways
use Rattle.sp_paths.specs.Flows.{Flow}
use Rattle.sp_paths.specs.Bounds.{most_potential}
use Rattle.sp_paths.specs.Lanes.{Closed, FitAll, at, is_in, lane_at}

abbrev pub IsUnused : List Lane → Type 0
IsUnused lanes = (k : ℕ) → k < length lanes → (lane_at lanes k).used ≡ false

-- so many paths go along the lanes, at potentials that leave no reduced cost below 0
pub record HasAll (s t count : ℕ) (lanes : List Lane) (potential : List ℕ) : Type 0 where
  pub flow : Flow s t count lanes
  pub fits : FitAll (at potential) lanes
  pub low : (v : ℕ) → at potential v ≤ most_potential

-- only so many paths go along them: no residual arc leaves what is reached, which lies inside any other such set
pub record HasOnly (s t found count : ℕ) (lanes : List Lane) (reached : List Bool) : Type 0 where
  pub fewer : found < count
  pub flow : Flow s t found lanes
  pub source : is_in reached s ≡ true
  pub destination : is_in reached t ≡ false
  pub closed : (k : ℕ) → k < length lanes → Closed (is_in reached) (lane_at lanes k)
  pub least_set : (c : ℕ → Bool) → c s ≡ true → ((k : ℕ) → k < length lanes → Closed c (lane_at lanes k))
      → (v : ℕ) → v < length reached → is_in reached v ≡ true → c v ≡ true

-- how a search ended: with all paths, or with what proves that there are no more
abbrev pub IsRouted : ℕ → ℕ → ℕ → List Lane → List ℕ → List Bool → Routed → Type 0
IsRouted s t count lanes potential reached ways.All = HasAll s t count lanes potential
IsRouted s t count lanes potential reached (ways.Only found) = HasOnly s t found count lanes reached
