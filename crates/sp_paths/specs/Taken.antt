-- Walks along lanes that are used, and the lanes that they take. No public clause names these.
use Rattle.std.specs.Prelude.{ℕ, ◌≡◌, ◌≢◌, ◌<◌, true, List, [], ◌∷◌, length, Option, Some, None}
use Rattle.std.specs.List.{All, AllPairs, Contains, flat_map}
use Rattle.sp_paths.specs.declared.lane.Lane.{Lane}
use Rattle.sp_paths.specs.Lanes.{flipped, lane_at}

-- the lanes of these places lead from the one part to the other
abbrev pub Leads : List Lane → ℕ → List ℕ → ℕ → Type 0
Leads lanes here [] end = here ≡ end
Leads lanes here (i ∷ walk) end = ((lane_at lanes i).from ≡ here) × Leads lanes (lane_at lanes i).to walk end

-- the lanes of these places were used, none of them stands there twice, and they are used no more; all others are as they were
pub record Taken (old new : List Lane) (places : List ℕ) : Type 0 where
  pub long : length new ≡ length old
  pub inside : (i : ℕ) → Contains places i → i < length old
  pub used : (i : ℕ) → Contains places i → (lane_at old i).used ≡ true
  pub free : (i : ℕ) → Contains places i → lane_at new i ≡ flipped (lane_at old i)
  pub others : (i : ℕ) → (Contains places i → ⊥) → lane_at new i ≡ lane_at old i
  pub once : AllPairs (λ i j. i ≢ j) places

-- no lane before this place is used and begins here
abbrev pub IsLowest : List Lane → ℕ → ℕ → Type 0
IsLowest lanes here i = (k : ℕ) → k < i → (lane_at lanes k).used ≡ true → (lane_at lanes k).from ≢ here

-- the first lane that is used and begins here
abbrev pub IsFirst : List Lane → ℕ → Option ℕ → Type 0
IsFirst lanes here (Some i) =
    (i < length lanes) × ((lane_at lanes i).used ≡ true) × ((lane_at lanes i).from ≡ here) × IsLowest lanes here i
IsFirst lanes here None = (k : ℕ) → k < length lanes → (lane_at lanes k).used ≡ true → (lane_at lanes k).from ≢ here

-- the walks one after the other
abbrev pub joined : List (List ℕ) → List ℕ
joined walks = flat_map (λ walk. walk) walks

-- the place of a walk's first lane
abbrev pub first_of : List ℕ → ℕ
first_of [] = 0
first_of (i ∷ walk) = i

-- so many walks from s to t, which take no lane twice; the first lanes of later walks stand after those of earlier ones
pub record IsApart (old new : List Lane) (s t total : ℕ) (walks : List (List ℕ)) : Type 0 where
  pub count : length walks ≡ total
  pub lead : All (λ walk. Leads old s walk t) walks
  pub taken : Taken old new (joined walks)
  pub lowest : All (λ walk. IsLowest new s (first_of walk)) walks
  pub ascend : s ≢ t → AllPairs (λ v w. first_of v < first_of w) walks
