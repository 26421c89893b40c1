-- What the search keeps: lanes, the potential of each part, and which parts are reached. No public clause names these.
--
--     a lane that no path goes along    its residual arc leads from `from` to `to`, at its cost
--     a lane that a path goes along     its residual arc leads back, at its cost negated
use Rattle.std.specs.Prelude.{ℕ, ◌≡◌, ◌+◌, ◌-◌, ◌<◌, ◌≤◌, ◌^◌, Bool, true, false, not, cond, List, length, Option, Some, None, MatchBool, slice_index_or}
use Rattle.sp_paths.specs.declared.lane.Lane.{Lane}

abbrev pub no_lane : Lane
no_lane = record { from = 0; to = 0; cost = 0; used = false }

-- the lane at a place
abbrev pub lane_at : List Lane → ℕ → Lane
lane_at lanes i = slice_index_or lanes i no_lane

-- the number at a place; beyond the list it is 0
abbrev pub at : List ℕ → ℕ → ℕ
at numbers v = slice_index_or numbers v 0

-- whether the part is reached; what is no part counts as reached
abbrev pub is_in : List Bool → ℕ → Bool
is_in reached v = slice_index_or reached v true

-- where the residual arc begins
abbrev pub tail : Lane → ℕ
tail l = cond l.used l.to l.from

-- where the residual arc ends
abbrev pub head : Lane → ℕ
head l = cond l.used l.from l.to

-- a lane that is used where it wasn't, and the other way round
abbrev pub flipped : Lane → Lane
flipped l = record { from = l.from; to = l.to; cost = l.cost; used = not l.used }

-- the residual arc's reduced cost is at least 0
abbrev pub Fits : (ℕ → ℕ) → Lane → Type 0
Fits p l = MatchBool l.used (l.cost + p l.from ≤ p l.to) (p l.to ≤ l.cost + p l.from)

-- the residual arc's reduced cost
abbrev pub slack : (ℕ → ℕ) → Lane → ℕ
slack p l = cond l.used (p l.to - (l.cost + p l.from)) (l.cost + p l.from - p l.to)

-- each lane fits the potential
abbrev pub FitAll : (ℕ → ℕ) → List Lane → Type 0
FitAll p lanes = (k : ℕ) → k < length lanes → Fits p (lane_at lanes k)

-- both ends are parts
abbrev pub IsWithin : ℕ → Lane → Type 0
IsWithin parts l = (l.from < parts) × (l.to < parts)

-- each lane joins two of so many parts
abbrev pub AreWithin : ℕ → List Lane → Type 0
AreWithin parts lanes = (k : ℕ) → k < length lanes → IsWithin parts (lane_at lanes k)

-- no potential is near the end of its type
abbrev pub IsLow : List ℕ → Type 0
IsLow potential = (v : ℕ) → at potential v < 2 ^ 63

-- the residual arc leads out of the set
abbrev pub LeadsOut : (ℕ → Bool) → Lane → Type 0
LeadsOut c l = (c (tail l) ≡ true) × (c (head l) ≡ false)

-- it doesn't
abbrev pub Closed : (ℕ → Bool) → Lane → Type 0
Closed c l = c (tail l) ≡ true → c (head l) ≡ true

-- how far the potential is from making a lane tight that leads out of what is reached
abbrev pub Gap : (ℕ → ℕ) → (ℕ → Bool) → Lane → Option ℕ → Type 0
Gap p c l None = Closed c l
Gap p c l (Some gap) = LeadsOut c l × (gap ≡ slack p l)

-- of the first n lanes this one leads out, at a reduced cost that is the least
pub record Nearest (p : ℕ → ℕ) (c : ℕ → Bool) (lanes : List Lane) (n place gap : ℕ) : Type 0 where
  pub inside : place < n
  pub leads_out : LeadsOut c (lane_at lanes place)
  pub is : gap ≡ slack p (lane_at lanes place)
  pub least : (k : ℕ) → k < n → LeadsOut c (lane_at lanes k) → gap ≤ slack p (lane_at lanes k)

-- of the first lanes, the one that leads out with the least gap
abbrev pub Best : (ℕ → ℕ) → (ℕ → Bool) → List Lane → ℕ → Option (ℕ × ℕ) → Type 0
Best p c lanes n None = (k : ℕ) → k < n → Closed c (lane_at lanes k)
Best p c lanes n (Some (place, gap)) = Nearest p c lanes n place gap

-- the potentials after those outside the set are raised
abbrev pub raised : (ℕ → Bool) → ℕ → (ℕ → ℕ) → ℕ → ℕ
raised c gap p v = cond (c v) (p v) (p v + gap)
