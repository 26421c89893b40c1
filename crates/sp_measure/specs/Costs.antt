-- What probes cost, and the weight of a link by the costs of its last probes.
use Rattle.std.specs.Prelude.{ℕ, ◌+◌, ◌-◌, ◌*◌, ◌/◌, max, min, List, [], ◌∷◌, ◌++◌, drop, length}
use Rattle.std.specs.List.{sum}
use Rattle.sp_measure.specs.declared.opening.Opening.{Opening}
use Rattle.sp_measure.specs.declared.opening.TheConstants.{FRAME_COST, MAX_COST}
use Rattle.sp_measure.specs.declared.weight.TheConstants.{WEIGHED_COSTS}

-- what a probe costs that is closed at this time: the time that it was open, and so much for each frame beyond the first that carried it
abbrev pub cost_at : Opening → ℕ → ℕ
cost_at o now = min MAX_COST ((now - o.since) + FRAME_COST * (o.frames - 1))

-- the last n of these, or all where there are fewer
abbrev pub last_of : {X : Type 0} → ℕ → List X → List X
last_of n xs = drop (length xs - n) xs

-- the last costs, with one more
abbrev pub with_cost : List ℕ → ℕ → List ℕ
with_cost costs cost = last_of WEIGHED_COSTS (costs ++ cost ∷ [])

-- the greater of the minimum and the mean of 32 costs, without its fraction
abbrev pub weight_of : List ℕ → ℕ → ℕ
weight_of costs minimum = max minimum (sum costs / WEIGHED_COSTS)
