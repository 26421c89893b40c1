-- Lists of updates: what is held after them, and which of them were held.
use Rattle.std.specs.Prelude.{ℕ, ◌==◌, ◌&&◌, Bool, false, List, [], ◌∷◌, ◌++◌, if◌then◌else◌}
use Rattle.sp_msg.specs.declared.body.Body.{Body}
use Rattle.sp_msg.specs.declared.body.Body.TheVariants as bodies
use Rattle.sp_msg.specs.declared.kept.Kept.{Kept}
use Rattle.sp_rules.specs.declared.weights.Offer.{Offer}
use Rattle.sp_rules.specs.declared.weights.Offer.TheVariants as offers
use Rattle.sp_rules.specs.Handle.{offer_of}
use Rattle.sp_rules.specs.Weights.{WeightState, held, weight_said}

-- ---- one update

-- it is held where the answer is that it is new
abbrev pub held_if : Offer → WeightState → Kept → WeightState
held_if offers.New s kept = held s kept
held_if _ s kept = s

-- what is held after one more update
abbrev pub after_one : WeightState → Kept → WeightState
after_one s kept = held_if (offer_of s kept.body) s kept

-- the update, where it was held
abbrev pub taken_if : Offer → Kept → List Kept
taken_if offers.New kept = kept ∷ []
taken_if _ kept = []

-- ---- many

-- what is held after these, in their order
abbrev pub after : WeightState → List Kept → WeightState
after s [] = s
after s (kept ∷ others) = after (after_one s kept) others

-- those of them that were held when they came
abbrev pub taken : WeightState → List Kept → List Kept
taken s [] = []
taken s (kept ∷ others) = taken_if (offer_of s kept.body) kept ++ taken (after_one s kept) others

-- ---- of one end

-- the message is an update of this end of this edge
abbrev pub is_of : ℕ → ℕ → Body → Bool
is_of edge end (bodies.Weight u) = (u.edge.0 == edge) && (u.origin.0 == end)
is_of edge end _ = false

-- the weight of the last update of this end of this edge; this weight where there is none
abbrev pub last_weight : ℕ → ℕ → ℕ → List Kept → ℕ
last_weight edge end weight [] = weight
last_weight edge end weight (kept ∷ others) = last_weight edge end (if is_of edge end kept.body then weight_said kept.body else weight) others
