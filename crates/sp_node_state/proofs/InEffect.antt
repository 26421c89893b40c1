-- The weights in effect at a node are in their range: those of the updates that it holds, and the administrator's minima.
use Rattle.std.proofs.Common.{◌≤◌, ℕ, zero, suc, ◌+◌, ◌*◌, List, [], ◌∷◌, arith}
use Rattle.std.specs.Prelude.{Option, Some, None, IfSome, slice_index_or}
use Rattle.std.specs.List.{All}
use Rattle.std.proofs.lemmas.List.Elements.{All-head, All-tail}
use Rattle.sp_base.specs.declared.limits.TheConstants.{MAX_WEIGHT}
use Rattle.sp_msg.proofs.GoodFields.{good_weight}
use Rattle.sp_msg.specs.Bodies.{HasGoodFieldsIn}
use Rattle.sp_msg.specs.declared.body.Body.{Body}
use Rattle.sp_msg.specs.declared.body.Body.TheVariants as bodies
use Rattle.sp_msg.specs.declared.kept.Kept.{Kept}
use Rattle.sp_rules.specs.Weights.{WeightState, effective, held_in, weight_of, weight_said}
use Rattle.laws_node.specs.Sizes.{Sizes}
use Rattle.laws_node.specs.Updates.{UpdateHolds, WeightsHold}

said_small : (format : ℕ) (body : Body) → HasGoodFieldsIn format body → weight_said body ≤ MAX_WEIGHT
said_small format (bodies.Weight u) good = (good_weight format u good).weight.1
said_small format (bodies.Prio p) good = omega arith
said_small format (bodies.Rel r) good = omega arith
said_small format (bodies.Ack a) good = omega arith
said_small format (bodies.Krel a) good = omega arith
said_small format (bodies.Kack a) good = omega arith
said_small format (bodies.Epoch a) good = omega arith

held_small : (k : Sizes) (index row : ℕ) (held : Option Kept) → IfSome held (UpdateHolds k index row) → weight_of held ≤ MAX_WEIGHT
held_small k index row None holds = omega arith
held_small k index row (Some kept) holds = said_small k.format kept.body holds.fits.fields

least_small : (least : List ℕ) (edge : ℕ) → All (λ weight. weight ≤ MAX_WEIGHT) least → slice_index_or least edge 0 ≤ MAX_WEIGHT
least_small [] edge all = omega arith
least_small (weight ∷ least) zero all = All-head (λ w. w ≤ MAX_WEIGHT) weight least all
least_small (weight ∷ least) (suc edge) all = least_small least edge (All-tail (λ w. w ≤ MAX_WEIGHT) weight least all)

-- no weight in effect is above the greatest
pub effective_small : (k : Sizes) (index : ℕ) (w : WeightState) → All (λ weight. weight ≤ MAX_WEIGHT) w.least → WeightsHold k index w
    → (edge : ℕ) → effective w edge ≤ MAX_WEIGHT
effective_small k index w small holds edge =
    let least = least_small w.least edge small in
    let low = held_small k index (2 * edge) (held_in w.rows (2 * edge)) (holds.rows (2 * edge)) in
    let high = held_small k index (2 * edge + 1) (held_in w.rows (2 * edge + 1)) (holds.rows (2 * edge + 1)) in
    omega (arith, least, low, high)
