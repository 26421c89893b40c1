-- An update of a weight: what is ready of it before anything is taken, and how many signatures may be checked for it.
use Rattle.std.specs.Prelude.{ℕ, ◌≡◌, Bool, true, false, Option, IfSome, is_some}
use Rattle.sp_base.specs.declared.id.NodeId.{NodeId}
use Rattle.sp_msg.specs.declared.kept.Kept.{Kept}
use Rattle.sp_rules.specs.Handle.{offer_to}
use Rattle.sp_rules.specs.Parts.{Fixed}
use Rattle.sp_rules.specs.Weights.{WeightState}
use Rattle.sp_rules.specs.declared.weights.Offer.{Offer}
use Rattle.sp_rules.specs.declared.weights.Offer.TheVariants as offers
use Rattle.sp_node_arrivals.specs.Signed.{is_right, one_if}

pub record IsWeightReady (f : Fixed) (s : WeightState) (o : Kept) (ready : Option Kept) : Type 0 where
  pub copy : IfSome ready (λ kept. kept ≡ o)
  pub right : offer_to f.me s o.body ≡ offers.New → is_some ready ≡ is_right f o

-- an update of a weight that is new
abbrev pub is_new_offer : Offer → Bool
is_new_offer offers.New = true
is_new_offer _ = false

-- how many signatures of an update may be checked
abbrev pub weight_checks : NodeId → WeightState → Kept → ℕ
weight_checks me s o = one_if (is_new_offer (offer_to me s o.body))
