-- What holds of the flows of each kind at a node.
use Rattle.std.proofs.Common.{◌≡◌, ℕ, List, Option, Some, None, refl}
use Rattle.sp_base.specs.declared.id.Flow.{Flow}
use Rattle.sp_base.specs.declared.id.NodeId.{NodeId}
use Rattle.sp_msg.specs.declared.body.Ack.{Ack}
use Rattle.sp_msg.specs.declared.body.Body.{Body}
use Rattle.sp_msg.specs.declared.body.Body.TheVariants as bodies
use Rattle.sp_msg.specs.declared.effect.Effect.{Effect}
use Rattle.sp_msg.specs.declared.effect.Effect.TheVariants as effects
use Rattle.sp_msg.specs.declared.refused.SendRefused.{SendRefused}
use Rattle.sp_rules.specs.Arts.{Arts}
use Rattle.sp_rules.specs.Kflow.{ack_body}
use Rattle.sp_rules.specs.Node.{NodeState, signed_now}
use Rattle.sp_rules.specs.Parts.{Parts, flows_of, with_flows}
use Rattle.sp_rules.specs.Rel.{RelState, delivery, ending, settled}
use Rattle.sp_rules.specs.Ticks.{settled_by}
use Rattle.laws_node.proofs.FlowKinds.{lives_beside, prio_beside}
use Rattle.sp_rules.specs.declared.kflow.FlowKind.{FlowKind}
use Rattle.sp_rules.specs.declared.kflow.FlowKind.TheVariants.{Plain, Paths}

-- of the flows of both kinds
abbrev pub OfEach : (FlowKind → RelState → Type 0) → Parts → Type 0
OfEach P p = (kind : FlowKind) → P kind (flows_of kind p)

-- of plain ones, and of those on paths
pub of_both : (P : FlowKind → RelState → Type 0) (p : Parts) → P Plain p.rel → P Paths p.kflow.flows → OfEach P p
of_both P p plain paths Plain = plain
of_both P p plain paths Paths = paths

-- where those of one kind change, it has to hold of them alone
pub of_one : (P : FlowKind → RelState → Type 0) (kind : FlowKind) (r : RelState) (p : Parts) → P kind r → OfEach P p → OfEach P (with_flows kind r p)
of_one P Plain r p new old = of_both P (with_flows Plain r p) new (old Paths)
of_one P Paths r p new old = of_both P (with_flows Paths r p) (old Plain) new

-- ---- what is told

-- the flow of either kind ended
pub of_ending : (P : Effect → Type 0) (kind : FlowKind) (flow : Flow) → P (effects.Ended flow) → P (effects.Kended flow) → P (ending kind flow)
of_ending P Plain flow plain paths = plain
of_ending P Paths flow plain paths = paths

-- a message of either kind was delivered
pub of_delivery : (P : Effect → Type 0) → ((src : NodeId) (seq : ℕ) (payload : List ℕ) → P (effects.Delivered src seq payload))
    → ((src : NodeId) (seq : ℕ) (payload : List ℕ) → P (effects.DeliveredKrel src seq payload)) → (body : Body) → P (delivery body)
of_delivery P plain paths (bodies.Krel m) = paths m.src m.seq m.payload
of_delivery P plain paths (bodies.Rel m) = plain m.src m.seq m.payload
of_delivery P plain paths (bodies.Prio m) = plain _ _ _
of_delivery P plain paths (bodies.Ack m) = plain _ _ _
of_delivery P plain paths (bodies.Kack m) = plain _ _ _
of_delivery P plain paths (bodies.Weight m) = plain _ _ _
of_delivery P plain paths (bodies.Epoch m) = plain _ _ _

-- ---- what a node signs

-- nothing changes beside the flows of that kind
pub settled_prio : (arts : Arts) (kind : FlowKind) (n : NodeState) (o : Option Ack) (r : Option SendRefused)
    → (settled_by arts kind n o r).parts.prio ≡ n.parts.prio
settled_prio arts kind n None r = refl
settled_prio arts kind n (Some ack) (Some refusal) = refl
settled_prio arts kind n (Some ack) None = prio_beside kind (settled (flows_of kind n.parts) (signed_now arts n (ack_body kind ack))) n.parts

pub settled_lives : (arts : Arts) (kind : FlowKind) (n : NodeState) (o : Option Ack) (r : Option SendRefused)
    → (settled_by arts kind n o r).parts.lives ≡ n.parts.lives
settled_lives arts kind n None r = refl
settled_lives arts kind n (Some ack) (Some refusal) = refl
settled_lives arts kind n (Some ack) None = lives_beside kind (settled (flows_of kind n.parts) (signed_now arts n (ack_body kind ack))) n.parts
