-- What a tick leaves: at most two acknowledgements are signed, of a plain flow and then of one on paths.
use Rattle.std.proofs.Common.{ℕ, Option, None, Some}
use Rattle.sp_msg.specs.declared.body.Ack.{Ack}
use Rattle.sp_msg.specs.declared.kept.Kept.{Kept}
use Rattle.sp_msg.specs.declared.refused.SendRefused.{SendRefused}
use Rattle.sp_rules.specs.Arts.{Arts}
use Rattle.sp_rules.specs.Kflow.{ack_body}
use Rattle.sp_rules.specs.Node.{NodeState, signed_now, signed_once}
use Rattle.sp_rules.specs.Parts.{with_flows}
use Rattle.sp_rules.specs.Rel.{RelState, settled}
use Rattle.sp_rules.specs.Sends.{signer_refusal}
use Rattle.sp_rules.specs.Ticks.{after_plain, after_tick, at_time, due_now, second_refusal, settled_by}
use Rattle.sp_rules.specs.declared.kflow.FlowKind.TheVariants.{Plain, Paths}

-- what holds at its time, after an acknowledgement of a plain flow, and still after one of a flow on paths
pub ticked : (P : NodeState → Type 0) (arts : Arts) (n : NodeState) (now : ℕ) → P (at_time n now)
    → ((o : Kept) → P (signed_once (at_time n now) (with_flows Plain (settled n.parts.rel o) (at_time n now).parts)))
    → ((m : NodeState) (r : RelState) → P m → P (signed_once m (with_flows Paths r m.parts))) → P (after_tick arts n now)
ticked P arts n now none plain paths =
    second (after_plain arts n now) (due_now Paths n) (second_refusal arts n now) (first (due_now Plain n) (signer_refusal n.signer))
  where
    first : (o : Option Ack) (r : Option SendRefused) → P (settled_by arts Plain (at_time n now) o r)
    first None r = none
    first (Some ack) (Some refusal) = none
    first (Some ack) None = plain (signed_now arts (at_time n now) (ack_body Plain ack))

    second : (m : NodeState) (o : Option Ack) (r : Option SendRefused) → P m → P (settled_by arts Paths m o r)
    second m None r h = h
    second m (Some ack) (Some refusal) h = h
    second m (Some ack) None h = paths m (settled m.parts.kflow.flows (signed_now arts m (ack_body Paths ack))) h
