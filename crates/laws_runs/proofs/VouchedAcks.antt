-- The acknowledgement that a node keeps of a flow to a correct destination is that one's, of the number up to which messages count as acknowledged, and names
-- the boots that the node holds.
use Rattle.std.proofs.Common.{◌≡◌, ◌≤◌, ℕ, true, List, Some, sym, ap, subst, ◌∙◌}
use Rattle.std.specs.Prelude.{IfSome, IsTrue}
use Rattle.sp_base.specs.declared.id.Flow.{Flow}
use Rattle.sp_base.specs.declared.id.NodeId.{NodeId}
use Rattle.sp_msg.specs.Views.{signer_of}
use Rattle.sp_msg.specs.declared.body.Body.{Body}
use Rattle.sp_msg.specs.declared.body.Body.TheVariants as bodies
use Rattle.sp_msg.specs.declared.kept.Kept.{Kept}
use Rattle.sp_rules.specs.Arts.{Arts}
use Rattle.sp_rules.specs.Flow.{FlowState, ends, number_said}
use Rattle.sp_rules.specs.Lives.{held_boot}
use Rattle.sp_rules.specs.Node.{NodeState}
use Rattle.sp_rules.specs.Kflow.{ack_body}
use Rattle.sp_rules.specs.Parts.{flows_of, nodes_of}
use Rattle.sp_rules.specs.declared.kflow.FlowKind.{FlowKind}
use Rattle.sp_rules.specs.declared.kflow.FlowKind.TheVariants.{Plain, Paths}
use Rattle.sp_rules.specs.declared.lives.Life.{Life}
use Rattle.sp_rules.proofs.FlowJudged.{found_ends}
use Rattle.laws_node.specs.Flows.{AckKept, IsAckOf}
use Rattle.laws_node.proofs.Boot.{nodes_hold}
use Rattle.laws_node.proofs.FlowKinds.{flows_hold}
use Rattle.laws_node.proofs.Reliable.{in_range, read}
use Rattle.sp_runs.specs.Forgery.{is_among}
use Rattle.sp_runs.specs.Settings.{Setting, SettingFits, is_correct, is_node}
use Rattle.sp_runs.specs.Told.{signed}
use Rattle.sp_journal.specs.declared.entry.Entry.{Entry}
use Rattle.sp_schedule_events.specs.declared.event.Event.{Event}
use Rattle.laws_runs.specs.Dated.{NamesHeld}
use Rattle.laws_runs.specs.Flows.{flow_at}
use Rattle.laws_runs.specs.LifeFlows.{IsVouchedUnder}
use Rattle.laws_runs.proofs.Acks.{RelAck, flow_ack}
use Rattle.laws_runs.specs.Signs.{Good, NodeIs, sizes_at}
use Rattle.laws_runs.proofs.Dated.{flow_dated}
use Rattle.laws_runs.proofs.FlowFacts.{flow_of}
use Rattle.laws_runs.proofs.Flows.{ack_signed_by}

-- an acknowledgement of the flow that names the boots that are held is exactly this one
ack_is : (kind : FlowKind) (lives : List Life) (flow : Flow) (body : Body) → IsAckOf kind flow body → NamesHeld lives flow body
    → body ≡ ack_body kind
    (record { src = flow.src; dst = flow.dst; sboot = held_boot lives flow.src; dboot = held_boot lives flow.dst; seq = number_said body })
ack_is Plain lives flow (bodies.Ack a) is names =
    ap (λ (v : NodeId). bodies.Ack (record { src = v; dst = a.dst; sboot = a.sboot; dboot = a.dboot; seq = a.seq })) is.0
    ∙ ap (λ (v : NodeId). bodies.Ack (record { src = flow.src; dst = v; sboot = a.sboot; dboot = a.dboot; seq = a.seq })) is.1
    ∙ ap (λ (b : ℕ). bodies.Ack (record { src = flow.src; dst = flow.dst; sboot = b; dboot = a.dboot; seq = a.seq })) names.source
    ∙ ap (λ (b : ℕ). bodies.Ack (record { src = flow.src; dst = flow.dst; sboot = held_boot lives flow.src; dboot = b; seq = a.seq })) names.end
ack_is Paths lives flow (bodies.Kack a) is names =
    ap (λ (v : NodeId). bodies.Kack (record { src = v; dst = a.dst; sboot = a.sboot; dboot = a.dboot; seq = a.seq })) is.0
    ∙ ap (λ (v : NodeId). bodies.Kack (record { src = flow.src; dst = v; sboot = a.sboot; dboot = a.dboot; seq = a.seq })) is.1
    ∙ ap (λ (b : ℕ). bodies.Kack (record { src = flow.src; dst = flow.dst; sboot = b; dboot = a.dboot; seq = a.seq })) names.source
    ∙ ap (λ (b : ℕ). bodies.Kack (record { src = flow.src; dst = flow.dst; sboot = held_boot lives flow.src; dboot = b; seq = a.seq })) names.end
ack_is Plain lives flow (bodies.Prio m) is names = absurd is
ack_is Plain lives flow (bodies.Rel m) is names = absurd is
ack_is Plain lives flow (bodies.Weight m) is names = absurd is
ack_is Plain lives flow (bodies.Krel m) is names = absurd is
ack_is Plain lives flow (bodies.Kack m) is names = absurd is
ack_is Plain lives flow (bodies.Epoch m) is names = absurd is
ack_is Paths lives flow (bodies.Prio m) is names = absurd is
ack_is Paths lives flow (bodies.Rel m) is names = absurd is
ack_is Paths lives flow (bodies.Ack m) is names = absurd is
ack_is Paths lives flow (bodies.Weight m) is names = absurd is
ack_is Paths lives flow (bodies.Krel m) is names = absurd is
ack_is Paths lives flow (bodies.Epoch m) is names = absurd is

module _ (kind : FlowKind) (arts : Arts) (x : Setting) (s d : NodeId) (es : List Event) (js : List Entry) (correct : IsTrue (is_correct x d)) where
  -- what is kept is an acknowledgement of the flow, so d signed it
  one_vouched : (lives : List Life) (f : FlowState) (o : Kept) → f.ack ≡ Some o → number_said o.body ≡ f.at.base → ends f ≡ flow_of s d
      → NamesHeld lives (ends f) o.body → (u : NodeId) → AckKept kind (sizes_at x (Good arts x es js) u) (ends f) o
      → IsVouchedUnder kind arts s d es js f (held_boot lives s) (held_boot lives d)
  one_vouched lives f o kept number same names u is =
      let signer : signer_of o.body ≡ d = ack_signed_by kind (ends f) o.body is.is_ack ∙ ap (λ (g : Flow). g.dst) same in
      let good : Good arts x es js o = is.fits.holds in
      record {
        ack = o;
        kept = kept;
        body = ack_is kind lives (ends f) o.body is.is_ack names
            ∙ ap (λ (g : Flow). ack_body kind (record {
              src = g.src;
              dst = g.dst;
              sboot = held_boot lives g.src;
              dboot = held_boot lives g.dst;
              seq = number_said o.body;
            })) same
            ∙ ap (λ (q : ℕ). ack_body kind (record { src = s; dst = d; sboot = held_boot lives s; dboot = held_boot lives d; seq = q })) number;
        signed = subst (λ (v : NodeId). is_among (arts.spell o.body) (signed es js v) ≡ true) signer
            (good.known (subst (λ (v : NodeId). IsTrue (is_correct x v)) (sym signer) correct));
      }

pub vouched : (kind : FlowKind) (arts : Arts) (x : Setting) (s d : NodeId) (es : List Event) (js : List Entry) → SettingFits arts x → is_node x s ≡ true
    → is_node x d ≡ true
    → IsTrue (is_correct x d)
    → (u : NodeId) (n : NodeState) → NodeIs x (Good arts x es js) u n → RelAck (flows_of kind n.parts) → 1 ≤ (flow_at kind n s d).at.base
    → IsVouchedUnder kind arts s d es js (flow_at kind n s d) (held_boot n.parts.lives s) (held_boot n.parts.lives d)
vouched kind arts x s d es js fits from to correct u n is acks some =
    let k = sizes_at x (Good arts x es js) u in
    let nodes = nodes_hold x.topology.format x.topology.height 0 x.topology.nodes fits.topology.ranges.nodes in
    let row = read kind k n.signer.index (flows_of kind n.parts).flows (flow_of s d) (in_range x.topology.format (nodes_of x.topology) s nodes from)
    (in_range x.topology.format (nodes_of x.topology) d nodes to)
    (flows_hold kind k n.parts is.holds.parts).flows in
    let numbered = (flow_ack (flows_of kind n.parts) (flow_of s d) acks).ack some in
    let kept : AckKept kind k (ends (flow_at kind n s d)) numbered.ack =
    subst (λ o. IfSome o (AckKept kind k (ends (flow_at kind n s d)))) numbered.kept row.ack in
    let names : NamesHeld n.parts.lives (ends (flow_at kind n s d)) numbered.ack.body =
    subst (λ o. IfSome o (λ (m : Kept). NamesHeld n.parts.lives (ends (flow_at kind n s d)) m.body)) numbered.kept
    (flow_dated n.parts.lives (flows_of kind n.parts) (flow_of s d) (is.dated kind)).ack in
    one_vouched kind arts x s d es js correct n.parts.lives (flow_at kind n s d) numbered.ack numbered.kept numbered.number
    (found_ends (flows_of kind n.parts).flows (flow_of s d)) names u kept
