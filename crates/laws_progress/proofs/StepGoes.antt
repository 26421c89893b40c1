-- What a step makes of a flow: where it leaves the boots of its ends, the flow goes on, and else it begins anew.
use Rattle.sp_rules.specs.Link.{advanced}
use Rattle.sp_rules.specs.Polls.{is_served, parts_after, polled}
use Rattle.laws_progress.proofs.Versions.{closed_flow}
use Rattle.laws_node.proofs.Adopting.{publishing, reading}
use Rattle.sp_rules.specs.Documents.{under_topology}
use Rattle.sp_rules.specs.declared.node.NodeRefused.{NodeRefused}
use Rattle.sp_topology.specs.declared.topology.Topology.{Topology}
use Rattle.std.proofs.Common.{◌≡◌, ℕ, false, List, Option, Some, None, refl, sym}
use Rattle.std.proofs.Common.{ap, subst, ◌∙◌}
use Rattle.sp_base.specs.declared.id.Flow.{Flow}
use Rattle.sp_base.specs.declared.id.NodeId.{NodeId}
use Rattle.sp_rules.specs.Arts.{Arts}
use Rattle.sp_rules.specs.Arrivals.{arrival_at, parts_met, reply_at, sections_in, before_document, document_at, read_by, rises}
use Rattle.sp_rules.specs.Lives.{held_boot}
use Rattle.sp_rules.specs.Node.{NodeState, call_refusal, kept_or, link_in, called, with_link}
use Rattle.sp_rules.specs.Rel.{RelState, is_over, view_in}
use Rattle.sp_rules.specs.Rel.{flow_in}
use Rattle.sp_rules.specs.Rel.{peer_in}
use Rattle.sp_rules.specs.Steps.{Input, NodeStep, Output, Poll, Datagram, Tick, SendRel, SendPrio, SetWeight, TakeRel, TakePrio, SendKrel, TakeKrel, Publish}
use Rattle.laws_node.proofs.Tables.{cond_either}
use Rattle.laws_runs.proofs.NoStarts.{pieces_at}
use Rattle.laws_runs.proofs.StartPieces.{greeted_lives, last_where}
use Rattle.sp_rules.specs.Parts.{flows_of, nodes_of}
use Rattle.sp_rules.specs.Topologies.{removed_of, weights_in}
use Rattle.sp_rules.specs.Rel.{closed}
use Rattle.sp_rules.specs.declared.kflow.FlowKind.{FlowKind}
use Rattle.laws_runs.proofs.KindFacts.{closed_flows, polled_flows}
use Rattle.laws_progress.proofs.EitherKind.{IsOwn, own_flows, own_lives}
use Rattle.laws_progress.proofs.Rises.{Begins_anew, FlowLater, Goes_on, PartsGo, RelLater, goes_same}
use Rattle.laws_progress.proofs.Rises.{greeted_flows, pieces_go, rel_same, same_later, served_later, steps_keep, then_go}

-- ---- steps

abbrev NodeGo : FlowKind → Flow → NodeState → NodeState → Type 0
NodeGo kind flow n m = PartsGo kind flow n.parts m.parts

kept_go : {X : Type 0} (kind : FlowKind) (flow : Flow) (r : Option X) (n m : NodeState) → NodeGo kind flow n m → NodeGo kind flow n (kept_or r n m)
kept_go kind flow None n m go = go
kept_go kind flow (Some x) n m go = goes_same kind flow n.parts

-- of one that takes a version
under_go : (kind : FlowKind) (flow : Flow) (n left : NodeState) (bytes : List ℕ) (t : Topology) → NodeGo kind flow n left
    → is_over (flows_of kind (under_topology left bytes t).parts).removed flow ≡ false → NodeGo kind flow n (under_topology left bytes t)
under_go kind flow n left bytes t go on = of go
  where
    gone : List NodeId
    gone = removed_of (nodes_of t) t.edges

    is : flows_of kind (under_topology left bytes t).parts ≡ closed (flows_of kind left.parts) gone
    is = closed_flows kind left.parts (weights_in t.edges) (removed_of (nodes_of t) t.edges)

    stays : flow_in (flows_of kind (under_topology left bytes t).parts).flows flow ≡ flow_in (flows_of kind left.parts).flows flow
    stays =
        ap (λ (r : RelState). flow_in r.flows flow) is
        ∙ closed_flow gone flow (flows_of kind left.parts).flows (sym (ap (λ (r : RelState). is_over r.removed flow) is) ∙ on)

    of : NodeGo kind flow n left → NodeGo kind flow n (under_topology left bytes t)
    of (Goes_on src dst later) = Goes_on src dst (subst (FlowLater (flow_in (flows_of kind n.parts).flows flow)) (sym stays) later)
    of (Begins_anew rises none views) =
        Begins_anew rises (stays ∙ none) (λ u. ap (λ (r : RelState). view_in (peer_in r.peers u).views flow) is ∙ views u)

own_go : (kind : FlowKind) (flow : Flow) (arts : Arts) (n : NodeState) (input : Input) (output : Output) (new : NodeState) → IsOwn input
    → NodeStep arts n input output new → NodeGo kind flow n new
own_go kind flow arts n input output new own s =
    let lives = own_lives arts n input output new own s in
    Goes_on (ap (λ ls. held_boot ls flow.src) lives) (ap (λ ls. held_boot ls flow.dst) lives)
    (own_flows (RelLater (flows_of kind n.parts)) kind arts n input output new own s
    (steps_keep (flows_of kind n.parts) arts n kind) (rel_same (flows_of kind n.parts)) flow)

-- of one after which the flow hasn't ended
pub step_go : (kind : FlowKind) (flow : Flow) (arts : Arts) (n : NodeState) (input : Input) (output : Output) (new : NodeState)
    → NodeStep arts n input output new → is_over (flows_of kind new.parts).removed flow ≡ false → NodeGo kind flow n new
step_go kind flow arts n (Poll v) output new s on =
    subst (NodeGo kind flow n) (sym s.1) (kept_go kind flow (call_refusal n v) n (called n (with_link n v (advanced (link_in n v))) (parts_after n v))
    (cond_either (PartsGo kind flow n.parts) (is_served n v) (polled n.fixed n.parts v) n.parts
    (Goes_on refl refl (subst (λ (r : RelState). FlowLater (flow_in (flows_of kind n.parts).flows flow) (flow_in r.flows flow))
    (sym (polled_flows kind n.fixed n.parts v)) (served_later (flows_of kind n.parts) v flow))) (goes_same kind flow n.parts)))
step_go kind flow arts n (Datagram v bytes) output new s on =
    subst (NodeGo kind flow n) (sym s.1) (go (call_refusal n v) (ap (λ (m : NodeState). is_over (flows_of kind m.parts).removed flow) (sym s.1) ∙ on))
  where
    left : NodeState
    left = before_document arts n v bytes

    first : NodeGo kind flow n left
    first =
        let risen = rises arts n v bytes in
        then_go kind flow n.parts (parts_met arts n v bytes) _ (greeted_lives n.fixed.epochs risen v n.parts)
        (subst (λ fs. FlowLater (flow_in (flows_of kind n.parts).flows flow) (flow_in fs flow)) (sym (greeted_flows kind n.fixed.epochs risen v n.parts))
        (same_later _))
        (pieces_go kind flow arts (arrival_at n v) (parts_met arts n v bytes) (pieces_at arts n v bytes)
        (last_where (reply_at arts n v bytes) n.fixed (sections_in arts n.fixed bytes)))

    go : (r : Option NodeRefused) → is_over (flows_of kind (kept_or r n (read_by arts left (document_at arts n v bytes))).parts).removed flow ≡ false
        → NodeGo kind flow n (kept_or r n (read_by arts left (document_at arts n v bytes)))
    go (Some refused) on = goes_same kind flow n.parts
    go None on =
        reading arts left (document_at arts n v bytes)
        (λ m told. is_over (flows_of kind m.parts).removed flow ≡ false → NodeGo kind flow n m) (λ on. first)
        (λ document d is reads by on. under_go kind flow n left document d.topology first on) on
step_go kind flow arts n (Tick now) output new s on = own_go kind flow arts n (Tick now) output new tt s
step_go kind flow arts n (SendRel dst payload) output new s on = own_go kind flow arts n (SendRel dst payload) output new tt s
step_go kind flow arts n (SendPrio m) output new s on = own_go kind flow arts n (SendPrio m) output new tt s
step_go kind flow arts n (SetWeight v weight) output new s on = own_go kind flow arts n (SetWeight v weight) output new tt s
step_go kind flow arts n (TakeRel src) output new s on = own_go kind flow arts n (TakeRel src) output new tt s
step_go kind flow arts n (SendKrel m) output new s on = own_go kind flow arts n (SendKrel m) output new tt s
step_go kind flow arts n (TakeKrel src) output new s on = own_go kind flow arts n (TakeKrel src) output new tt s
step_go kind flow arts n TakePrio output new s on = own_go kind flow arts n TakePrio output new tt s
step_go kind flow arts n (Publish document) output new s on =
    subst (NodeGo kind flow n) (sym s.1)
    (publishing arts n document (λ m told. is_over (flows_of kind m.parts).removed flow ≡ false → NodeGo kind flow n m)
    (λ on. goes_same kind flow n.parts) (λ d reads by on. under_go kind flow n n document d.topology (goes_same kind flow n.parts) on)
    (ap (λ (m : NodeState). is_over (flows_of kind m.parts).removed flow) (sym s.1) ∙ on))
