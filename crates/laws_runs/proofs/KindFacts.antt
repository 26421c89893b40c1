-- What messages and acknowledgements of a kind of flows say, and what is told of them.
use Rattle.std.proofs.Common.{◌≡◌, ◌≤◌, ℕ, ◌+◌, Bool, true, false, cond, List, [], ◌∷◌, Option, Some, None, refl, sym, ap, ap₂, subst, ◌∙◌, inl, inr, nat_lt}
use Rattle.std.specs.Prelude.{All, ◌&&◌, ◌==◌, ◌⊎◌, not}
use Rattle.std.proofs.lemmas.Bool.{eq-eqb, eqb-true}
use Rattle.std.proofs.lemmas.Bool.Decides.{nat_tests}
use Rattle.std.proofs.Common.{arith}
use Rattle.sp_base.specs.declared.id.Flow.{Flow}
use Rattle.sp_base.specs.declared.id.NodeId.{NodeId}
use Rattle.sp_msg.specs.Bodies.{payload_of}
use Rattle.sp_msg.specs.declared.body.Ack.{Ack}
use Rattle.sp_msg.specs.declared.body.Body.{Body}
use Rattle.sp_msg.specs.declared.body.Body.TheVariants as bodies
use Rattle.sp_rules.proofs.FlowJudged.{both_nodes, new_ack, new_rel, same_flow}
use Rattle.sp_rules.specs.Flow.{boots_said, flow_said, number_said}
use Rattle.sp_msg.specs.declared.refused.SendRefused.{SendRefused}
use Rattle.sp_rules.specs.Arrivals.{unheard}
use Rattle.sp_rules.specs.Arts.{Arts}
use Rattle.sp_rules.specs.Kflow.{KState, ack_body}
use Rattle.sp_rules.specs.Node.{NodeState, signed_now}
use Rattle.sp_rules.specs.Parts as parts
use Rattle.sp_rules.specs.Polls.{polled}
use Rattle.sp_rules.specs.Ticks.{settled_by}
use Rattle.laws_node.specs.Withdrawals.{FlowObeys, Obeys}
use Rattle.sp_rules.specs.Lives.{are_held, held_boot, is_dated}
use Rattle.sp_rules.specs.Parts.{Fixed, Parts, flows_of, with_flows}
use Rattle.sp_rules.specs.Rel.{RelState, are_ends, delivery, flow_in, is_from, is_one_of, is_over, is_to, judge_ack, judge_ack_of, judge_rel, judge_rel_of}
use Rattle.sp_rules.specs.Rel.{closed, plain_ack, served, settled}
use Rattle.sp_rules.specs.declared.kflow.FlowKind.{FlowKind}
use Rattle.sp_rules.specs.declared.kflow.FlowKind.TheVariants.{Plain, Paths}
use Rattle.sp_rules.specs.declared.lives.Life.{Life}
use Rattle.sp_rules.specs.declared.rel.AckJudged.TheVariants as acks
use Rattle.sp_rules.specs.declared.rel.RelJudged.TheVariants as rels
use Rattle.laws_node.specs.Flows.{IsRelOf}
use Rattle.sp_runs.specs.Told.{delivered_by}
use Rattle.laws_runs.proofs.FlowFacts.{flow_of}
use Rattle.laws_runs.proofs.Lists.{both}

-- ---- kinds

-- two kinds are the same, or not
pub cases_kind : (a b : FlowKind) → (a ≡ b) ⊎ (a ≡ b → ⊥)
cases_kind Plain Plain = inl refl
cases_kind Plain Paths = inr (λ e. cc)
cases_kind Paths Plain = inr (λ e. cc)
cases_kind Paths Paths = inl refl

-- the flows that were put there
pub flows_own : (kind : FlowKind) (r : RelState) (p : Parts) → flows_of kind (with_flows kind r p) ≡ r
flows_own Plain r p = refl
flows_own Paths r p = refl

-- those of the other kind stay
pub flows_apart : (kind k : FlowKind) (r : RelState) (p : Parts) → (k ≡ kind → ⊥) → flows_of kind (with_flows k r p) ≡ flows_of kind p
flows_apart Plain Plain r p apart = absurd (apart refl)
flows_apart Plain Paths r p apart = refl
flows_apart Paths Plain r p apart = refl
flows_apart Paths Paths r p apart = absurd (apart refl)

-- also where more than the flows changes beside them
pub paths_apart : (kind : FlowKind) (p : Parts) (f : KState) → (Paths ≡ kind → ⊥) → flows_of kind (record p { kflow = f }) ≡ flows_of kind p
paths_apart Plain p f apart = refl
paths_apart Paths p f apart = absurd (apart refl)

-- what has the same parts has the same flows
pub flows_same : (kind : FlowKind) (p q : Parts) → q.rel ≡ p.rel → q.kflow ≡ p.kflow → flows_of kind q ≡ flows_of kind p
flows_same Plain p q plain paths = plain
flows_same Paths p q plain paths = ap (λ (k : KState). k.flows) paths

-- where others are removed
pub closed_flows : (kind : FlowKind) (p : Parts) (least : List ℕ) (gone : List NodeId)
    → flows_of kind (parts.closed p least gone) ≡ closed (flows_of kind p) gone
closed_flows Plain p least gone = refl
closed_flows Paths p least gone = refl

-- after a poll
pub polled_flows : (kind : FlowKind) (f : Fixed) (p : Parts) (v : NodeId) → flows_of kind (polled f p v) ≡ served (flows_of kind p) v
polled_flows Plain f p v = refl
polled_flows Paths f p v = refl

-- rows stay where another life of a neighbour begins
pub unheard_rows : (kind : FlowKind) (v : NodeId) (p : Parts)
    → ((flows_of kind (unheard v p)).me ≡ (flows_of kind p).me) × ((flows_of kind (unheard v p)).flows ≡ (flows_of kind p).flows)
    × ((flows_of kind (unheard v p)).removed ≡ (flows_of kind p).removed)
unheard_rows Plain v p = (refl, refl, refl)
unheard_rows Paths v p = (refl, refl, refl)

-- an acknowledgement of the other kind leaves them
pub settled_apart : (arts : Arts) (kind k : FlowKind) (n : NodeState) (o : Option Ack) (r : Option SendRefused) → (k ≡ kind → ⊥)
    → flows_of kind (settled_by arts k n o r).parts ≡ flows_of kind n.parts
settled_apart arts kind k n None r apart = refl
settled_apart arts kind k n (Some ack) (Some refusal) apart = refl
settled_apart arts kind k n (Some ack) None apart =
    flows_apart kind k (settled (flows_of k n.parts) (signed_now arts n (ack_body k ack))) n.parts apart

-- no flow with a removed end is active
pub obeys_at : (kind : FlowKind) (n : NodeState) → Obeys n → All (FlowObeys (flows_of kind n.parts).removed) (flows_of kind n.parts).flows
obeys_at Plain n h = subst (λ (us : List NodeId). All (FlowObeys us) n.parts.rel.flows) (sym h.rel) h.flows
obeys_at Paths n h = subst (λ (us : List NodeId). All (FlowObeys us) n.parts.kflow.flows.flows) (sym h.kflow) h.on_paths

-- ---- what is told

-- the delivery of a message of this kind
pub delivered_is : (kind : FlowKind) (s : NodeId) (body : Body) → IsRelOf kind body
    → delivered_by kind s (delivery body) ≡ cond ((flow_said body).src.0 == s.0) ((number_said body, payload_of body) ∷ []) []
delivered_is Plain s (bodies.Rel m) is = refl
delivered_is Paths s (bodies.Krel m) is = refl
delivered_is Plain s (bodies.Prio m) is = absurd is
delivered_is Plain s (bodies.Ack m) is = absurd is
delivered_is Plain s (bodies.Weight m) is = absurd is
delivered_is Plain s (bodies.Krel m) is = absurd is
delivered_is Plain s (bodies.Kack m) is = absurd is
delivered_is Plain s (bodies.Epoch m) is = absurd is
delivered_is Paths s (bodies.Prio m) is = absurd is
delivered_is Paths s (bodies.Rel m) is = absurd is
delivered_is Paths s (bodies.Ack m) is = absurd is
delivered_is Paths s (bodies.Weight m) is = absurd is
delivered_is Paths s (bodies.Kack m) is = absurd is
delivered_is Paths s (bodies.Epoch m) is = absurd is

-- that of a message of the other kind says nothing of this one
pub delivered_apart : (kind k : FlowKind) (s : NodeId) (body : Body) → IsRelOf k body → (k ≡ kind → ⊥) → delivered_by kind s (delivery body) ≡ []
delivered_apart Plain Plain s body is apart = absurd (apart refl)
delivered_apart Paths Paths s body is apart = absurd (apart refl)
delivered_apart Paths Plain s (bodies.Rel m) is apart = refl
delivered_apart Paths Plain s (bodies.Prio m) is apart = absurd is
delivered_apart Paths Plain s (bodies.Ack m) is apart = absurd is
delivered_apart Paths Plain s (bodies.Weight m) is apart = absurd is
delivered_apart Paths Plain s (bodies.Krel m) is apart = absurd is
delivered_apart Paths Plain s (bodies.Kack m) is apart = absurd is
delivered_apart Paths Plain s (bodies.Epoch m) is apart = absurd is
delivered_apart Plain Paths s (bodies.Krel m) is apart = refl
delivered_apart Plain Paths s (bodies.Prio m) is apart = absurd is
delivered_apart Plain Paths s (bodies.Rel m) is apart = absurd is
delivered_apart Plain Paths s (bodies.Ack m) is apart = absurd is
delivered_apart Plain Paths s (bodies.Weight m) is apart = absurd is
delivered_apart Plain Paths s (bodies.Kack m) is apart = absurd is
delivered_apart Plain Paths s (bodies.Epoch m) is apart = absurd is

-- ---- what was judged new

-- a flow between nodes that are there hasn't ended
pub both_there : (r : RelState) (flow : Flow) (src dst : NodeId) → are_ends r flow src dst ≡ true → is_over r.removed (flow_of src dst) ≡ false
both_there r flow src dst e =
    let nodes = both_nodes r flow src dst e in
    let one = stays (is_one_of r.nodes src) (is_one_of r.removed src) nodes.0 in
    let two = stays (is_one_of r.nodes dst) (is_one_of r.removed dst) nodes.1 in
    rw (one, two) refl
  where
    stays : (a b : Bool) → (a && not b) ≡ true → b ≡ false
    stays true false e = refl
    stays true true e = absurd (cc)
    stays false b e = absurd (cc)

-- the boots of a dated message are those that are held
dated_boots : (lives : List Life) (flow : Flow) (sboot dboot : ℕ) → are_held lives flow sboot dboot ≡ true
    → ◌≡◌ {A = ℕ × ℕ} (sboot, dboot) (held_boot lives flow.src, held_boot lives flow.dst)
dated_boots lives flow sboot dboot e =
    let two = both (sboot == held_boot lives flow.src) (dboot == held_boot lives flow.dst) e in
    ap₂ (λ (a b : ℕ). (a, b)) (eqb-true _ _ two.0) (eqb-true _ _ two.1)

-- an acknowledgement comes from elsewhere, and its source sent as much
pub record GotAck (r : RelState) (body : Body) : Type 0 where
  pub not_to : r.me ≡ (flow_said body).dst → ⊥
  pub at_source : r.me ≡ (flow_said body).src → number_said body ≤ (flow_in r.flows (flow_said body)).at.have
  pub free : is_over r.removed (flow_said body) ≡ false
  pub boots : (lives : List Life) → is_dated lives body ≡ true → boots_said body ≡ (held_boot lives (flow_said body).src, held_boot lives (flow_said body).dst)

pub got_ack : (r : RelState) (flow : Flow) (body : Body) → judge_ack_of r flow body ≡ acks.New → GotAck r body
got_ack r flow body new = go body new
  where
    at_most : (t : Bool) (have seq : ℕ) → (t && nat_lt have seq) ≡ false → t ≡ true → seq ≤ have
    at_most true have seq e is = grind (arith, nat_tests)
    at_most false have seq e is = absurd (cc)

    got : (body : Body) (a : Ack) → flow_said body ≡ flow_of a.src a.dst → number_said body ≡ a.seq → judge_ack r flow a ≡ acks.New
        → ((lives : List Life) → is_dated lives body ≡ true → boots_said body ≡ (held_boot lives (flow_said body).src, held_boot lives (flow_said body).dst))
        → GotAck r body
    got body a said number new boots =
        let facts = new_ack r flow a new in
        let same : flow ≡ flow_said body = same_flow r flow a.src a.dst facts.ends ∙ sym said in
        let relay : is_to r (flow_said body) ≡ false = subst (λ fl. is_to r fl ≡ false) same facts.relay in
        let sent : (is_from r (flow_said body) && nat_lt (flow_in r.flows (flow_said body)).at.have a.seq) ≡ false =
        subst (λ fl. (is_from r fl && nat_lt (flow_in r.flows fl).at.have a.seq) ≡ false) same facts.sent in
        record {
          not_to = λ e. absurd (let yes : is_to r (flow_said body) ≡ true = eq-eqb _ _ (ap (λ (v : NodeId). v.0) e) in
              let f : true ≡ false = sym yes ∙ relay in cc);
          at_source = λ e. subst (λ (n : ℕ). n ≤ (flow_in r.flows (flow_said body)).at.have) (sym number)
              (at_most (is_from r (flow_said body)) _ a.seq sent (eq-eqb _ _ (ap (λ (v : NodeId). v.0) e)));
          free = subst (λ fl. is_over r.removed fl ≡ false) (sym said) (both_there r flow a.src a.dst facts.ends);
          boots = boots;
        }

    go : (body : Body) → judge_ack_of r flow body ≡ acks.New → GotAck r body
    go (bodies.Ack a) new = got (bodies.Ack a) a refl refl new (λ lives e. dated_boots lives (flow_of a.src a.dst) a.sboot a.dboot e)
    go (bodies.Kack a) new = got (bodies.Kack a) (plain_ack a) refl refl new (λ lives e. dated_boots lives (flow_of a.src a.dst) a.sboot a.dboot e)
    go (bodies.Rel b) new = absurd (cc)
    go (bodies.Prio b) new = absurd (cc)
    go (bodies.Weight b) new = absurd (cc)
    go (bodies.Krel b) new = absurd (cc)
    go (bodies.Epoch b) new = absurd (cc)

-- a message comes from elsewhere, and is the next
pub record GotRel (r : RelState) (body : Body) : Type 0 where
  pub not_from : r.me ≡ (flow_said body).src → ⊥
  pub next : number_said body ≡ (flow_in r.flows (flow_said body)).at.have + 1
  pub free : is_over r.removed (flow_said body) ≡ false
  pub boots : (lives : List Life) → is_dated lives body ≡ true → boots_said body ≡ (held_boot lives (flow_said body).src, held_boot lives (flow_said body).dst)

pub got_rel : (r : RelState) (flow : Flow) (body : Body) → judge_rel_of r flow body ≡ rels.New → GotRel r body
got_rel r flow body new = go body new
  where
    got : (body : Body) (src dst : NodeId) (seq : ℕ) → flow_said body ≡ flow_of src dst → number_said body ≡ seq → judge_rel r flow src dst seq ≡ rels.New
        → ((lives : List Life) → is_dated lives body ≡ true → boots_said body ≡ (held_boot lives (flow_said body).src, held_boot lives (flow_said body).dst))
        → GotRel r body
    got body src dst seq said number new boots =
        let facts = new_rel r flow src dst seq new in
        let same : flow ≡ flow_said body = same_flow r flow src dst facts.ends ∙ sym said in
        let other : is_from r (flow_said body) ≡ false = subst (λ fl. is_from r fl ≡ false) same facts.other in
        record {
          not_from = λ e. absurd (let yes : is_from r (flow_said body) ≡ true = eq-eqb _ _ (ap (λ (v : NodeId). v.0) e) in
              let f : true ≡ false = sym yes ∙ other in cc);
          next = number ∙ facts.next ∙ ap (λ fl. (flow_in r.flows fl).at.have + 1) same;
          free = subst (λ fl. is_over r.removed fl ≡ false) (sym said) (both_there r flow src dst facts.ends);
          boots = boots;
        }

    go : (body : Body) → judge_rel_of r flow body ≡ rels.New → GotRel r body
    go (bodies.Rel m) new = got (bodies.Rel m) m.src m.dst m.seq refl refl new (λ lives e. dated_boots lives (flow_of m.src m.dst) m.sboot m.dboot e)
    go (bodies.Krel m) new = got (bodies.Krel m) m.src m.dst m.seq refl refl new (λ lives e. dated_boots lives (flow_of m.src m.dst) m.sboot m.dboot e)
    go (bodies.Ack b) new = absurd (cc)
    go (bodies.Kack b) new = absurd (cc)
    go (bodies.Prio b) new = absurd (cc)
    go (bodies.Weight b) new = absurd (cc)
    go (bodies.Epoch b) new = absurd (cc)
