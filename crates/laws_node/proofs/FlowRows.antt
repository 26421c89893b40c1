-- The rows of flows at a node, and what of them keeps its bounds where a message or an acknowledgement comes.
use Rattle.std.proofs.Common.{◌≡◌, ◌≤◌, ℕ, ◌==◌, ◌&&◌, nat_lt, Bool, true, false, List, [], ◌∷◌, map, refl, sym, ap}
use Rattle.std.proofs.Common.{◌∙◌, subst, arith}
use Rattle.std.specs.List.{All, AllPairs}
use Rattle.std.proofs.lemmas.Bool.Decides.{nat_tests}
use Rattle.std.proofs.lemmas.List.Elements.{All-head, All-tail}
use Rattle.sp_base.specs.declared.id.Flow.{Flow}
use Rattle.sp_base.specs.declared.id.NodeId.{NodeId}
use Rattle.sp_frame.specs.Objects.{is_of}
use Rattle.sp_msg.proofs.GoodFields.{good_krel, good_rel}
use Rattle.sp_msg.specs.Bodies.{HasGoodFieldsIn, payload_of}
use Rattle.sp_msg.specs.declared.body.Ack.{Ack}
use Rattle.sp_msg.specs.declared.body.Body.{Body}
use Rattle.sp_msg.specs.declared.body.Body.TheVariants as bodies
use Rattle.sp_msg.specs.declared.kept.Kept.{Kept}
use Rattle.sp_rules.proofs.FlowJudged.{can_acknowledge, can_push, can_receive, found_ends, new_ack, new_rel, same_ends, same_flow}
use Rattle.sp_rules.specs.Changes.{CanAcknowledge, CanPush, CanReceive}
use Rattle.sp_rules.specs.Flow.{FlowState, IsReliable, IsStanding, ends, flow_said, is_flow, number_said, pushed, received}
use Rattle.sp_rules.specs.Rel.{AreStanding, RelState, admit_ack, admit_rel, flow_in, is_from}
use Rattle.sp_rules.specs.Rel.{is_to, judge_ack, judge_ack_of, judge_rel, judge_rel_of, plain_ack, put_flow}
use Rattle.sp_rules.specs.Rel.{with_flow}
use Rattle.sp_rules.specs.declared.kflow.FlowKind.{FlowKind}
use Rattle.sp_rules.specs.declared.rel.AckJudged.TheVariants as acks
use Rattle.sp_rules.specs.declared.rel.RelJudged.TheVariants as rels
use Rattle.laws_node.specs.Flows.{Differ, FlowHolds, IsRelOf, IsShort, RelHolds}
use Rattle.laws_node.specs.Sizes.{Fits, IsNode, Sizes}
use Rattle.laws_node.proofs.FlowKinds.{ack_kind, is_ack_of, is_rel_of, rel_is_reliable}
use Rattle.laws_node.proofs.FlowKinds.{rel_kind, rel_later}
use Rattle.laws_node.proofs.Flows.{acknowledged_holds, flow_more, no_flow_holds, pushed_holds, received_holds}
use Rattle.laws_node.proofs.Tables.{all_replaced, all_weaker, cond_either, cond_where, replace_keys}

-- ---- the rows

pub rel_more : (kind : FlowKind) (k : Sizes) (index more : ℕ) (r : RelState) → index ≤ more → RelHolds kind k index r → RelHolds kind k more r
rel_more kind k index more r up h = record {
  me = h.me;
  bound = h.bound;
  nodes = h.nodes;
  known = h.known;
  flows = all_weaker (FlowHolds kind k index) (FlowHolds kind k more) r.flows (λ f. flow_more kind k index more f up) h.flows;
  keys = h.keys;
  once = h.once;
}

-- a row of the flow, where there is one, is what is read of it
pub read : (kind : FlowKind) (k : Sizes) (index : ℕ) (flows : List FlowState) (flow : Flow) → IsNode k.format flow.src → IsNode k.format flow.dst
    → All (FlowHolds kind k index) flows
    → FlowHolds kind k index (flow_in flows flow)
read kind k index [] flow src dst all = no_flow_holds kind k index flow src dst
read kind k index (f ∷ flows) flow src dst all =
    cond_either (FlowHolds kind k index) (is_flow flow f) f (flow_in flows flow) (All-head (FlowHolds kind k index) f flows all)
    (read kind k index flows flow src dst (All-tail (FlowHolds kind k index) f flows all))

same_rows : (flow : Flow) (g : FlowState) → ends g ≡ flow → (flows : List FlowState) → map ends (put_flow flows flow g) ≡ map ends flows
same_rows flow g same flows = replace_keys ends (is_flow flow) g (λ f is. same_ends f flow is ∙ sym same) flows

pub with_flow_holds : (kind : FlowKind) (k : Sizes) (index more : ℕ) (r : RelState) (flow : Flow) (g : FlowState) → index ≤ more → ends g ≡ flow
    → (FlowHolds kind k index (flow_in r.flows flow) → FlowHolds kind k more g) → RelHolds kind k index r → RelHolds kind k more (with_flow r flow g)
with_flow_holds kind k index more r flow g up same new h = record {
  me = h.me;
  bound = h.bound;
  nodes = h.nodes;
  known = h.known;
  flows = all_replaced (FlowHolds kind k index) (FlowHolds kind k more) (is_flow flow) g r.flows (λ f. flow_more kind k index more f up)
      (λ f is there.
      let e = same_ends f flow is in
      new (read kind k index r.flows flow (subst (λ (fl : Flow). IsNode k.format fl.src) e there.src)
      (subst (λ (fl : Flow). IsNode k.format fl.dst) e there.dst)
      h.flows))
      h.flows;
  keys = same_rows flow g same r.flows ∙ h.keys;
  once = subst (AllPairs Differ) (sym (same_rows flow g same r.flows)) h.once;
}

pub are_standing : (kind : FlowKind) (k : Sizes) (index : ℕ) (r : RelState) → RelHolds kind k index r → AreStanding r
are_standing kind k index r h =
    rw (h.me, h.bound) (all_weaker (FlowHolds kind k index) (IsStanding k.me k.buffer) r.flows (λ f there. there.standing) h.flows)

-- ---- a message arrives

short : (format : ℕ) (body : Body) → IsReliable body → HasGoodFieldsIn format body → IsShort (payload_of body)
short format (bodies.Rel b) is good = (good_rel format b good).payload
short format (bodies.Krel b) is good = (good_krel format b good).payload
short format (bodies.Prio b) is good = absurd is
short format (bodies.Ack b) is good = absurd is
short format (bodies.Weight b) is good = absurd is
short format (bodies.Kack b) is good = absurd is
short format (bodies.Epoch b) is good = absurd is

swapped : (a b : ℕ) → (a == b) ≡ false → (b == a) ≡ false
swapped a b e = grind (arith, nat_tests)

not_mine : (kind : FlowKind) (k : Sizes) (index : ℕ) (r : RelState) (flow : Flow) → RelHolds kind k index r → is_from r flow ≡ false
    → ((flow_in r.flows flow).src.0 == k.me.0) ≡ false
not_mine kind k index r flow h other =
    ap (λ (e : Flow). e.src.0 == k.me.0) (found_ends r.flows flow)
    ∙ swapped k.me.0 flow.src.0 (subst (λ (u : NodeId). (u.0 == flow.src.0) ≡ false) h.me other)

arrives : (kind : FlowKind) (k : Sizes) (index : ℕ) (r : RelState) (m : Kept) → judge_rel_of r (flow_said m.body) m.body ≡ rels.New
    → is_from r (flow_said m.body) ≡ false → IsRelOf kind m.body → Fits k m → RelHolds kind k index r → RelHolds kind k index (admit_rel r m)
arrives kind k index r m new other is fits h =
    let flow = flow_said m.body in
    let f = flow_in r.flows flow in
    let payload = payload_of m.body in
    let mine = not_mine kind k index r flow h other in
    cond_where (λ (g : FlowState). RelHolds kind k index (with_flow r flow g)) (is_to r flow) (received f payload) (pushed f m)
    (λ here.
    let can = subst (λ (b : ℕ). CanReceive k.me b f) h.bound
    (subst (λ (u : NodeId). CanReceive u r.bound f) h.me (can_receive r m.body new (k.format, fits.fields) here)) in
    with_flow_holds kind k index index r flow (received f payload) (omega arith) (found_ends r.flows flow)
    (λ there. received_holds kind k index f payload mine can (short k.format m.body (rel_is_reliable kind m.body is) fits.fields)
    (rel_later kind k.format m.body is fits.fields) there) h)
    (λ elsewhere.
    let can = subst (λ (b : ℕ). CanPush k.me b f m) h.bound
    (subst (λ (u : NodeId). CanPush u r.bound f m) h.me (can_push r m new (k.format, fits.fields) elsewhere)) in
    with_flow_holds kind k index index r flow (pushed f m) (omega arith) (found_ends r.flows flow)
    (λ there. pushed_holds kind k index index f m (omega arith) (λ own. absurd (let e = rw mine at own in cc)) can fits is
    (λ own. absurd (let e = rw mine at own in cc)) there) h)

-- a new message of this kind
pub admit_rel_holds : (kind : FlowKind) (k : Sizes) (index : ℕ) (r : RelState) (flow : Flow) (m : Kept) → judge_rel_of r flow m.body ≡ rels.New → Fits k m
    → is_of (rel_kind kind) m.body ≡ true → RelHolds kind k index r → RelHolds kind k index (admit_rel r m)
admit_rel_holds kind k index r flow m new fits is_kind h = go m.body refl new
  where
    of_flow : (body : Body) (src dst : NodeId) (seq : ℕ) → m.body ≡ body → flow_said body ≡ record { src = src; dst = dst }
        → judge_rel r flow src dst seq ≡ rels.New → judge_rel_of r flow body ≡ rels.New → RelHolds kind k index (admit_rel r m)
    of_flow body src dst seq is said new judged =
        let facts = new_rel r flow src dst seq new in
        let same : flow ≡ flow_said m.body = same_flow r flow src dst facts.ends ∙ sym said ∙ ap flow_said (sym is) in
        let again : judge_rel_of r (flow_said m.body) m.body ≡ rels.New =
        ap (λ (fl : Flow). judge_rel_of r fl m.body) (sym same) ∙ ap (judge_rel_of r flow) is ∙ judged in
        arrives kind k index r m again (ap (is_from r) (sym same) ∙ facts.other) (is_rel_of kind m.body is_kind) fits h

    go : (body : Body) → m.body ≡ body → judge_rel_of r flow body ≡ rels.New → RelHolds kind k index (admit_rel r m)
    go (bodies.Rel b) is new = of_flow (bodies.Rel b) b.src b.dst b.seq is refl new new
    go (bodies.Krel b) is new = of_flow (bodies.Krel b) b.src b.dst b.seq is refl new new
    go (bodies.Prio b) is new = absurd (cc)
    go (bodies.Ack b) is new = absurd (cc)
    go (bodies.Weight b) is new = absurd (cc)
    go (bodies.Kack b) is new = absurd (cc)
    go (bodies.Epoch b) is new = absurd (cc)

-- ---- an acknowledgement arrives

at_most : (t : Bool) (have seq : ℕ) → (t && nat_lt have seq) ≡ false → t ≡ true → seq ≤ have
at_most true have seq e is = grind (arith, nat_tests)
at_most false have seq e is = absurd (cc)

flip : (a b : ℕ) → (a == b) ≡ true → (b == a) ≡ true
flip a b e = grind (arith, nat_tests)

mine_is_from : (kind : FlowKind) (k : Sizes) (index : ℕ) (r : RelState) (flow : Flow) → RelHolds kind k index r → (flow.src.0 == k.me.0) ≡ true
    → is_from r flow ≡ true
mine_is_from kind k index r flow h e = subst (λ (u : NodeId). (u.0 == flow.src.0) ≡ true) (sym h.me) (flip flow.src.0 k.me.0 e)

-- a new acknowledgement of this kind
pub admit_ack_holds : (kind : FlowKind) (k : Sizes) (index : ℕ) (r : RelState) (flow : Flow) (o : Kept) → judge_ack_of r flow o.body ≡ acks.New → Fits k o
    → is_of (ack_kind kind) o.body ≡ true → RelHolds kind k index r → RelHolds kind k index (admit_ack r o)
admit_ack_holds kind k index r flow o new fits is_kind h = go o.body refl new
  where
    -- whatever kind of acknowledgement it is
    admits : (a : Ack) → flow_said o.body ≡ record { src = a.src; dst = a.dst } → number_said o.body ≡ a.seq → judge_ack r flow a ≡ acks.New
        → RelHolds kind k index (admit_ack r o)
    admits a said number judged =
        let facts = new_ack r flow a judged in
        let same : flow ≡ flow_said o.body = same_flow r flow a.src a.dst facts.ends ∙ sym said in
        let again : judge_ack_of r (flow_said o.body) o.body ≡ acks.New = ap (λ (fl : Flow). judge_ack_of r fl o.body) (sym same) ∙ new in
        let f = flow_in r.flows (flow_said o.body) in
        let can = subst (λ (u : NodeId). CanAcknowledge u f o) h.me (can_acknowledge r o again (k.format, fits.fields)) in
        let sent : (is_from r (flow_said o.body) && nat_lt f.at.have a.seq) ≡ false =
        subst (λ (fl : Flow). (is_from r fl && nat_lt (flow_in r.flows fl).at.have a.seq) ≡ false) same facts.sent in
        let kept = is_ack_of kind (ends f) o.body is_kind (sym (found_ends r.flows (flow_said o.body))) in
        let from : (f.src.0 == k.me.0) ≡ true → is_from r (flow_said o.body) ≡ true =
        λ mine. mine_is_from kind k index r (flow_said o.body) h (ap (λ (e : Flow). e.src.0 == k.me.0) (sym (found_ends r.flows (flow_said o.body))) ∙ mine) in
        with_flow_holds kind k index index r (flow_said o.body) _ (omega arith) (found_ends r.flows (flow_said o.body))
        (λ there. acknowledged_holds kind k index f o
        (λ mine. let least = at_most (is_from r (flow_said o.body)) f.at.have a.seq sent (from mine) in omega (arith, number, least))
        can (record { is_ack = kept; fits = fits }) there) h

    go : (body : Body) → o.body ≡ body → judge_ack_of r flow body ≡ acks.New → RelHolds kind k index (admit_ack r o)
    go (bodies.Ack a) is judged = admits a (ap flow_said is) (ap number_said is) judged
    go (bodies.Kack a) is judged = admits (plain_ack a) (ap flow_said is) (ap number_said is) judged
    go (bodies.Prio b) is judged = absurd (cc)
    go (bodies.Rel b) is judged = absurd (cc)
    go (bodies.Weight b) is judged = absurd (cc)
    go (bodies.Krel b) is judged = absurd (cc)
    go (bodies.Epoch b) is judged = absurd (cc)
