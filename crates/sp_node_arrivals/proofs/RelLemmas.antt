-- What was made ready of a slot stays so: a report changes no flow, and a new acknowledgement or message no judgement that forbids.
use Rattle.std.proofs.Common.{◌≡◌, ◌≤◌, ℕ, ◌+◌, ◌==◌, ◌&&◌, nat_le, nat_lt, Bool, true, false, not, List, [], ◌∷◌, length, Option, None, Some}
use Rattle.std.proofs.Common.{refl, sym, ap, ◌∙◌, subst, arith, cond}
use Rattle.std.proofs.lemmas.Bool.Decides.{nat_tests}
use Rattle.std.specs.Prelude.{IfSome, ◌||◌, drop, is_some, map}
use Rattle.std.specs.List.{slice_get}
use Rattle.laws_node.proofs.Handles.{new_ack, new_rel}
use Rattle.sp_base.proofs.FewLemmas.{drop_first, drop_past, split_is}
use Rattle.sp_base.specs.Few.{split_first}
use Rattle.sp_base.specs.declared.id.Flow.{Flow}
use Rattle.sp_base.specs.declared.id.NodeId.{NodeId}
use Rattle.sp_frame.specs.Views.{as_object}
use Rattle.sp_frame.specs.declared.object.ObjectRef.{ObjectRef}
use Rattle.sp_msg.specs.Bodies.{payload_of}
use Rattle.sp_msg.specs.declared.body.Body.{Body}
use Rattle.sp_msg.specs.declared.body.Body.TheVariants as bodies
use Rattle.sp_msg.specs.declared.kept.Kept.{Kept}
use Rattle.sp_rel.proofs.SeatLemmas.{stays_seated}
use Rattle.sp_rel.specs.Seated.{IsSeated}
use Rattle.sp_rel.specs.Seats.{SeatState}
use Rattle.sp_rules.proofs.FlowJudged.{found_ends}
use Rattle.sp_rules.specs.Answers.{ack_answer, is_new, rel_answer}
use Rattle.sp_rules.specs.Flow.{FlowState, acknowledged_by, ends, flow_said, is_flow, is_full, pushed, received}
use Rattle.sp_rules.specs.Handle.{ack_handled, ack_item, rel_handled, rel_item, reported_where}
use Rattle.sp_rules.specs.Lives.{is_dated}
use Rattle.sp_rules.specs.Parts.{Fixed, Parts, flows_of}
use Rattle.sp_rules.specs.Rel.{RelState, admit_ack, admit_rel, are_ends, flow_in, is_from, is_to, judge_ack_of, judge_rel, judge_rel_of}
use Rattle.sp_rules.specs.Rel.{peer_in, put_flow, reported, told, with_flow, with_peer}
use Rattle.sp_rules.specs.declared.kflow.FlowKind.{FlowKind}
use Rattle.sp_rules.specs.declared.kflow.FlowKind.TheVariants.{Plain, Paths}
use Rattle.sp_rules.specs.declared.lives.Life.{Life}
use Rattle.sp_rules.specs.declared.rel.AckJudged.{AckJudged}
use Rattle.sp_rules.specs.declared.rel.AckJudged.TheVariants as acks
use Rattle.sp_rules.specs.declared.rel.RelJudged.{RelJudged}
use Rattle.sp_rules.specs.declared.rel.RelJudged.TheVariants as rels
use Rattle.sp_node_arrivals.proofs.KindLemmas.{flows_where}
use Rattle.sp_node_arrivals.specs.Ack.{IsAckReady}
use Rattle.sp_node_arrivals.specs.Rel.{AreRelsReady, Ground, IsRelReady, StaysReady, may_be_new}

-- ---- a report

reported_either : (P : RelState → Type 0) (r : RelState) (v : NodeId) (flow : Flow) (base have : ℕ)
    → P (with_peer r v (told (peer_in r.peers v) flow base have)) → P r → P (reported r v flow base have)
reported_either P r v flow base have moved same = go (flow_in r.flows flow).active
  where
    go : (t : Bool) → P (cond t (with_peer r v (told (peer_in r.peers v) flow base have)) r)
    go true = moved
    go false = same

pub rel_reported : (acked : Bool) (g : Ground) (r : RelState) (v : NodeId) (of : Flow) (base have : ℕ) (flow : Flow) (o : Kept)
    (ready : Option (Kept × List ℕ × SeatState)) → IsRelReady acked g r flow o ready → IsRelReady acked g
    (reported r v of base have) flow o ready
rel_reported acked g r v of base have flow o ready is =
    reported_either (λ s. IsRelReady acked g s flow o ready) r v of base have
    (record { copy = is.copy; payload = is.payload; seat = is.seat; right = is.right }) is

pub rels_reported : (moved : Bool) (g : Ground) (r : RelState) (v : NodeId) (of : Flow) (base have : ℕ) (flow : Flow) (os : List Kept)
    (readies : List (Option (Kept × List ℕ × SeatState))) → AreRelsReady moved g r flow os readies
    → AreRelsReady moved g (reported r v of base have) flow os readies
rels_reported moved g r v of base have flow [] readies are = are
rels_reported moved g r v of base have flow (o ∷ os) [] are = are
rels_reported moved g r v of base have flow (o ∷ os) (ready ∷ readies) are = (
  rel_reported moved g r v of base have flow o ready are.0,
  rels_reported (moved || is_some ready) g r v of base have flow os readies are.1,
)

-- what is said of an acknowledgement stays the same after a report
ack_judged : (r : RelState) (v : NodeId) (of : Flow) (base have : ℕ) (flow : Flow) (body : Body)
    → judge_ack_of (reported r v of base have) flow body ≡ judge_ack_of r flow body
ack_judged r v of base have flow body =
    reported_either (λ s. judge_ack_of s flow body ≡ judge_ack_of r flow body) r v of base have (go body) refl
  where
    go : (body : Body) → judge_ack_of (with_peer r v (told (peer_in r.peers v) of base have)) flow body ≡ judge_ack_of r flow body
    go (bodies.Ack a) = refl
    go (bodies.Kack a) = refl
    go (bodies.Rel m) = refl
    go (bodies.Krel m) = refl
    go (bodies.Prio m) = refl
    go (bodies.Weight m) = refl
    go (bodies.Epoch m) = refl

pub ack_reported : (fixed : Fixed) (lives : List Life) (r : RelState) (v : NodeId) (of : Flow) (base have : ℕ) (flow : Flow) (ack : Option Kept)
    (ready : Option (Kept × SeatState)) → IfSome ack (λ o. IsAckReady fixed lives r flow o ready)
    → IfSome ack (λ o. IsAckReady fixed lives (reported r v of base have) flow o ready)
ack_reported fixed lives r v of base have flow None ready is = tt
ack_reported fixed lives r v of base have flow (Some o) ready is = record {
  copy = is.copy;
  seat = reported_either (λ s. IfSome ready (λ a. IsSeated s flow a.1)) r v of base have is.seat is.seat;
  right = λ dated new. is.right dated (sym (ack_judged r v of base have flow o.body) ∙ new);
}

-- the same of a report that is dropped where its boots aren't held
where_reported : (P : RelState → Type 0) (kind : FlowKind) (held : Bool) (p : Parts) (v : NodeId) (of : Flow) (base have : ℕ)
    → P (reported (flows_of kind p) v of base have) → P (flows_of kind p) → P (flows_of kind (reported_where kind held v of base have p))
where_reported P Plain true p v of base have there same = there
where_reported P Plain false p v of base have there same = same
where_reported P Paths true p v of base have there same = there
where_reported P Paths false p v of base have there same = same

rels_where : (kind : FlowKind) (held moved : Bool) (g : Ground) (p : Parts) (v : NodeId) (of : Flow) (base have : ℕ) (flow : Flow) (os : List Kept)
    (readies : List (Option (Kept × List ℕ × SeatState))) → AreRelsReady moved g (flows_of kind p) flow os readies
    → AreRelsReady moved g (flows_of kind (reported_where kind held v of base have p)) flow os readies
rels_where kind held moved g p v of base have flow os readies are =
    where_reported (λ s. AreRelsReady moved g s flow os readies) kind held p v of base have
    (rels_reported moved g (flows_of kind p) v of base have flow os readies are) are

pub ack_where : (kind : FlowKind) (held : Bool) (fixed : Fixed) (lives : List Life) (p : Parts) (v : NodeId) (of : Flow) (base have : ℕ) (flow : Flow)
    (ack : Option Kept) (ready : Option (Kept × SeatState)) → IfSome ack (λ o. IsAckReady fixed lives (flows_of kind p) flow o ready)
    → IfSome ack (λ o. IsAckReady fixed lives (flows_of kind (reported_where kind held v of base have p)) flow o ready)
ack_where kind held fixed lives p v of base have flow ack ready is =
    where_reported (λ s. IfSome ack (λ o. IsAckReady fixed lives s flow o ready)) kind held p v of base have
    (ack_reported fixed lives (flows_of kind p) v of base have flow ack ready is) is

-- ---- a row that moves on

-- no flow has less after a row moved on
have_stays : (moves : FlowState → FlowState) → ((f : FlowState) → ends (moves f) ≡ ends f) → ((f : FlowState) → f.at.have ≤ (moves f).at.have)
    → (flows : List FlowState) (k flow : Flow) → (flow_in flows flow).at.have ≤ (flow_in (put_flow flows k (moves (flow_in flows k))) flow).at.have
have_stays moves same more [] k flow = omega arith
have_stays moves same more (x ∷ flows) k flow = go (is_flow k x) (is_flow flow x) refl (have_stays moves same more flows k flow)
  where
    its_own : is_flow flow (moves x) ≡ is_flow flow x
    its_own = ap (λ (e : Flow). (e.src.0 == flow.src.0) && (e.dst.0 == flow.dst.0)) (same x)

    go : (t u : Bool) → is_flow flow x ≡ u → (flow_in flows flow).at.have ≤ (flow_in (put_flow flows k (moves (flow_in flows k))) flow).at.have
        → (cond u x (flow_in flows flow)).at.have
        ≤ (flow_in (cond t (moves (cond t x (flow_in flows k)) ∷ flows) (x ∷ put_flow flows k (moves (cond t x (flow_in flows k))))) flow).at.have
    go true true there others = rw (its_own, there) (more x)
    go true false there others = rw (its_own, there) (omega arith)
    go false true there others = rw there (omega arith)
    go false false there others = rw there others

-- what waits for room, or for others before it
waits : (a b c : Bool) → may_be_new true (cond a rels.Gap (cond b rels.Full (cond c rels.InboxFull rels.New))) ≡ true
waits true b c = refl
waits false true c = refl
waits false false true = refl
waits false false false = refl

-- what may be new is of the right ends, and neither old nor ahead
record Passes (ends old ahead : Bool) : Type 0 where
  right : ends ≡ true
  young : old ≡ false
  other : ahead ≡ false

passes : (moved e o f : Bool) (j : RelJudged) → may_be_new moved (cond (not e) rels.BadEnd (cond o rels.Old (cond f rels.Ahead j))) ≡ true → Passes e o f
passes moved true false false j new = record { right = refl; young = refl; other = refl }
passes moved true false true j new = absurd (cc)
passes moved true true f j new = absurd (cc)
passes moved false o f j new = absurd (cc)

not_old : (seq have later : ℕ) → nat_le seq later ≡ false → have ≤ later → nat_le seq have ≡ false
not_old seq have later young more = grind (arith, nat_tests)

-- so is what may be new after a row moved on
may_have_been : (moved : Bool) (r : RelState) (k flow : Flow) (f : FlowState) (body : Body)
    → (flow_in r.flows flow).at.have ≤ (flow_in (put_flow r.flows k f) flow).at.have → may_be_new moved (judge_rel_of (with_flow r k f) flow body) ≡ true
    → may_be_new true (judge_rel_of r flow body) ≡ true
may_have_been moved r k flow f body more new = go body new
  where
    of_ends : (src dst : NodeId) (seq : ℕ) → may_be_new moved (judge_rel (with_flow r k f) flow src dst seq) ≡ true
        → may_be_new true (judge_rel r flow src dst seq) ≡ true
    of_ends src dst seq new =
        let now = flow_in (put_flow r.flows k f) flow in
        let is = passes moved (are_ends r flow src dst) (nat_le seq now.at.have) (is_from r flow) _ new in
        let was = flow_in r.flows flow in
        let young : nat_le seq was.at.have ≡ false = not_old seq was.at.have now.at.have is.young more in
        rw (is.right, young, is.other) (waits (nat_lt (was.at.have + 1) seq) (is_full r.bound was) (is_to r flow && (length was.inbox == r.bound)))

    go : (body : Body) → may_be_new moved (judge_rel_of (with_flow r k f) flow body) ≡ true → may_be_new true (judge_rel_of r flow body) ≡ true
    go (bodies.Rel m) new = of_ends m.src m.dst m.seq new
    go (bodies.Krel m) new = of_ends m.src m.dst m.seq new
    go (bodies.Prio m) new = absurd (cc)
    go (bodies.Ack m) new = absurd (cc)
    go (bodies.Weight m) new = absurd (cc)
    go (bodies.Kack m) new = absurd (cc)
    go (bodies.Epoch m) new = absurd (cc)

-- what may be new by its boots and its edge, and by less
weaker : (dated over less more : Bool) → (less ≡ true → more ≡ true) → (dated && (over && less)) ≡ true → (dated && (over && more)) ≡ true
weaker true true less more follows new = follows new
weaker true false less more follows new = absurd (cc)
weaker false over less more follows new = absurd (cc)

seat_after : (r : RelState) (k flow : Flow) (f : FlowState) (ready : Option (Kept × List ℕ × SeatState)) → ends f ≡ k → f.active ≡ true
    → IfSome ready (λ m. IsSeated r flow m.2) → IfSome ready (λ m. IsSeated (with_flow r k f) flow m.2)
seat_after r k flow f None same on seated = tt
seat_after r k flow f (Some m) same on seated = stays_seated r k flow f m.2 same on seated

moved_on : (moved : Bool) (g : Ground) (r : RelState) (k flow : Flow) (f : FlowState) (o : Kept)
    (ready : Option (Kept × List ℕ × SeatState))
    → (flow_in r.flows flow).at.have ≤ (flow_in (put_flow r.flows k f) flow).at.have → ends f ≡ k → f.active ≡ true → IsRelReady true g r flow o ready
    → IsRelReady moved g (with_flow r k f) flow o ready
moved_on moved g r k flow f o ready more same on is = record {
  copy = is.copy;
  payload = is.payload;
  seat = seat_after r k flow f ready same on is.seat;
  right = λ new. is.right (weaker (is_dated g.lives o.body) (g.over o.body) (may_be_new moved (judge_rel_of (with_flow r k f) flow o.body))
      (may_be_new true (judge_rel_of r flow o.body)) (may_have_been moved r k flow f o.body more) new);
}

-- ---- where nothing changed

wider : (new moved : Bool) (j : RelJudged) → may_be_new moved j ≡ true → may_be_new (new || moved) j ≡ true
wider true moved rels.New e = refl
wider true moved rels.Gap e = refl
wider true moved rels.Full e = refl
wider true moved rels.InboxFull e = refl
wider true moved rels.BadEnd e = absurd (cc)
wider true moved rels.Old e = absurd (cc)
wider true moved rels.Ahead e = absurd (cc)
wider false moved j e = e

pub nothing_comes : (new : Bool) (g : Ground) (flow : Flow) (r : RelState) → StaysReady new g flow r r
nothing_comes new g flow r moved o ready is = record {
  copy = is.copy;
  payload = is.payload;
  seat = is.seat;
  right = λ e. is.right (weaker (is_dated g.lives o.body) (g.over o.body) (may_be_new moved (judge_rel_of r flow o.body))
      (may_be_new (new || moved) (judge_rel_of r flow o.body)) (wider new moved (judge_rel_of r flow o.body)) e);
}

-- ---- an acknowledgement, and a message

-- an object changes the flows only where it was ready
stays_where : (t new : Bool) (g : Ground) (flow : Flow) (old left : RelState) → (t ≡ true → new ≡ true) → StaysReady true g flow old left
    → StaysReady new g flow old (cond t left old)
stays_where true true g flow old left only stays = stays
stays_where true false g flow old left only stays = absurd (let no : false ≡ true = only refl in cc)
stays_where false new g flow old left only stays = nothing_comes new g flow old

ack_moves : (r : RelState) (ack : Kept) (flow : Flow) → (flow_in r.flows flow).at.have ≤ (flow_in (admit_ack r ack).flows flow).at.have
ack_moves r ack flow = have_stays (λ f. acknowledged_by f ack) (λ f. refl) (λ f. omega arith) r.flows (flow_said ack.body) flow

ack_admitted : (g : Ground) (r : RelState) (ack : Kept) (flow : Flow) → StaysReady true g flow r (admit_ack r ack)
ack_admitted g r ack flow moved o ready is =
    let k = flow_said ack.body in
    moved_on moved g r k flow (acknowledged_by (flow_in r.flows k) ack) o ready (ack_moves r ack flow) (found_ends r.flows k) refl is

-- the acknowledgement is new where it is ready, names the boots that are held and is judged so, and else nothing changed
pub stays_ready : (kind : FlowKind) (acked dated : Bool) (g : Ground) (flow : Flow) (judged : AckJudged) (ack : Kept) (p : Parts)
    → StaysReady acked g flow (flows_of kind p) (flows_of kind (ack_handled kind (ack_answer acked dated judged) ack p).parts)
stays_ready kind acked dated g flow judged ack p =
    let r = flows_of kind p in
    let t = is_new (ack_item kind (ack_answer acked dated judged)) in
    subst (λ (s : RelState). StaysReady acked g flow r s) (sym (flows_where kind t (admit_ack r ack) p))
    (stays_where t acked g flow r (admit_ack r ack) (λ new. (new_ack kind acked dated judged new).0) (ack_admitted g r ack flow))

-- the row of a message's flow once it was taken
taken_row : Bool → Kept → FlowState → FlowState
taken_row here message f = cond here (received f (payload_of message.body)) (pushed f message)

row_ends : (here : Bool) (message : Kept) (f : FlowState) → ends (taken_row here message f) ≡ ends f
unfolding taken_row
row_ends true message f = refl
row_ends false message f = refl

row_has : (here : Bool) (message : Kept) (f : FlowState) → f.at.have ≤ (taken_row here message f).at.have
unfolding taken_row
row_has true message f = omega arith
row_has false message f = omega arith

row_on : (here : Bool) (message : Kept) (f : FlowState) → (taken_row here message f).active ≡ true
unfolding taken_row
row_on true message f = refl
row_on false message f = refl

rel_admitted : (g : Ground) (r : RelState) (message : Kept) (flow : Flow) → StaysReady true g flow r (admit_rel r message)
unfolding taken_row
rel_admitted g r message flow moved o ready is =
    let k = flow_said message.body in
    let here = is_to r k in
    let f = flow_in r.flows k in
    moved_on moved g r k flow (taken_row here message f) o ready
    (have_stays (taken_row here message) (row_ends here message) (row_has here message) r.flows k flow)
    (row_ends here message f ∙ found_ends r.flows k) (row_on here message f) is

-- the message is new where it is ready, names the boots that are held, came over an edge of its mask and is judged so, and else nothing changed
pub rel_stays_ready : (kind : FlowKind) (new dated over : Bool) (g : Ground) (flow : Flow) (judged : RelJudged) (message : Kept) (p : Parts)
    → StaysReady new g flow (flows_of kind p) (flows_of kind (rel_handled kind (rel_answer new dated over judged) message p).parts)
rel_stays_ready kind new dated over g flow judged message p =
    let r = flows_of kind p in
    let t = is_new (rel_item kind (rel_answer new dated over judged)) in
    subst (λ (s : RelState). StaysReady new g flow r s) (sym (flows_where kind t (admit_rel r message) p))
    (stays_where t new g flow r (admit_rel r message) (λ is. (new_rel kind new dated over judged is).0) (rel_admitted g r message flow))

-- what is ready answers as the signature does, since it is asked only where the message may be new
pub rel_answered : (ready right dated over : Bool) (judged : RelJudged) → ((dated && (over && may_be_new false judged)) ≡ true → ready ≡ right)
    → rel_answer ready dated over judged ≡ rel_answer right dated over judged
rel_answered ready right true true rels.New same = ap (λ (b : Bool). rel_answer b true true rels.New) (same refl)
rel_answered ready right true false rels.New same = refl
rel_answered ready right false over rels.New same = refl
rel_answered ready right dated over rels.BadEnd same = refl
rel_answered ready right dated over rels.Old same = refl
rel_answered ready right dated over rels.Ahead same = refl
rel_answered ready right dated over rels.Gap same = refl
rel_answered ready right dated over rels.Full same = refl
rel_answered ready right dated over rels.InboxFull same = refl

pub ack_answered : (ready right dated : Bool) (judged : AckJudged) → (dated ≡ true → judged ≡ acks.New → ready ≡ right)
    → ack_answer ready dated judged ≡ ack_answer right dated judged
ack_answered ready right true acks.New same = ap (λ (b : Bool). ack_answer b true acks.New) (same refl refl)
ack_answered ready right false acks.New same = refl
ack_answered ready right dated acks.BadEnd same = refl
ack_answered ready right dated acks.Old same = refl
ack_answered ready right dated acks.Ahead same = refl

-- ---- all messages of a slot

-- all that come after an object are ready after it
pub rels_stay : (new : Bool) (g : Ground) (flow : Flow) (old left : RelState) → StaysReady new g flow old left
    → (moved : Bool) (os : List Kept) (readies : List (Option (Kept × List ℕ × SeatState))) → AreRelsReady (new || moved) g old flow os readies
    → AreRelsReady moved g left flow os readies
rels_stay new g flow old left stays moved [] readies are = are
rels_stay new g flow old left stays moved (o ∷ os) [] are = are
rels_stay true g flow old left stays moved (o ∷ os) (ready ∷ readies) are =
    (stays moved o ready are.0, rels_stay true g flow old left stays (moved || is_some ready) os readies are.1)
rels_stay false g flow old left stays moved (o ∷ os) (ready ∷ readies) are =
    (stays moved o ready are.0, rels_stay false g flow old left stays (moved || is_some ready) os readies are.1)

or_false : (b : Bool) → (b || false) ≡ b
or_false true = refl
or_false false = refl

-- from the first of them on
pub first_stays : (new : Bool) (g : Ground) (flow : Flow) (old left : RelState) (os : List Kept)
    (readies : List (Option (Kept × List ℕ × SeatState))) → StaysReady new g flow old left → AreRelsReady new g old flow os readies
    → AreRelsReady false g left flow os readies
first_stays new g flow old left os readies stays are =
    rels_stay new g flow old left stays false os readies
    (subst (λ (b : Bool). AreRelsReady b g old flow os readies) (sym (or_false new)) are)

-- the messages of a slot, after its report, which is dropped where its boots aren't held, and after its acknowledgement
pub slot_stays : (kind : FlowKind) (acked held : Bool) (g : Ground) (p : Parts) (mid now : RelState) (v : NodeId) (of : Flow) (base have : ℕ) (flow : Flow)
    (os : List Kept) (readies : List (Option (Kept × List ℕ × SeatState))) → mid ≡ flows_of kind (reported_where kind held v of base have p)
    → StaysReady acked g flow mid now → AreRelsReady acked g (flows_of kind p) flow os readies → AreRelsReady false g now flow os readies
slot_stays kind acked held g p mid now v of base have flow os readies is stays before =
    first_stays acked g flow mid now os readies stays
    (subst (λ (s : RelState). AreRelsReady acked g s flow os readies) (sym is)
    (rels_where kind held acked g p v of base have flow os readies before))

-- ---- one message after another

-- where nothing more is ready, no message is left
pub no_rel_ready : (moved : Bool) (g : Ground) (r : RelState) (flow : Flow) (os : List Kept)
    (readies : List (Option (Kept × List ℕ × SeatState))) → split_first readies ≡ None
    → AreRelsReady moved g r flow os readies → os ≡ []
no_rel_ready moved g r flow [] readies split are = refl
no_rel_ready moved g r flow (o ∷ os) [] split are = absurd are
no_rel_ready moved g r flow (o ∷ os) (ready ∷ readies) split are = absurd (cc)

-- where something is, a message is there
pub never_past_rel : (moved : Bool) (g : Ground) (r : RelState) (flow : Flow) (rels : List ObjectRef) (place : ℕ)
    (readies others : List (Option (Kept × List ℕ × SeatState)))
    (first : Option (Kept × List ℕ × SeatState)) → slice_get rels place ≡ None → split_first readies ≡ Some (first, others)
    → AreRelsReady moved g r flow (map as_object (drop place rels)) readies → ⊥
never_past_rel moved g r flow rels place readies others first none split are =
    let is : readies ≡ first ∷ others = split_is readies first others split in
    let left : readies ≡ [] = subst (λ (xs : List ObjectRef). AreRelsReady moved g r flow (map as_object xs) readies)
    (drop_past rels place none) are in
    let both : first ∷ others ≡ [] = sym is ∙ left in
    absurd (cc)

-- the first of both, and the others of both
pub rel_in_turn : (moved : Bool) (g : Ground) (r : RelState) (flow : Flow) (rels : List ObjectRef) (place : ℕ) (x : ObjectRef)
    (readies others : List (Option (Kept × List ℕ × SeatState)))
    (first : Option (Kept × List ℕ × SeatState)) → slice_get rels place ≡ Some x → split_first readies ≡ Some (first, others)
    → AreRelsReady moved g r flow (map as_object (drop place rels)) readies
    → IsRelReady moved g r flow (as_object x) first × AreRelsReady (moved || is_some first) g r flow
    (map as_object (drop (place + 1) rels)) others
rel_in_turn moved g r flow rels place x readies others first at_place split are =
    subst (λ (rs : List (Option (Kept × List ℕ × SeatState))). AreRelsReady moved g r flow (map as_object (x ∷ drop (place + 1) rels)) rs)
    (split_is readies first others split)
    (subst (λ (xs : List ObjectRef). AreRelsReady moved g r flow (map as_object xs) readies) (drop_first rels place x at_place) are)
