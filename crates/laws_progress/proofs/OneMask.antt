-- All messages of a node's own flow on paths that wait have one mask, in every state.
use Rattle.std.proofs.Common.{◌≡◌, ℕ, ◌&&◌, true, false, List, [], ◌∷◌, ◌++◌, map, Option, Some, None, refl, sym, ap, subst, ◌∙◌, inl, inr}
use Rattle.std.specs.List.{All}
use Rattle.std.specs.Option.{option_and_then}
use Rattle.std.specs.Prelude.{slice_get}
use Rattle.std.proofs.lemmas.Bool.{cases_Bool}
use Rattle.std.proofs.lemmas.List.Elements.{All-append, All-cons, All-head, All-nil}
use Rattle.sp_base.specs.declared.id.Flow.{Flow}
use Rattle.sp_base.specs.declared.id.NodeId.{NodeId}
use Rattle.sp_msg.specs.Bodies.{payload_of}
use Rattle.sp_msg.specs.declared.body.Body.{Body}
use Rattle.sp_msg.specs.declared.body.Body.TheVariants as bodies
use Rattle.sp_msg.specs.declared.kept.Kept.{Kept}
use Rattle.sp_msg.specs.declared.mask.Mask.{Mask}
use Rattle.sp_rules.proofs.FlowJudged.{found_ends, same_ends}
use Rattle.sp_rules.specs.Answers.{epoch_answer, is_new}
use Rattle.sp_rules.specs.Arrivals.{arrival_at, before_document, document_at, parts_met, read_by, rises}
use Rattle.sp_rules.specs.Arts.{Arts}
use Rattle.sp_rules.specs.Flow.{FlowState, acknowledged_by, after_take, concluded, ended, ends, flow_said, is_flow, no_flow, pushed, received}
use Rattle.sp_rules.specs.Handle.{Arrival, handle, handle_all, met}
use Rattle.sp_rules.specs.Kflow.{mask_said}
use Rattle.sp_rules.specs.KflowSends.{krel_sends, mask_for}
use Rattle.sp_rules.specs.Link.{advanced}
use Rattle.sp_rules.specs.Lives.{judge_epoch}
use Rattle.sp_rules.specs.Masks.{Choice}
use Rattle.sp_rules.specs.Node.{NodeState, call_refusal, called, kept_or, link_in, signed_now, with_link}
use Rattle.sp_rules.specs.Parts.{Parts, is_signed, nodes_of}
use Rattle.sp_rules.specs.Pieces.{AckPiece, EpochPiece, Piece, PrioAckPiece, PrioPiece, RelPiece, ReportPiece, WeightPiece}
use Rattle.sp_rules.specs.Polls.{is_served, parts_after, polled}
use Rattle.sp_rules.specs.Rel as rel
use Rattle.sp_rules.specs.Rel.{RelState, admit_ack, admit_rel, due_place, ended_where, flow_in, flow_to_me, is_end, is_to, judge_rel_of, next_place, own_flow}
use Rattle.sp_rules.specs.Rel.{peer_in, pushed_in, put_flow, reported, served, served_at, settled, settled_at, told, took, with_flow, with_peer}
use Rattle.sp_rules.specs.Steps.{Datagram, Input, NodeStep, Output, Poll, Publish, SendKrel, SendPrio, SendRel, SetWeight, TakeKrel, TakePrio, TakeRel, Tick}
use Rattle.sp_rules.specs.Topologies.{removed_of}
use Rattle.sp_rules.specs.declared.answers.Item.TheVariants as items
use Rattle.sp_rules.specs.declared.kflow.FlowKind.TheVariants.{Paths}
use Rattle.sp_rules.specs.declared.rel.RelJudged.TheVariants as rels
use Rattle.laws_node.proofs.Adopting.{publishing, reading}
use Rattle.laws_node.proofs.Tables.{all_drop_first, cond_either}
use Rattle.laws_node.proofs.Withdrawals.{same_ends_closed}
use Rattle.laws_node.specs.Flows.{IsRelOf}
use Rattle.laws_runs.proofs.KindFacts.{got_rel}
use Rattle.laws_runs.proofs.NoStarts.{pieces_at}
use Rattle.laws_runs.proofs.StartPieces.{start_follows}
use Rattle.laws_progress.proofs.EitherKind.{On_paths, Pushes, StepsKeep, greeted_either, own_flows, piece_flows}
use Rattle.laws_progress.proofs.Rises.{alike}
use Rattle.laws_progress.proofs.Standing.{same_flow}
use Rattle.laws_progress.proofs.Wires.{is_mine}
use Rattle.std.proofs.Common.{drop}
use Rattle.laws_runs.proofs.NoStarts.{NoStart}

-- ---- lists

-- a message has this mask, or none
abbrev pub HasMask : Option Mask → Kept → Type 0
HasMask mask o = mask_said o.body ≡ mask

-- all have one
abbrev pub IsOneMask : List Kept → Type 0
IsOneMask list = (mask : Option Mask) × All (HasMask mask) list

-- those that wait of a flow do
abbrev pub FlowMask : FlowState → Type 0
FlowMask f = IsOneMask f.at.list

dropped : (k : ℕ) (list : List Kept) → IsOneMask list → IsOneMask (drop k list)
dropped k list one = (one.0, all_drop_first (HasMask one.0) k list one.1)

none_mask : IsOneMask []
none_mask = (None, All-nil (HasMask None))

krel_mask : (body : Body) → IsRelOf Paths body → (mask : Mask) × (mask_said body ≡ Some mask)
krel_mask (bodies.Krel m) is = (m.mask, refl)
krel_mask (bodies.Rel m) is = absurd is
krel_mask (bodies.Prio m) is = absurd is
krel_mask (bodies.Ack m) is = absurd is
krel_mask (bodies.Weight m) is = absurd is
krel_mask (bodies.Kack m) is = absurd is
krel_mask (bodies.Epoch m) is = absurd is

-- a message that keeps the mask of the first
one_more : (list : List Kept) (o : Kept) (choice : Choice) → IsOneMask list → All (λ m. IsRelOf Paths m.body) list
    → mask_said o.body ≡ Some (mask_for (option_and_then (λ (m : Kept). mask_said m.body) (slice_get list 0)) choice) → IsOneMask (list ++ o ∷ [])
one_more [] o choice one are is = (mask_said o.body, All-cons (HasMask (mask_said o.body)) o [] refl (All-nil (HasMask (mask_said o.body))))
one_more (m ∷ list) o choice one are is =
    let first = krel_mask m.body (All-head (λ k. IsRelOf Paths k.body) m list are) in
    let head : mask_said m.body ≡ one.0 = All-head (HasMask one.0) m list one.1 in
    let same : mask_said o.body ≡ one.0 = is ∙ ap (λ k. Some (mask_for k choice)) first.1 ∙ sym first.1 ∙ head in
    (one.0, All-append (HasMask one.0) (m ∷ list) (o ∷ []) one.1 (All-cons (HasMask one.0) o [] same (All-nil (HasMask one.0))))

-- ---- all own flows

-- those of each own flow do
abbrev pub OneMasks : RelState → Type 0
OneMasks r = (dst : NodeId) → FlowMask (flow_in r.flows (own_flow r dst))

put_one : (Q : FlowState → Type 0) (flow other : Flow) (g : FlowState) (fs : List FlowState) → ends g ≡ flow
    → (is_mine other flow ≡ true → Q (flow_in fs flow) → Q g) → Q (flow_in fs other) → Q (flow_in (put_flow fs flow g) other)
put_one Q flow other g [] e new h = h
put_one Q flow other g (f ∷ fs) e new h = elim (cases_Bool (is_flow flow f)) [
  | inl t ↦
      let ends_are : ends g ≡ ends f = e ∙ sym (same_ends f flow t) in
      let first : is_mine other flow ≡ true → Q f → Q g = rw t at new in
      elim (cases_Bool (is_flow other f)) [
        | inl z ↦
            let y : is_flow other g ≡ true = alike g f other ends_are ∙ z in
            let mine : is_mine other flow ≡ true = sym (ap (is_mine other) e) ∙ y in
            let old : Q f = rw z at h in
            rw (t, y) (first mine old)
        | inr z ↦
            let y : is_flow other g ≡ false = alike g f other ends_are ∙ z in
            let old : Q (flow_in fs other) = rw z at h in
            rw (t, y) old
      ]
  | inr t ↦
      let later : is_mine other flow ≡ true → Q (flow_in fs flow) → Q g = rw t at new in
      elim (cases_Bool (is_flow other f)) [
        | inl z ↦ let old : Q f = rw z at h in rw (t, z) old
        | inr z ↦ let old : Q (flow_in fs other) = rw z at h in rw (t, z) (put_one Q flow other g fs e later old)
      ]
]

with_one : (r : RelState) (flow : Flow) (g : FlowState) → ends g ≡ flow
    → ((dst : NodeId) → flow ≡ own_flow r dst → FlowMask (flow_in r.flows flow) → FlowMask g) → OneMasks r → OneMasks (with_flow r flow g)
with_one r flow g e new h dst =
    put_one FlowMask flow (own_flow r dst) g r.flows e (λ mine was. new dst (same_flow (own_flow r dst) flow mine) was) (h dst)

-- each flow becomes another of the same ends
map_one : (Q : FlowState → Type 0) (change : FlowState → FlowState) → ((f : FlowState) → ends (change f) ≡ ends f) → ((f : FlowState) → Q f → Q (change f))
    → (fs : List FlowState) (flow : Flow) → Q (flow_in fs flow) → Q (flow_in (map change fs) flow)
map_one Q change same keeps [] flow h = h
map_one Q change same keeps (f ∷ fs) flow h = elim (cases_Bool (is_flow flow f)) [
  | inl t ↦
      let y : is_flow flow (change f) ≡ true = alike (change f) f flow (same f) ∙ t in
      let old : Q f = rw t at h in
      rw y (keeps f old)
  | inr t ↦
      let y : is_flow flow (change f) ≡ false = alike (change f) f flow (same f) ∙ t in
      let old : Q (flow_in fs flow) = rw t at h in
      rw y (map_one Q change same keeps fs flow old)
]

ended_one : (gone : List NodeId) (f : FlowState) → FlowMask f → FlowMask (ended_where gone f)
ended_one gone f h = cond_either FlowMask (f.active && rel.is_over gone (ends f)) (ended f) f none_mask h

closed_one : (r : RelState) (gone : List NodeId) → OneMasks r → OneMasks (rel.closed r gone)
closed_one r gone h dst = map_one FlowMask (ended_where gone) (same_ends_closed gone) (ended_one gone) r.flows (own_flow r dst) (h dst)

ack_one : (r : RelState) (o : Kept) → OneMasks r → OneMasks (admit_ack r o)
ack_one r o h =
    let flow = flow_said o.body in
    let f = flow_in r.flows flow in
    with_one r flow (acknowledged_by f o) (found_ends r.flows flow) (λ dst is was. dropped _ f.at.list was) h

-- what comes of others is of no own flow
message_one : (r : RelState) (fl : Flow) (o : Kept) → judge_rel_of r fl o.body ≡ rels.New → OneMasks r → OneMasks (admit_rel r o)
message_one r fl o new h =
    let flow = flow_said o.body in
    let f = flow_in r.flows flow in
    let never = λ (g : FlowState) (dst : NodeId) (is : flow ≡ own_flow r dst) (was : FlowMask f).
    absurd {A = FlowMask g} ((got_rel r fl o.body new).not_from (sym (ap (λ (y : Flow). y.src) is))) in
    cond_either (λ (g : FlowState). OneMasks (with_flow r flow g)) (is_to r flow) (received f (payload_of o.body)) (pushed f o)
    (with_one r flow (received f (payload_of o.body)) (found_ends r.flows flow) (never (received f (payload_of o.body))) h)
    (with_one r flow (pushed f o) (found_ends r.flows flow) (never (pushed f o)) h)

settled_one : (r : RelState) (o : Kept) → OneMasks r → OneMasks (settled r o)
settled_one r o h = go (due_place r)
  where
    go : (place : Option ℕ) → OneMasks (settled_at r o place)
    go None = h
    go (Some place) =
        let flow = flow_said o.body in
        let f = flow_in r.flows flow in
        with_one r flow (concluded f o) (found_ends r.flows flow) (λ dst is was. dropped _ f.at.list was) h

took_one : (r : RelState) (src : NodeId) → OneMasks r → OneMasks (took r src)
took_one r src h =
    let flow = flow_to_me r src in
    let f = flow_in r.flows flow in
    with_one r flow (after_take f) (found_ends r.flows flow) (λ dst is was. was) h

reported_one : (r : RelState) (v : NodeId) (flow : Flow) (base have : ℕ) → OneMasks r → OneMasks (reported r v flow base have)
reported_one r v flow base have h =
    cond_either OneMasks (flow_in r.flows flow).active (with_peer r v (told (peer_in r.peers v) flow base have)) r h h

served_one : (r : RelState) (v : NodeId) → OneMasks r → OneMasks (served r v)
served_one r v h = go (next_place r v)
  where
    go : (place : Option ℕ) → OneMasks (served_at r v place)
    go None = h
    go (Some place) = h

-- ---- steps

-- a node whose flows on paths keep messages on paths alone
pub record IsReady (n : NodeState) : Type 0 where
  pub me : n.fixed.me ≡ n.parts.kflow.flows.me
  pub are : (flow : Flow) → All (λ m. IsRelOf Paths m.body) (flow_in n.parts.kflow.flows.flows flow).at.list

push_one : (arts : Arts) (n : NodeState) (o : Kept) → IsReady n → Pushes arts n Paths o → OneMasks n.parts.kflow.flows
    → OneMasks (pushed_in n.parts.kflow.flows o)
push_one arts n o ready (On_paths m choice free) h =
    let r = n.parts.kflow.flows in
    let body = krel_sends n m choice in
    let flow = flow_said body in
    let f = flow_in r.flows flow in
    let own : own_flow r m.dst ≡ flow = ap (λ (v : NodeId). record { src = v; dst = m.dst }) (sym ready.me) in
    let mask : mask_said body ≡ Some (mask_for (option_and_then (λ (k : Kept). mask_said k.body) (slice_get f.at.list 0)) choice) =
    ap (λ (y : Flow). Some (mask_for (option_and_then (λ (k : Kept). mask_said k.body) (slice_get (flow_in r.flows y).at.list 0)) choice)) own in
    with_one r flow (pushed f (signed_now arts n body)) (found_ends r.flows flow)
    (λ dst is was. one_more f.at.list (signed_now arts n body) choice was (ready.are flow) mask) h

steps_keep : (arts : Arts) (n : NodeState) → IsReady n → StepsKeep OneMasks arts n Paths
steps_keep arts n ready = record {
  settle = λ r o h. settled_one r o h;
  push = λ o is h. push_one arts n o ready is h;
  take = λ r src h. took_one r src h;
}

abbrev PartsMask : Parts → Type 0
PartsMask p = OneMasks p.kflow.flows

plain_one : (arts : Arts) (at : Arrival) (p : Parts) (piece : Piece) → NoStart piece → PartsMask p → PartsMask (handle arts at p piece).parts
plain_one arts at p piece none h = piece_flows OneMasks Paths arts at p piece none (record {
  report = λ r flow base have k. reported_one r at.from flow base have k;
  ack = λ r o k. ack_one r o k;
  message = λ r flow o new k. message_one r flow o new k;
}) h

piece_one : (arts : Arts) (at : Arrival) (p : Parts) (piece : Piece) → PartsMask p → PartsMask (handle arts at p piece).parts
piece_one arts at p (WeightPiece o) h = plain_one arts at p (WeightPiece o) tt h
piece_one arts at p (PrioAckPiece number) h = plain_one arts at p (PrioAckPiece number) tt h
piece_one arts at p (PrioPiece number o) h = plain_one arts at p (PrioPiece number o) tt h
piece_one arts at p (ReportPiece k flow sboot dboot base have) h = plain_one arts at p (ReportPiece k flow sboot dboot base have) tt h
piece_one arts at p (AckPiece k flow o) h = plain_one arts at p (AckPiece k flow o) tt h
piece_one arts at p (RelPiece k flow o) h = plain_one arts at p (RelPiece k flow o) tt h
piece_one arts at p (EpochPiece o) h =
    elim (cases_Bool (is_new (items.Epoch (epoch_answer (is_signed arts at.fixed o) (judge_epoch at.fixed.me p.lives o.body))))) [
      | inl t ↦
          let it : PartsMask (met p o) = λ dst.
          let done = start_follows arts at p o t in
          let flow = own_flow p.kflow.flows dst in
          subst FlowMask (sym (done.flows Paths flow))
          (cond_either FlowMask (is_end _ flow) (no_flow flow) (flow_in p.kflow.flows.flows flow) none_mask (h dst))
          in
          rw t it
      | inr t ↦ rw t h
    ]

pieces_one : (arts : Arts) (at : Arrival) (p : Parts) (pieces : List Piece) → PartsMask p → PartsMask (handle_all arts at p pieces).parts
pieces_one arts at p [] h = h
pieces_one arts at p (piece ∷ pieces) h = pieces_one arts at (handle arts at p piece).parts pieces (piece_one arts at p piece h)

kept_one : {X : Type 0} (r : Option X) (n m : NodeState) → PartsMask n.parts → PartsMask m.parts → PartsMask (kept_or r n m).parts
kept_one None n m old new = new
kept_one (Some x) n m old new = old

-- each step keeps it so
pub step_one : (arts : Arts) (n : NodeState) (input : Input) (output : Output) (new : NodeState) → IsReady n → NodeStep arts n input output new
    → PartsMask n.parts → PartsMask new.parts
step_one arts n (Poll v) output new ready s h =
    subst (λ (m : NodeState). PartsMask m.parts) (sym s.1)
    (kept_one (call_refusal n v) n (called n (with_link n v (advanced (link_in n v))) (parts_after n v)) h
    (cond_either PartsMask (is_served n v) (polled n.fixed n.parts v) n.parts (served_one n.parts.kflow.flows v h) h))
step_one arts n (Datagram v bytes) output new ready s h =
    subst (λ (m : NodeState). PartsMask m.parts) (sym s.1)
    (kept_one (call_refusal n v) n (read_by arts left (document_at arts n v bytes)) h
    (reading arts left (document_at arts n v bytes) (λ m told. PartsMask m.parts) first
    (λ document d is reads by. closed_one left.parts.kflow.flows (removed_of (nodes_of d.topology) d.topology.edges) first)))
  where
    left : NodeState
    left = before_document arts n v bytes

    first : PartsMask left.parts
    first =
        pieces_one arts (arrival_at n v) (parts_met arts n v bytes) (pieces_at arts n v bytes)
        (greeted_either OneMasks Paths n.fixed.epochs (rises arts n v bytes) v n.parts h h)
step_one arts n (Publish document) output new ready s h =
    subst (λ (m : NodeState). PartsMask m.parts) (sym s.1)
    (publishing arts n document (λ m told. PartsMask m.parts) h
    (λ d reads by. closed_one n.parts.kflow.flows (removed_of (nodes_of d.topology) d.topology.edges) h))
step_one arts n (Tick now) output new ready s h = own_flows OneMasks Paths arts n (Tick now) output new tt s (steps_keep arts n ready) h
step_one arts n (SendRel dst payload) output new ready s h = own_flows OneMasks Paths arts n (SendRel dst payload) output new tt s (steps_keep arts n ready) h
step_one arts n (SendPrio m) output new ready s h = own_flows OneMasks Paths arts n (SendPrio m) output new tt s (steps_keep arts n ready) h
step_one arts n (SetWeight v weight) output new ready s h = own_flows OneMasks Paths arts n (SetWeight v weight) output new tt s (steps_keep arts n ready) h
step_one arts n (TakeRel src) output new ready s h = own_flows OneMasks Paths arts n (TakeRel src) output new tt s (steps_keep arts n ready) h
step_one arts n (SendKrel m) output new ready s h = own_flows OneMasks Paths arts n (SendKrel m) output new tt s (steps_keep arts n ready) h
step_one arts n (TakeKrel src) output new ready s h = own_flows OneMasks Paths arts n (TakeKrel src) output new tt s (steps_keep arts n ready) h
step_one arts n TakePrio output new ready s h = own_flows OneMasks Paths arts n TakePrio output new tt s (steps_keep arts n ready) h

-- ---- at the start

no_list : (flows : List Flow) (flow : Flow) → FlowMask (flow_in (map no_flow flows) flow)
no_list [] flow = none_mask
no_list (f ∷ flows) flow = elim (cases_Bool (is_flow flow (no_flow f))) [ inl t ↦ rw t none_mask | inr t ↦ rw t (no_list flows flow) ]

-- whatever is removed then
pub begun_one : (gone : List NodeId) (flows : List Flow) (flow : Flow) → FlowMask (flow_in (map (ended_where gone) (map no_flow flows)) flow)
begun_one gone flows flow = map_one FlowMask (ended_where gone) (same_ends_closed gone) (ended_one gone) (map no_flow flows) flow (no_list flows flow)
