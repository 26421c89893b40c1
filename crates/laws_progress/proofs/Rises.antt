-- What a step does to flows: no base and no have falls, no flow that is active stops being so, and no client's taking is undone.
use Rattle.std.proofs.Common.{◌≡◌, ◌<◌, ◌≤◌, ◌⊎◌, ℕ, ◌-◌, ◌==◌, Bool, true, false, cond, eqb, List, [], ◌∷◌, map, length, drop, Option, Some, None, refl, sym}
use Rattle.std.proofs.Common.{ap, subst, ◌∙◌, inl, inr, arith}
use Rattle.std.specs.Prelude.{◌&&◌}
use Rattle.std.proofs.lemmas.Bool.{cases_Bool, cases_eq, eq-eqb, eqb-true, ne_eqb}
use Rattle.std.proofs.lemmas.List.{length-append}
use Rattle.sp_base.specs.declared.id.Flow.{Flow}
use Rattle.sp_base.specs.declared.id.NodeId.{NodeId}
use Rattle.sp_msg.specs.Bodies.{payload_of}
use Rattle.sp_msg.specs.declared.kept.Kept.{Kept}
use Rattle.sp_rules.proofs.FlowJudged.{found_ends, same_ends}
use Rattle.sp_rules.specs.Answers.{epoch_answer, is_new}
use Rattle.sp_rules.specs.Arts.{Arts}
use Rattle.sp_rules.specs.Arrivals.{greeted, rises}
use Rattle.sp_rules.specs.Flow.{FlowState, acknowledged_by, after_take, concluded, ends, flow_said, is_flow, no_flow, pushed, received}
use Rattle.sp_rules.specs.Handle.{Arrival, handle, handle_all, met}
use Rattle.sp_rules.specs.Lives.{boot_said, held_boot, judge_epoch, origin_said}
use Rattle.sp_rules.specs.Node.{NodeState}
use Rattle.sp_rules.specs.Parts.{Parts, is_signed}
use Rattle.sp_rules.specs.Pieces.{Piece, AckPiece, PrioAckPiece, PrioPiece, RelPiece, ReportPiece, WeightPiece, EpochPiece}
use Rattle.sp_rules.specs.Rel.{RelPeer, RelState, View, is_end, is_peer, is_view, no_view, restarted, view_in, view_less, viewed, views_less}
use Rattle.sp_rules.specs.Rel.{admit_ack, admit_rel, pushed_in, due_place, flow_in, flow_to_me, is_to, next_place, put_flow}
use Rattle.sp_rules.specs.Rel.{reported, served, served_at, settled, settled_at, told, took, with_flow, with_peer, peer_in}
use Rattle.sp_rules.specs.declared.answers.Item.TheVariants as items
use Rattle.laws_node.proofs.Tables.{cond_either}
use Rattle.laws_node.specs.Epochs.{Follows}
use Rattle.laws_runs.proofs.Lists.{both}
use Rattle.laws_runs.proofs.NoStarts.{NoStart}
use Rattle.laws_runs.proofs.StartPieces.{StartLast, same_lives, start_follows}
use Rattle.laws_runs.proofs.Tables.{same_node}
use Rattle.sp_rules.specs.Parts.{flows_of}
use Rattle.sp_rules.specs.declared.kflow.FlowKind.{FlowKind}
use Rattle.laws_progress.proofs.EitherKind.{PiecesKeep, StepsKeep, greeted_either, met_flows, piece_flows}

pub record FlowLater (f g : FlowState) : Type 0 where
  pub base : f.at.base ≤ g.at.base
  pub have : f.at.have ≤ g.at.have
  pub active : f.active ≡ true → g.active ≡ true
  -- how many a client took
  pub taken : f.at.have - length f.inbox ≤ g.at.have - length g.inbox

abbrev pub RelLater : RelState → RelState → Type 0
RelLater r t = (flow : Flow) → FlowLater (flow_in r.flows flow) (flow_in t.flows flow)

pub same_later : (f : FlowState) → FlowLater f f
same_later f = record { base = omega arith; have = omega arith; active = λ on. on; taken = omega arith }

then_later : (f g h : FlowState) → FlowLater f g → FlowLater g h → FlowLater f h
then_later f g h one two = record {
  base = omega (arith, one.base, two.base);
  have = omega (arith, one.have, two.have);
  active = λ on. two.active (one.active on);
  taken = omega (arith, one.taken, two.taken);
}

-- ---- one flow

pushed_later : (f : FlowState) (o : Kept) → FlowLater f (pushed f o)
pushed_later f o = record { base = omega arith; have = omega arith; active = λ on. refl; taken = omega arith }

received_later : (f : FlowState) (p : List ℕ) → FlowLater f (received f p)
received_later f p = record { base = omega arith; have = omega arith; active = λ on. refl; taken = omega (arith, length-append f.inbox (p ∷ [])) }

acked_later : (f : FlowState) (o : Kept) → FlowLater f (acknowledged_by f o)
acked_later f o = record { base = omega arith; have = omega arith; active = λ on. refl; taken = omega arith }

concluded_later : (f : FlowState) (o : Kept) → FlowLater f (concluded f o)
concluded_later f o = record { base = omega arith; have = omega arith; active = λ on. on; taken = omega arith }

take_later : (f : FlowState) → FlowLater f (after_take f)
take_later f = record { base = omega arith; have = omega arith; active = λ on. on; taken = let less = shorter f.inbox in omega (arith, less) }
  where
    shorter : (xs : List (List ℕ)) → length (drop 1 xs) ≤ length xs
    shorter [] = omega arith
    shorter (y ∷ xs) = omega arith

-- ---- all flows

pub alike : (a b : FlowState) (flow : Flow) → ends a ≡ ends b → is_flow flow a ≡ is_flow flow b
alike a b flow e = ap (λ (g : Flow). (eqb g.src.0 flow.src.0) && (eqb g.dst.0 flow.dst.0)) e

put_later : (flow : Flow) (g : FlowState) (fs : List FlowState) → ends g ≡ flow → FlowLater (flow_in fs flow) g → (other : Flow)
    → FlowLater (flow_in fs other) (flow_in (put_flow fs flow g) other)
put_later flow g [] e later other = same_later _
put_later flow g (f ∷ fs) e later other = elim (cases_Bool (is_flow flow f)) [
  | inl t ↦
      let here : FlowLater f g = rw t at later in
      let ends_are : ends g ≡ ends f = e ∙ sym (same_ends f flow t) in
      elim (cases_Bool (is_flow other f)) [
        | inl z ↦ let y : is_flow other g ≡ true = alike g f other ends_are ∙ z in rw (t, z, y) here
        | inr z ↦ let y : is_flow other g ≡ false = alike g f other ends_are ∙ z in rw (t, z, y) (same_later (flow_in fs other))
      ]
  | inr t ↦
      let rest = put_later flow g fs e (rw t at later) other in
      elim (cases_Bool (is_flow other f)) [
        | inl z ↦ rw (t, z) (same_later f)
        | inr z ↦ rw (t, z) rest
      ]
]

with_later : (r : RelState) (flow : Flow) (g : FlowState) → ends g ≡ flow → FlowLater (flow_in r.flows flow) g → RelLater r (with_flow r flow g)
with_later r flow g e later = put_later flow g r.flows e later

pub rel_same : (r : RelState) → RelLater r r
rel_same r flow = same_later (flow_in r.flows flow)

pub rel_then : (r s t : RelState) → RelLater r s → RelLater s t → RelLater r t
rel_then r s t one two flow = then_later _ _ _ (one flow) (two flow)

pub admit_rel_later : (r : RelState) (o : Kept) → RelLater r (admit_rel r o)
admit_rel_later r o =
    let flow = flow_said o.body in
    let f = flow_in r.flows flow in
    cond_either (λ (g : FlowState). RelLater r (with_flow r flow g)) (is_to r flow) (received f (payload_of o.body)) (pushed f o)
    (with_later r flow (received f (payload_of o.body)) (found_ends r.flows flow) (received_later f (payload_of o.body)))
    (with_later r flow (pushed f o) (found_ends r.flows flow) (pushed_later f o))

pub admit_ack_later : (r : RelState) (o : Kept) → RelLater r (admit_ack r o)
admit_ack_later r o = let flow = flow_said o.body in let f = flow_in r.flows flow in
    with_later r flow (acknowledged_by f o) (found_ends r.flows flow) (acked_later f o)

pub reported_later : (r : RelState) (v : NodeId) (flow : Flow) (base have : ℕ) → RelLater r (reported r v flow base have)
reported_later r v flow base have =
    cond_either (RelLater r) (flow_in r.flows flow).active (with_peer r v (told (peer_in r.peers v) flow base have)) r (rel_same r) (rel_same r)

pub served_later : (r : RelState) (v : NodeId) → RelLater r (served r v)
served_later r v = go (next_place r v)
  where
    go : (place : Option ℕ) → RelLater r (served_at r v place)
    go None = rel_same r
    go (Some place) = rel_same r

settled_later : (r : RelState) (o : Kept) → RelLater r (settled r o)
settled_later r o = go (due_place r)
  where
    go : (place : Option ℕ) → RelLater r (settled_at r o place)
    go None = rel_same r
    go (Some place) = let flow = flow_said o.body in let f = flow_in r.flows flow in
        with_later r flow (concluded f o) (found_ends r.flows flow) (concluded_later f o)

took_later : (r : RelState) (src : NodeId) → RelLater r (took r src)
took_later r src = let flow = flow_to_me r src in let f = flow_in r.flows flow in with_later r flow (after_take f) (found_ends r.flows flow) (take_later f)

sent_later : (r : RelState) (o : Kept) → RelLater r (pushed_in r o)
sent_later r o = let flow = flow_said o.body in let f = flow_in r.flows flow in with_later r flow (pushed f o) (found_ends r.flows flow) (pushed_later f o)

-- ---- pieces

abbrev PartsLater : FlowKind → Parts → Parts → Type 0
PartsLater kind p q = RelLater (flows_of kind p) (flows_of kind q)

pieces_keep : (r : RelState) (v : NodeId) → PiecesKeep (RelLater r) v
pieces_keep r v = record {
  report = λ t flow base have h. rel_then r t (reported t v flow base have) h (reported_later t v flow base have);
  ack = λ t o h. rel_then r t (admit_ack t o) h (admit_ack_later t o);
  message = λ t flow o new h. rel_then r t (admit_rel t o) h (admit_rel_later t o);
}

piece_later : (kind : FlowKind) (arts : Arts) (at : Arrival) (p : Parts) (piece : Piece) → NoStart piece → PartsLater kind p (handle arts at p piece).parts
piece_later kind arts at p piece none =
    piece_flows (RelLater (flows_of kind p)) kind arts at p piece none (pieces_keep (flows_of kind p) at.from) (rel_same (flows_of kind p))

pub steps_keep : (r : RelState) (arts : Arts) (n : NodeState) (kind : FlowKind) → StepsKeep (RelLater r) arts n kind
steps_keep r arts n kind = record {
  settle = λ t o h. rel_then r t (settled t o) h (settled_later t o);
  push = λ o is h. rel_then r (flows_of kind n.parts) (pushed_in (flows_of kind n.parts) o) h (sent_later (flows_of kind n.parts) o);
  take = λ t src h. rel_then r t (took t src) h (took_later t src);
}

-- ---- an Epoch object

view_less_in : (v : NodeId) (flow : Flow) (ws : List View) → view_in (map (view_less v) ws) flow ≡ cond (is_end v flow) (no_view flow) (view_in ws flow)
view_less_in v flow [] = sym (either_same (is_end v flow))
  where
    either_same : (t : Bool) → cond t (no_view flow) (no_view flow) ≡ no_view flow
    either_same true = refl
    either_same false = refl
view_less_in v flow (w ∷ ws) = elim (cases_Bool (is_view flow w)) [
  | inl t ↦
      let ends_are = both _ _ t in
      let its : viewed w ≡ flow =
      ap (λ s. let g : Flow = record { src = s; dst = w.dst } in g) (same_node w.src flow.src (eqb-true _ _ ends_are.0))
      ∙ ap (λ d. let g : Flow = record { src = flow.src; dst = d } in g) (same_node w.dst flow.dst (eqb-true _ _ ends_are.1)) in
      let end : is_end v (viewed w) ≡ is_end v flow = ap (is_end v) its in
      elim (cases_Bool (is_end v flow)) [
        | inl z ↦ let y : is_end v (viewed w) ≡ true = end ∙ z in rw (z, y, t) (ap no_view its)
        | inr z ↦ let y : is_end v (viewed w) ≡ false = end ∙ z in rw (z, y, t) refl
      ]
  | inr t ↦ elim (cases_Bool (is_end v (viewed w))) [
    | inl y ↦ rw (y, t) (view_less_in v flow ws)
    | inr y ↦ rw (y, t) (view_less_in v flow ws)
  ]
]

-- what is known of a neighbour after it
pub restarted_view : (v u : NodeId) (flow : Flow) (r : RelState)
    → view_in (peer_in (restarted r v).peers u).views flow ≡ cond (is_end v flow) (no_view flow) (view_in (peer_in r.peers u).views flow)
restarted_view v u flow r = go r.peers
  where
    go : (ps : List RelPeer) → view_in (peer_in (map (views_less v) ps) u).views flow ≡ cond (is_end v flow) (no_view flow) (view_in (peer_in ps u).views flow)
    go [] = sym (either_same (is_end v flow))
      where
        either_same : (t : Bool) → cond t (no_view flow) (no_view flow) ≡ no_view flow
        either_same true = refl
        either_same false = refl
    go (p ∷ ps) = elim (cases_Bool (is_peer u p)) [
      | inl t ↦ rw t (view_less_in v flow p.views)
      | inr t ↦ rw t (go ps)
    ]

-- Where an event leaves the boots of a flow's ends that a node holds, the flow only goes on there; and where one of them rises, the flow is as before its first
-- message, and nothing is known of it at any neighbour
pub data PartsGo (kind : FlowKind) (flow : Flow) (p q : Parts) : Type 0 where
  Goes_on : held_boot q.lives flow.src ≡ held_boot p.lives flow.src → held_boot q.lives flow.dst ≡ held_boot p.lives flow.dst
      → FlowLater (flow_in (flows_of kind p).flows flow) (flow_in (flows_of kind q).flows flow) → PartsGo kind flow p q
  Begins_anew : (held_boot p.lives flow.src < held_boot q.lives flow.src) ⊎ (held_boot p.lives flow.dst < held_boot q.lives flow.dst)
      → flow_in (flows_of kind q).flows flow ≡ no_flow flow → ((u : NodeId) → view_in (peer_in (flows_of kind q).peers u).views flow ≡ no_view flow)
      → PartsGo kind flow p q

pub goes_same : (kind : FlowKind) (flow : Flow) (p : Parts) → PartsGo kind flow p p
goes_same kind flow p = Goes_on refl refl (same_later (flow_in (flows_of kind p).flows flow))

-- after something that leaves the boots
pub then_go : (kind : FlowKind) (flow : Flow) (p q r : Parts) → q.lives ≡ p.lives
    → FlowLater (flow_in (flows_of kind p).flows flow) (flow_in (flows_of kind q).flows flow) → PartsGo kind flow q r
    → PartsGo kind flow p r
then_go kind flow p q r same one (Goes_on src dst two) =
    Goes_on (src ∙ ap (λ ls. held_boot ls flow.src) same) (dst ∙ ap (λ ls. held_boot ls flow.dst) same) (then_later _ _ _ one two)
then_go kind flow p q r same one (Begins_anew rises none views) =
    let src = ap (λ ls. held_boot ls flow.src) same in
    let dst = ap (λ ls. held_boot ls flow.dst) same in
    Begins_anew (elim rises [ inl up ↦ inl (omega (arith, up, src)) | inr up ↦ inr (omega (arith, up, dst)) ]) none views

met_go : (kind : FlowKind) (flow : Flow) (p : Parts) (o : Kept) → Follows (origin_said o.body) (boot_said o.body) p (met p o) → PartsGo kind flow p (met p o)
met_go kind flow p o done =
    let v = origin_said o.body in
    let met_view : (u : NodeId) → view_in (peer_in (flows_of kind (met p o)).peers u).views flow
    ≡ cond (is_end v flow) (no_view flow) (view_in (peer_in (flows_of kind p).peers u).views flow) =
    λ u. ap (λ (r : RelState). view_in (peer_in r.peers u).views flow) (met_flows kind p o) ∙ restarted_view v u flow (flows_of kind p) in
    let gone : is_end v flow ≡ true
    → (held_boot p.lives flow.src < held_boot (met p o).lives flow.src) ⊎ (held_boot p.lives flow.dst < held_boot (met p o).lives flow.dst)
    → PartsGo kind flow p (met p o) =
    λ end up. Begins_anew up (done.flows kind flow ∙ ap (λ t. cond t (no_flow flow) (flow_in (flows_of kind p).flows flow)) end)
    (λ u. met_view u ∙ ap (λ t. cond t (no_view flow) (view_in (peer_in (flows_of kind p).peers u).views flow)) end) in
    let rise : (w : NodeId) → v ≡ w → held_boot p.lives w < held_boot (met p o).lives w =
    λ w is. subst (λ (z : NodeId). held_boot p.lives z < held_boot (met p o).lives z) is (let a = done.above in let h = done.held in omega (arith, a, h)) in
    elim (cases_eq flow.src.0 v.0) [
      | inl s ↦ let t : (flow.src.0 == v.0) ≡ true = eq-eqb _ _ s in gone (rw t refl) (inl (rise flow.src (same_node v flow.src (sym s))))
      | inr not_s ↦ elim (cases_eq flow.dst.0 v.0) [
        | inl d ↦
            let t : (flow.dst.0 == v.0) ≡ true = eq-eqb _ _ d in
            let f : (flow.src.0 == v.0) ≡ false = ne_eqb _ _ not_s in
            gone (rw (f, t) refl) (inr (rise flow.dst (same_node v flow.dst (sym d))))
        | inr not_d ↦
            let t : (flow.dst.0 == v.0) ≡ false = ne_eqb _ _ not_d in
            let f : (flow.src.0 == v.0) ≡ false = ne_eqb _ _ not_s in
            let stays : flow_in (flows_of kind (met p o)).flows flow ≡ flow_in (flows_of kind p).flows flow = done.flows kind flow ∙ rw (f, t) refl in
            Goes_on (done.others flow.src not_s) (done.others flow.dst not_d)
            (subst (FlowLater (flow_in (flows_of kind p).flows flow)) (sym stays) (same_later _))
      ]
    ]

-- where it leaves the boots of a flow's ends, it leaves the flow, and what is known of it
pub met_same : (kind : FlowKind) (flow : Flow) (p : Parts) (o : Kept) → Follows (origin_said o.body) (boot_said o.body) p (met p o)
    → held_boot (met p o).lives flow.src ≡ held_boot p.lives flow.src → held_boot (met p o).lives flow.dst ≡ held_boot p.lives flow.dst
    → (flow_in (flows_of kind (met p o)).flows flow ≡ flow_in (flows_of kind p).flows flow)
    × ((u : NodeId) → view_in (peer_in (flows_of kind (met p o)).peers u).views flow ≡ view_in (peer_in (flows_of kind p).peers u).views flow)
met_same kind flow p o done src dst =
    let v = origin_said o.body in
    let met_view : (u : NodeId) → view_in (peer_in (flows_of kind (met p o)).peers u).views flow
    ≡ cond (is_end v flow) (no_view flow) (view_in (peer_in (flows_of kind p).peers u).views flow) =
    λ u. ap (λ (r : RelState). view_in (peer_in r.peers u).views flow) (met_flows kind p o) ∙ restarted_view v u flow (flows_of kind p) in
    let rise : (w : NodeId) → v ≡ w → held_boot p.lives w < held_boot (met p o).lives w =
    λ w is. subst (λ (z : NodeId). held_boot p.lives z < held_boot (met p o).lives z) is (let a = done.above in let h = done.held in omega (arith, a, h)) in
    let off : is_end v flow ≡ false = elim (cases_eq flow.src.0 v.0) [
      | inl s ↦ absurd (let up = rise flow.src (same_node v flow.src (sym s)) in omega (arith, up, src))
      | inr not_s ↦ elim (cases_eq flow.dst.0 v.0) [
        | inl d ↦ absurd (let up = rise flow.dst (same_node v flow.dst (sym d)) in omega (arith, up, dst))
        | inr not_d ↦ let t : (flow.dst.0 == v.0) ≡ false = ne_eqb _ _ not_d in let f : (flow.src.0 == v.0) ≡ false = ne_eqb _ _ not_s in rw (f, t) refl
      ]
    ] in (
      done.flows kind flow ∙ ap (λ t. cond t (no_flow flow) (flow_in (flows_of kind p).flows flow)) off,
      λ u. met_view u ∙ ap (λ t. cond t (no_view flow) (view_in (peer_in (flows_of kind p).peers u).views flow)) off,
    )

-- ---- all pieces

plain_go : (kind : FlowKind) (flow : Flow) (arts : Arts) (at : Arrival) (p : Parts) (piece : Piece) → NoStart piece
    → PartsGo kind flow p (handle arts at p piece).parts
plain_go kind flow arts at p piece none =
    let same = same_lives arts at p piece none in
    Goes_on (ap (λ ls. held_boot ls flow.src) same) (ap (λ ls. held_boot ls flow.dst) same) (piece_later kind arts at p piece none flow)

one_go : (kind : FlowKind) (flow : Flow) (arts : Arts) (at : Arrival) (p : Parts) (piece : Piece) → PartsGo kind flow p (handle arts at p piece).parts
one_go kind flow arts at p (EpochPiece o) =
    elim (cases_Bool (is_new (items.Epoch (epoch_answer (is_signed arts at.fixed o) (judge_epoch at.fixed.me p.lives o.body))))) [
      | inl t ↦ rw t (met_go kind flow p o (start_follows arts at p o t))
      | inr t ↦ rw t (goes_same kind flow p)
    ]
one_go kind flow arts at p (WeightPiece o) = plain_go kind flow arts at p (WeightPiece o) tt
one_go kind flow arts at p (PrioAckPiece number) = plain_go kind flow arts at p (PrioAckPiece number) tt
one_go kind flow arts at p (PrioPiece number o) = plain_go kind flow arts at p (PrioPiece number o) tt
one_go kind flow arts at p (ReportPiece k fl sboot dboot base have) = plain_go kind flow arts at p (ReportPiece k fl sboot dboot base have) tt
one_go kind flow arts at p (AckPiece k fl o) = plain_go kind flow arts at p (AckPiece k fl o) tt
one_go kind flow arts at p (RelPiece k fl o) = plain_go kind flow arts at p (RelPiece k fl o) tt

pub pieces_go : (kind : FlowKind) (flow : Flow) (arts : Arts) (at : Arrival) (p : Parts) (pieces : List Piece) → StartLast pieces
    → PartsGo kind flow p (handle_all arts at p pieces).parts
pieces_go kind flow arts at p [] last = goes_same kind flow p
pieces_go kind flow arts at p (piece ∷ pieces) (inl plain) =
    then_go kind flow p (handle arts at p piece).parts _ (same_lives arts at p piece plain.0) (piece_later kind arts at p piece plain.0 flow)
    (pieces_go kind flow arts at (handle arts at p piece).parts pieces plain.1)
pieces_go kind flow arts at p (piece ∷ pieces) (inr none) =
    subst (λ ps. PartsGo kind flow p (handle_all arts at (handle arts at p piece).parts ps).parts) (sym none) (one_go kind flow arts at p piece)

pub greeted_flows : (kind : FlowKind) (epochs risen : Bool) (v : NodeId) (p : Parts)
    → (flows_of kind (greeted epochs risen v p)).flows ≡ (flows_of kind p).flows
greeted_flows kind epochs risen v p = greeted_either (λ (r : RelState). r.flows ≡ (flows_of kind p).flows) kind epochs risen v p refl refl
