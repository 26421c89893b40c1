-- The flow that was served last to a neighbour is another one after a poll of that neighbour alone.
use Rattle.sp_rules.specs.Link.{advanced}
use Rattle.sp_rules.specs.Polls.{is_served, parts_after, polled}
use Rattle.laws_node.proofs.Adopting.{publishing, reading}
use Rattle.std.proofs.Common.{◌≡◌, ℕ, ◌==◌, ◌&&◌, Bool, true, false, cond, eqb, List, [], ◌∷◌, Option, Some, None, refl, sym, ap, subst, ◌∙◌, inl, inr, map}
use Rattle.std.specs.Prelude.{unwrap_or, nat_lt, option_map}
use Rattle.std.proofs.lemmas.Bool.{cases_Bool, eqb-true, eq-eqb, ne_eqb}
use Rattle.sp_base.specs.declared.id.Flow.{Flow}
use Rattle.sp_base.specs.declared.id.NodeId.{NodeId}
use Rattle.sp_msg.specs.declared.kept.Kept.{Kept}
use Rattle.sp_rules.specs.Answers.{is_new, epoch_answer}
use Rattle.sp_rules.specs.Arts.{Arts}
use Rattle.sp_rules.specs.Arrivals.{arrival_at, parts_met, greeted, before_document, document_at, read_by, rises}
use Rattle.sp_rules.specs.Handle.{Arrival, handle, handle_all, met}
use Rattle.sp_rules.specs.Lives.{judge_epoch, origin_said}
use Rattle.sp_rules.specs.Node.{NodeState, call_refusal, kept_or, link_in, called, with_link}
use Rattle.sp_rules.specs.Parts.{Parts, is_signed}
use Rattle.sp_rules.specs.Pieces.{Piece, AckPiece, PrioAckPiece, PrioPiece, RelPiece, ReportPiece, WeightPiece, EpochPiece}
use Rattle.sp_rules.specs.Rel.{RelPeer, RelState, due_place, flow_in, is_peer, next_place, peer_in}
use Rattle.sp_rules.specs.Rel.{put_peer, reported, served, served_at, settled, settled_at, told, with_peer, restarted, views_less, no_views}
use Rattle.sp_rules.specs.Steps.{Input, NodeStep, Output, Poll, Datagram, Tick, SendRel, SendPrio, SetWeight, TakeRel, TakePrio, SendKrel, TakeKrel, Publish}
use Rattle.sp_rules.specs.declared.answers.Item.TheVariants as items
use Rattle.laws_node.proofs.Tables.{cond_either}
use Rattle.laws_runs.proofs.NoStarts.{pieces_at}
use Rattle.laws_runs.proofs.Tables.{same_node}
use Rattle.sp_frame.specs.Sections.{with_document}
use Rattle.sp_runs.specs.Inputs.{acting, crafted_contents, crafted_document, crafted_frame, flipped, input_of, last_weights, may_sign}
use Rattle.sp_runs.specs.Settings.{Setting}
use Rattle.sp_runs.specs.Worlds.{World, crafts, frame_in}
use Rattle.sp_schedule_crafts.specs.Objects.{body_of}
use Rattle.sp_schedule_events.specs.declared.event.Event.{Event}
use Rattle.sp_schedule_events.specs.declared.event.Event.TheVariants as events
use Rattle.sp_runs.specs.Runs.{is_poll}
use Rattle.laws_progress.proofs.Keys.{peer_is}
use Rattle.sp_rules.specs.Parts.{flows_of, closed}
use Rattle.sp_rules.specs.declared.kflow.FlowKind.{FlowKind}
use Rattle.laws_runs.proofs.KindFacts.{closed_flows, polled_flows}
use Rattle.laws_runs.proofs.NoStarts.{NoStart}
use Rattle.laws_progress.proofs.EitherKind.{StepsKeep, greeted_either, met_flows, own_flows, piece_flows}

-- ---- one neighbour's row

abbrev SameLast : NodeId → RelState → RelState → Type 0
SameLast v r t = (peer_in t.peers v).last ≡ (peer_in r.peers v).last

put_last : (v u : NodeId) (p : RelPeer) (ps : List RelPeer) → p.peer ≡ u → ((peer_in ps u).last ≡ p.last)
    → (peer_in (put_peer ps u p) v).last ≡ (peer_in ps v).last
put_last v u p [] is same = refl
put_last v u p (q ∷ ps) is same = elim (cases_Bool (is_peer u q)) [
  | inl t ↦
      let here : q.last ≡ p.last = rw t at same in
      let key : q.peer ≡ p.peer = same_node _ _ (eqb-true _ _ t) ∙ sym is in
      let tests : is_peer v q ≡ is_peer v p = ap (λ (n : NodeId). eqb n.0 v.0) key in
      elim (cases_Bool (is_peer v q)) [
        | inl z ↦ let y : is_peer v p ≡ true = sym tests ∙ z in rw (t, z, y) (sym here)
        | inr z ↦ let y : is_peer v p ≡ false = sym tests ∙ z in rw (t, z, y) refl
      ]
  | inr t ↦
      let rest = put_last v u p ps is (rw t at same) in
      elim (cases_Bool (is_peer v q)) [ inl z ↦ rw (t, z) refl | inr z ↦ rw (t, z) rest ]
]

with_peer_last : (v : NodeId) (r : RelState) (u : NodeId) (p : RelPeer) → p.peer ≡ u → (peer_in r.peers u).last ≡ p.last → SameLast v r (with_peer r u p)
with_peer_last v r u p is same = put_last v u p r.peers is same

reported_last : (v0 : NodeId) (r : RelState) (v : NodeId) (flow : Flow) (base have : ℕ) → SameLast v0 r (reported r v flow base have)
reported_last v0 r v flow base have =
    cond_either (SameLast v0 r) (flow_in r.flows flow).active (with_peer r v (told (peer_in r.peers v) flow base have)) r
    (with_peer_last v0 r v (told (peer_in r.peers v) flow base have) (peer_is r v) refl) refl

settled_last : (v0 : NodeId) (r : RelState) (o : Kept) → SameLast v0 r (settled r o)
settled_last v0 r o = go (due_place r)
  where
    go : (place : Option ℕ) → SameLast v0 r (settled_at r o place)
    go None = refl
    go (Some place) = refl

abbrev PartsSame : FlowKind → NodeId → Parts → Parts → Type 0
PartsSame kind v0 p q = SameLast v0 (flows_of kind p) (flows_of kind q)

-- another life of a node leaves them
restarted_last : (v0 : NodeId) (r : RelState) (v : NodeId) → SameLast v0 r (restarted r v)
restarted_last v0 r v = go r.peers
  where
    go : (ps : List RelPeer) → (peer_in (map (views_less v) ps) v0).last ≡ (peer_in ps v0).last
    go [] = refl
    go (p ∷ ps) = elim (cases_Bool (is_peer v0 p)) [
      | inl t ↦ rw t refl
      | inr t ↦ rw t (go ps)
    ]

greeted_last : (kind : FlowKind) (v0 : NodeId) (epochs risen : Bool) (v : NodeId) (p : Parts) → PartsSame kind v0 p (greeted epochs risen v p)
greeted_last kind v0 epochs risen v p =
    let r = flows_of kind p in
    greeted_either (SameLast v0 r) kind epochs risen v p (with_peer_last v0 r v (no_views (peer_in r.peers v)) (peer_is r v) refl) refl

plain_last : (kind : FlowKind) (v0 : NodeId) (arts : Arts) (at : Arrival) (p : Parts) (piece : Piece) → NoStart piece
    → PartsSame kind v0 p (handle arts at p piece).parts
plain_last kind v0 arts at p piece none =
    piece_flows (SameLast v0 (flows_of kind p)) kind arts at p piece none (record {
      report = λ r flow base have is. reported_last v0 r at.from flow base have ∙ is;
      ack = λ r o is. is;
      message = λ r flow o new is. is;
    }) refl

piece_last : (kind : FlowKind) (v0 : NodeId) (arts : Arts) (at : Arrival) (p : Parts) (piece : Piece) → PartsSame kind v0 p (handle arts at p piece).parts
piece_last kind v0 arts at p (WeightPiece o) = plain_last kind v0 arts at p (WeightPiece o) tt
piece_last kind v0 arts at p (PrioAckPiece number) = plain_last kind v0 arts at p (PrioAckPiece number) tt
piece_last kind v0 arts at p (PrioPiece number o) = plain_last kind v0 arts at p (PrioPiece number o) tt
piece_last kind v0 arts at p (ReportPiece k flow sboot dboot base have) = plain_last kind v0 arts at p (ReportPiece k flow sboot dboot base have) tt
piece_last kind v0 arts at p (AckPiece k flow o) = plain_last kind v0 arts at p (AckPiece k flow o) tt
piece_last kind v0 arts at p (RelPiece k flow o) = plain_last kind v0 arts at p (RelPiece k flow o) tt
piece_last kind v0 arts at p (EpochPiece o) =
    cond_either (PartsSame kind v0 p) (is_new (items.Epoch (epoch_answer (is_signed arts at.fixed o) (judge_epoch at.fixed.me p.lives o.body)))) (met p o) p
    (subst (SameLast v0 (flows_of kind p)) (sym (met_flows kind p o)) (restarted_last v0 (flows_of kind p) (origin_said o.body))) refl

pieces_last : (kind : FlowKind) (v0 : NodeId) (arts : Arts) (at : Arrival) (p : Parts) (pieces : List Piece)
    → PartsSame kind v0 p (handle_all arts at p pieces).parts
pieces_last kind v0 arts at p [] = refl
pieces_last kind v0 arts at p (piece ∷ pieces) =
    pieces_last kind v0 arts at (handle arts at p piece).parts pieces ∙ piece_last kind v0 arts at p piece

-- ---- steps

abbrev NodeSame : FlowKind → NodeId → NodeState → NodeState → Type 0
NodeSame kind v0 n m = SameLast v0 (flows_of kind n.parts) (flows_of kind m.parts)

other_last : (v0 v : NodeId) (p : RelPeer) (ps : List RelPeer) → (v ≡ v0 → ⊥) → p.peer ≡ v → (peer_in (put_peer ps v p) v0).last ≡ (peer_in ps v0).last
other_last v0 v p [] away is = refl
other_last v0 v p (q ∷ ps) away is = elim (cases_Bool (is_peer v q)) [
  | inl t ↦
      let key : q.peer ≡ v = same_node _ _ (eqb-true _ _ t) in
      let off : is_peer v0 q ≡ false = ne_eqb _ _ (λ z. away (sym key ∙ same_node _ _ z)) in
      let off2 : is_peer v0 p ≡ false = ne_eqb _ _ (λ z. away (sym is ∙ same_node _ _ z)) in
      rw (t, off, off2) refl
  | inr t ↦ let rest = other_last v0 v p ps away is in elim (cases_Bool (is_peer v0 q)) [ inl z ↦ rw (t, z) refl | inr z ↦ rw (t, z) rest ]
]

kept_last : {X : Type 0} (kind : FlowKind) (v0 : NodeId) (r : Option X) (n m : NodeState) → NodeSame kind v0 n m → NodeSame kind v0 n (kept_or r n m)
kept_last kind v0 None n m same = same
kept_last kind v0 (Some x) n m same = refl

-- the input is no poll of v
abbrev pub NoPoll : NodeId → Input → Type 0
NoPoll v (Poll u) = u ≡ v → ⊥
NoPoll v _ = Unit {0}

served_away : (v0 v : NodeId) (r : RelState) → (v ≡ v0 → ⊥) → SameLast v0 r (served r v)
served_away v0 v r away = go (next_place r v)
  where
    go : (place : Option ℕ) → SameLast v0 r (served_at r v place)
    go None = refl
    go (Some place) = other_last v0 v (record (peer_in r.peers v) { last = Some place }) r.peers away (peer_is r v)

steps_keep : (v0 : NodeId) (r : RelState) (arts : Arts) (n : NodeState) (kind : FlowKind) → StepsKeep (SameLast v0 r) arts n kind
steps_keep v0 r arts n kind = record { settle = λ t o is. settled_last v0 t o ∙ is; push = λ o is h. h; take = λ t src is. is }

closed_last : (kind : FlowKind) (v0 : NodeId) (r : RelState) (p : Parts) (least : List ℕ) (gone : List NodeId) → SameLast v0 r (flows_of kind p)
    → SameLast v0 r (flows_of kind (closed p least gone))
closed_last kind v0 r p least gone h = subst (SameLast v0 r) (sym (closed_flows kind p least gone)) h

pub step_last : (kind : FlowKind) (v0 : NodeId) (arts : Arts) (n : NodeState) (input : Input) (output : Output) (new : NodeState) → NoPoll v0 input
    → NodeStep arts n input output new
    → NodeSame kind v0 n new
step_last kind v0 arts n (Poll v) output new quiet s =
    subst (NodeSame kind v0 n) (sym s.1) (kept_last kind v0 (call_refusal n v) n (called n (with_link n v (advanced (link_in n v))) (parts_after n v))
    (cond_either (PartsSame kind v0 n.parts) (is_served n v) (polled n.fixed n.parts v) n.parts
    (subst (SameLast v0 (flows_of kind n.parts)) (sym (polled_flows kind n.fixed n.parts v)) (served_away v0 v (flows_of kind n.parts) quiet)) refl))
step_last kind v0 arts n (Datagram v bytes) output new quiet s =
    let left = before_document arts n v bytes in
    let first : NodeSame kind v0 n left =
    pieces_last kind v0 arts (arrival_at n v) (parts_met arts n v bytes) (pieces_at arts n v bytes)
    ∙ greeted_last kind v0 n.fixed.epochs (rises arts n v bytes) v n.parts in
    subst (NodeSame kind v0 n) (sym s.1) (kept_last kind v0 (call_refusal n v) n (read_by arts left (document_at arts n v bytes))
    (reading arts left (document_at arts n v bytes) (λ m told. NodeSame kind v0 n m) first
    (λ document d is reads by. closed_last kind v0 (flows_of kind n.parts) left.parts _ _ first)))
step_last kind v0 arts n (Publish document) output new quiet s =
    subst (NodeSame kind v0 n) (sym s.1)
    (publishing arts n document (λ m told. NodeSame kind v0 n m) refl (λ d reads by. closed_last kind v0 (flows_of kind n.parts) n.parts _ _ refl))
step_last kind v0 arts n (Tick now) output new quiet s =
    own_flows (SameLast v0 (flows_of kind n.parts)) kind arts n (Tick now) output new tt s (steps_keep v0 (flows_of kind n.parts) arts n kind) refl
step_last kind v0 arts n (SendRel dst payload) output new quiet s =
    own_flows (SameLast v0 (flows_of kind n.parts)) kind arts n (SendRel dst payload) output new tt s (steps_keep v0 (flows_of kind n.parts) arts n kind) refl
step_last kind v0 arts n (SendPrio m) output new quiet s =
    own_flows (SameLast v0 (flows_of kind n.parts)) kind arts n (SendPrio m) output new tt s (steps_keep v0 (flows_of kind n.parts) arts n kind) refl
step_last kind v0 arts n (SetWeight v weight) output new quiet s =
    own_flows (SameLast v0 (flows_of kind n.parts)) kind arts n (SetWeight v weight) output new tt s (steps_keep v0 (flows_of kind n.parts) arts n kind) refl
step_last kind v0 arts n (TakeRel src) output new quiet s =
    own_flows (SameLast v0 (flows_of kind n.parts)) kind arts n (TakeRel src) output new tt s (steps_keep v0 (flows_of kind n.parts) arts n kind) refl
step_last kind v0 arts n (SendKrel m) output new quiet s =
    own_flows (SameLast v0 (flows_of kind n.parts)) kind arts n (SendKrel m) output new tt s (steps_keep v0 (flows_of kind n.parts) arts n kind) refl
step_last kind v0 arts n (TakeKrel src) output new quiet s =
    own_flows (SameLast v0 (flows_of kind n.parts)) kind arts n (TakeKrel src) output new tt s (steps_keep v0 (flows_of kind n.parts) arts n kind) refl
step_last kind v0 arts n TakePrio output new quiet s =
    own_flows (SameLast v0 (flows_of kind n.parts)) kind arts n TakePrio output new tt s (steps_keep v0 (flows_of kind n.parts) arts n kind) refl

-- ---- in runs

came_by : (v : NodeId) (from : NodeId) (o : Option (List ℕ)) (f : List ℕ → List ℕ) (i : Input) → option_map (λ bytes. Datagram from (f bytes)) o ≡ Some i
    → NoPoll v i
came_by v from None f i e = absurd cc
came_by v from (Some bytes) f i e = let is : Datagram from (f bytes) ≡ i = cc in subst (NoPoll v) is tt

either_by : (v : NodeId) (t : Bool) (i j : Input) → NoPoll v j → cond t (Some j) None ≡ Some i → NoPoll v i
either_by v true i j quiet e = let is : j ≡ i = cc in subst (NoPoll v) is quiet
either_by v false i j quiet e = absurd cc

just : (v : NodeId) (i j : Input) → NoPoll v j → Some j ≡ Some i → NoPoll v i
just v i j quiet e = let is : j ≡ i = cc in subst (NoPoll v) is quiet

pub no_poll : (arts : Arts) (x : Setting) (w : World) (n : NodeState) (e : Event) (i : Input) (u v : NodeId) → acting e ≡ u → is_poll u v e ≡ false
    → input_of arts x w n e ≡ Some i → NoPoll v i
no_poll arts x w n (events.Poll a b) i u v acts off is =
    just v i (Poll b)
    (λ same. absurd
    (let yes : (a.0 == u.0 && b.0 == v.0) ≡ true =
    rw (eq-eqb a.0 u.0 (ap (λ (z : NodeId). z.0) acts), eq-eqb b.0 v.0 (ap (λ (z : NodeId). z.0) same)) refl in let never : true ≡ false =
    sym yes ∙ off in cc)) is
no_poll arts x w n (events.Rel a b c) i u v acts off is = just v i _ tt is
no_poll arts x w n (events.Prio a b c f g h) i u v acts off is = just v i _ tt is
no_poll arts x w n (events.Krel a b c f) i u v acts off is = just v i _ tt is
no_poll arts x w n (events.KTake a b) i u v acts off is = just v i _ tt is
no_poll arts x w n (events.Take a b) i u v acts off is = just v i _ tt is
no_poll arts x w n (events.TakePrio a) i u v acts off is = just v i _ tt is
no_poll arts x w n (events.Tick a b) i u v acts off is = just v i _ tt is
no_poll arts x w n (events.Weight a b c) i u v acts off is = just v i _ tt is
no_poll arts x w n (events.Pass a b c) i u v acts off is = came_by v a (frame_in w.directions a b c) (λ bytes. bytes) i is
no_poll arts x w n (events.Flip a b c f g) i u v acts off is = came_by v a (frame_in w.directions a b c) (flipped f g) i is
no_poll arts x w n (events.Inject a b c) i u v acts off is = just v i _ tt is
no_poll arts x w n (events.Craft a b c f) i u v acts off is =
    either_by v (nat_lt (crafts w.crafted c) x.total) i (Datagram a (crafted_frame arts n a (crafted_contents arts x w.crafted n c (body_of f)))) tt is
no_poll arts x w n (events.CraftStatus a b c f g h) i u v acts off is = just v i _ tt is
no_poll arts x w n (events.Publish a b) i u v acts off is = just v i _ tt is
no_poll arts x w n (events.CraftDocument a b c f g) i u v acts off is =
    either_by v (may_sign x w.crafted c) i
    (Datagram a (crafted_frame arts n a (with_document (crafted_document arts x w.crafted c f (unwrap_or g (last_weights x w.published)))))) tt is
no_poll arts x w n (events.Start a) i u v acts off is = absurd cc
no_poll arts x w n (events.Stop a) i u v acts off is = absurd cc
