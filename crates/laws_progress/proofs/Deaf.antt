-- The view of a neighbour stays where nothing comes from it.
use Rattle.sp_rules.specs.Link.{advanced}
use Rattle.sp_rules.specs.Polls.{is_served, parts_after, polled}
use Rattle.laws_node.proofs.Adopting.{publishing, reading}
use Rattle.laws_progress.proofs.Slots.{one_same}
use Rattle.laws_runs.proofs.NoStarts.{NoStart, pieces_at}
use Rattle.sp_rules.specs.declared.node.NodeRefused.{NodeRefused}
use Rattle.laws_runs.proofs.StartPieces.{StartLast, same_lives, greeted_lives, last_where}
use Rattle.std.proofs.Common.{◌≡◌, ℕ, true, List, [], ◌∷◌, Option, Some, None, sym, ap, subst, ◌∙◌, inl, inr, Bool}
use Rattle.sp_base.specs.declared.id.Flow.{Flow}
use Rattle.sp_base.specs.declared.id.NodeId.{NodeId}
use Rattle.sp_msg.specs.declared.kept.Kept.{Kept}
use Rattle.sp_rules.specs.Arts.{Arts}
use Rattle.sp_rules.specs.Arrivals.{reply_at, arrival_at, parts_met, greeted, sections_in, before_document, document_at, read_by, rises}
use Rattle.sp_rules.specs.Handle.{Arrival, handle, handle_all}
use Rattle.sp_rules.specs.Lives.{held_boot}
use Rattle.sp_rules.specs.Node.{NodeState, call_refusal, kept_or, called, with_link, link_in}
use Rattle.sp_rules.specs.Parts.{Parts}
use Rattle.sp_rules.specs.Pieces.{Piece, AckPiece, PrioAckPiece, PrioPiece, RelPiece, ReportPiece, WeightPiece, EpochPiece}
use Rattle.sp_rules.specs.Rel.{RelState, due_place, flow_in, next_place, peer_in, reported, served, served_at}
use Rattle.sp_rules.specs.Rel.{settled, settled_at, told, with_peer, no_views}
use Rattle.sp_rules.specs.Steps.{Input, NodeStep, Output, Poll, Datagram, Tick, SendRel, SendPrio, SetWeight, TakeRel, TakePrio, SendKrel, TakeKrel, Publish}
use Rattle.laws_node.proofs.Tables.{cond_either}
use Rattle.sp_base.specs.Rows.{replace_where}
use Rattle.sp_rules.specs.Rel.{RelPeer, View, view_in, is_peer, new_peer}
use Rattle.std.specs.List.{list_any}
use Rattle.std.proofs.lemmas.Bool.{cases_eq, eqb-true, eq-eqb, ne_eqb}
use Rattle.laws_runs.proofs.FlowFacts.{first_replaced, other_replaced}
use Rattle.laws_runs.proofs.Tables.{same_node}
use Rattle.laws_progress.proofs.Keys.{peer_is}
use Rattle.laws_progress.proofs.SlotHeeds.{view_of}
use Rattle.sp_rules.specs.Parts.{flows_of, closed}
use Rattle.sp_rules.specs.declared.kflow.FlowKind.{FlowKind}
use Rattle.laws_runs.proofs.KindFacts.{closed_flows, polled_flows}
use Rattle.laws_progress.proofs.EitherKind.{StepsKeep, greeted_either, own_flows, piece_flows}

abbrev pub ViewIs : NodeId → Flow → View → RelState → Type 0
ViewIs u flow w0 r = view_of r u flow ≡ w0

abbrev pub NoHear : NodeId → Input → Type 0
NoHear u (Datagram from bytes) = from ≡ u → ⊥
NoHear u _ = Unit {0}

other_peer : (u v : NodeId) (q : RelPeer) (ps : List RelPeer) → q.peer ≡ v → (v ≡ u → ⊥) → peer_in (replace_where (is_peer v) q ps) u ≡ peer_in ps u
other_peer u v q ps is away =
    other_replaced (is_peer v) (is_peer u) (new_peer [] u) q ps
    (λ p t. ne_eqb _ _ (λ z. away (sym (same_node _ _ (eqb-true _ _ t)) ∙ same_node _ _ z)))
    (ne_eqb _ _ (λ z. away (sym is ∙ same_node _ _ z)))

reported_view : (u : NodeId) (flow : Flow) (w0 : View) (r : RelState) (v : NodeId) (fl : Flow) (base have : ℕ) → (v ≡ u → ⊥) → ViewIs u flow w0 r
    → ViewIs u flow w0 (reported r v fl base have)
reported_view u flow w0 r v fl base have away h =
    cond_either (ViewIs u flow w0) (flow_in r.flows fl).active (with_peer r v (told (peer_in r.peers v) fl base have)) r
    (ap (λ (p : RelPeer). view_in p.views flow) (other_peer u v (told (peer_in r.peers v) fl base have) r.peers (peer_is r v) away) ∙ h) h

served_view : (u : NodeId) (flow : Flow) (w0 : View) (r : RelState) (v : NodeId) → list_any (is_peer u) r.peers ≡ true → ViewIs u flow w0 r
    → ViewIs u flow w0 (served r v)
served_view u flow w0 r v there h = go (next_place r v)
  where
    put : (place : ℕ) → ViewIs u flow w0 (served_at r v (Some place))
    put place = elim (cases_eq v.0 u.0) [
      | inl z ↦
          let same : v ≡ u = same_node v u z in
          let q : RelPeer = record (peer_in r.peers u) { last = Some place } in
          ap (λ y. view_of (with_peer r y (record (peer_in r.peers y) { last = Some place })) u flow) same
          ∙ ap (λ (p : RelPeer). view_in p.views flow)
          (first_replaced (is_peer u) (new_peer [] u) q r.peers (eq-eqb _ _ (ap (λ (n : NodeId). n.0) (peer_is r u))) there) ∙ h
      | inr z ↦ ap (λ (p : RelPeer). view_in p.views flow)
          (other_peer u v (record (peer_in r.peers v) { last = Some place }) r.peers (peer_is r v) (λ e. z (ap (λ (n : NodeId). n.0) e))) ∙ h
    ]

    go : (place : Option ℕ) → ViewIs u flow w0 (served_at r v place)
    go None = h
    go (Some place) = put place

settled_view : (u : NodeId) (flow : Flow) (w0 : View) (r : RelState) (o : Kept) → ViewIs u flow w0 r → ViewIs u flow w0 (settled r o)
settled_view u flow w0 r o h = go (due_place r)
  where
    go : (place : Option ℕ) → ViewIs u flow w0 (settled_at r o place)
    go None = h
    go (Some place) = h

-- ---- pieces and steps

piece_view : (kind : FlowKind) (u : NodeId) (flow : Flow) (w0 : View) (arts : Arts) (at : Arrival) (p : Parts) (piece : Piece) → NoStart piece
    → (at.from ≡ u → ⊥) → ViewIs u flow w0 (flows_of kind p) → ViewIs u flow w0 (flows_of kind (handle arts at p piece).parts)
piece_view kind u flow w0 arts at p piece none away h =
    piece_flows (ViewIs u flow w0) kind arts at p piece none (record {
      report = λ r fl base have is. reported_view u flow w0 r at.from fl base have away is;
      ack = λ r o is. is;
      message = λ r flow o new is. is;
    }) h

-- where the boots of the flow's ends stay
pub pieces_view : (kind : FlowKind) (u : NodeId) (flow : Flow) (w0 : View) (arts : Arts) (at : Arrival) (p : Parts) (pieces : List Piece) → StartLast pieces
    → (at.from ≡ u → ⊥)
    → held_boot (handle_all arts at p pieces).parts.lives flow.src ≡ held_boot p.lives flow.src
    → held_boot (handle_all arts at p pieces).parts.lives flow.dst ≡ held_boot p.lives flow.dst
    → ViewIs u flow w0 (flows_of kind p) → ViewIs u flow w0 (flows_of kind (handle_all arts at p pieces).parts)
pieces_view kind u flow w0 arts at p [] last away src dst h = h
pieces_view kind u flow w0 arts at p (piece ∷ pieces) (inl plain) away src dst h =
    let first = (handle arts at p piece).parts in
    let same = same_lives arts at p piece plain.0 in
    pieces_view kind u flow w0 arts at first pieces plain.1 away (src ∙ ap (λ ls. held_boot ls flow.src) (sym same))
    (dst ∙ ap (λ ls. held_boot ls flow.dst) (sym same))
    (piece_view kind u flow w0 arts at p piece plain.0 away h)
pieces_view kind u flow w0 arts at p (piece ∷ pieces) (inr none) away src dst h =
    let lone : held_boot (handle arts at p piece).parts.lives flow.src ≡ held_boot p.lives flow.src =
    ap (λ ps. held_boot (handle_all arts at (handle arts at p piece).parts ps).parts.lives flow.src) (sym none) ∙ src in
    let twin : held_boot (handle arts at p piece).parts.lives flow.dst ≡ held_boot p.lives flow.dst =
    ap (λ ps. held_boot (handle_all arts at (handle arts at p piece).parts ps).parts.lives flow.dst) (sym none) ∙ dst in
    subst (λ ps. ViewIs u flow w0 (flows_of kind (handle_all arts at (handle arts at p piece).parts ps).parts)) (sym none) (one_view piece lone twin)
  where
    one_view : (q : Piece) → held_boot (handle arts at p q).parts.lives flow.src ≡ held_boot p.lives flow.src
        → held_boot (handle arts at p q).parts.lives flow.dst ≡ held_boot p.lives flow.dst → ViewIs u flow w0 (flows_of kind (handle arts at p q).parts)
    one_view (EpochPiece o) src dst = (one_same kind arts at p o flow src dst).views u ∙ h
    one_view (WeightPiece o) src dst = piece_view kind u flow w0 arts at p (WeightPiece o) tt away h
    one_view (PrioAckPiece number) src dst = piece_view kind u flow w0 arts at p (PrioAckPiece number) tt away h
    one_view (PrioPiece number o) src dst = piece_view kind u flow w0 arts at p (PrioPiece number o) tt away h
    one_view (ReportPiece k fl sboot dboot base have) src dst = piece_view kind u flow w0 arts at p (ReportPiece k fl sboot dboot base have) tt away h
    one_view (AckPiece k fl o) src dst = piece_view kind u flow w0 arts at p (AckPiece k fl o) tt away h
    one_view (RelPiece k fl o) src dst = piece_view kind u flow w0 arts at p (RelPiece k fl o) tt away h

-- another neighbour's new life leaves it
greeted_view : (kind : FlowKind) (u : NodeId) (flow : Flow) (w0 : View) (epochs risen : Bool) (v : NodeId) (p : Parts) → (v ≡ u → ⊥)
    → ViewIs u flow w0 (flows_of kind p) → ViewIs u flow w0 (flows_of kind (greeted epochs risen v p))
greeted_view kind u flow w0 epochs risen v p away h =
    let r = flows_of kind p in
    greeted_either (ViewIs u flow w0) kind epochs risen v p
    (ap (λ (q : RelPeer). view_in q.views flow) (other_peer u v (no_views (peer_in r.peers v)) r.peers (peer_is r v) away) ∙ h) h

-- ---- steps

kept_view : {X : Type 0} (kind : FlowKind) (u : NodeId) (flow : Flow) (w0 : View) (r : Option X) (n m : NodeState)
    → ViewIs u flow w0 (flows_of kind n.parts) → ViewIs u flow w0 (flows_of kind m.parts) → ViewIs u flow w0 (flows_of kind (kept_or r n m).parts)
kept_view kind u flow w0 None n m old new = new
kept_view kind u flow w0 (Some x) n m old new = old

steps_keep : (u : NodeId) (flow : Flow) (w0 : View) (arts : Arts) (n : NodeState) (kind : FlowKind) → StepsKeep (ViewIs u flow w0) arts n kind
steps_keep u flow w0 arts n kind = record { settle = λ r o h. settled_view u flow w0 r o h; push = λ o is h. h; take = λ r src h. h }

-- another version leaves it
closed_view : (kind : FlowKind) (u : NodeId) (flow : Flow) (w0 : View) (p : Parts) (least : List ℕ) (gone : List NodeId)
    → ViewIs u flow w0 (flows_of kind p) → ViewIs u flow w0 (flows_of kind (closed p least gone))
closed_view kind u flow w0 p least gone h = subst (ViewIs u flow w0) (sym (closed_flows kind p least gone)) h

pub step_view : (kind : FlowKind) (u : NodeId) (flow : Flow) (w0 : View) (arts : Arts) (n : NodeState) (input : Input) (output : Output) (new : NodeState)
    → NodeStep arts n input output new
    → held_boot new.parts.lives flow.src ≡ held_boot n.parts.lives flow.src → held_boot new.parts.lives flow.dst ≡ held_boot n.parts.lives flow.dst
    → list_any (is_peer u) (flows_of kind n.parts).peers ≡ true → NoHear u input → ViewIs u flow w0 (flows_of kind n.parts)
    → ViewIs u flow w0 (flows_of kind new.parts)
step_view kind u flow w0 arts n (Poll v) output new s at_src at_dst there quiet h =
    subst (λ (m : NodeState). ViewIs u flow w0 (flows_of kind m.parts)) (sym s.1)
    (kept_view kind u flow w0 (call_refusal n v) n (called n (with_link n v (advanced (link_in n v))) (parts_after n v)) h
    (cond_either (λ (p : Parts). ViewIs u flow w0 (flows_of kind p)) (is_served n v) (polled n.fixed n.parts v) n.parts
    (subst (ViewIs u flow w0) (sym (polled_flows kind n.fixed n.parts v)) (served_view u flow w0 (flows_of kind n.parts) v there h)) h))
step_view kind u flow w0 arts n (Datagram v bytes) output new s at_src at_dst there quiet h =
    subst (λ (m : NodeState). ViewIs u flow w0 (flows_of kind m.parts)) (sym s.1)
    (go (call_refusal n v) (ap (λ (m : NodeState). held_boot m.parts.lives flow.src) (sym s.1) ∙ at_src)
    (ap (λ (m : NodeState). held_boot m.parts.lives flow.dst) (sym s.1) ∙ at_dst))
  where
    left : NodeState
    left = before_document arts n v bytes

    -- its document leaves the boots that are held and what is known of neighbours
    Stays : NodeState → Type 0
    Stays m =
        held_boot m.parts.lives flow.src ≡ held_boot n.parts.lives flow.src → held_boot m.parts.lives flow.dst ≡ held_boot n.parts.lives flow.dst
        → ViewIs u flow w0 (flows_of kind m.parts)

    first : Stays left
    first src dst =
        let risen = rises arts n v bytes in
        let lives = greeted_lives n.fixed.epochs risen v n.parts in
        pieces_view kind u flow w0 arts (arrival_at n v) (parts_met arts n v bytes) (pieces_at arts n v bytes)
        (last_where (reply_at arts n v bytes) n.fixed (sections_in arts n.fixed bytes)) quiet
        (src ∙ ap (λ ls. held_boot ls flow.src) (sym lives)) (dst ∙ ap (λ ls. held_boot ls flow.dst) (sym lives))
        (greeted_view kind u flow w0 n.fixed.epochs risen v n.parts quiet h)

    go : (r : Option NodeRefused) → Stays (kept_or r n (read_by arts left (document_at arts n v bytes)))
    go (Some refused) src dst = h
    go None src dst =
        reading arts left (document_at arts n v bytes) (λ m told. Stays m) first
        (λ document d is reads by src dst. closed_view kind u flow w0 left.parts _ _ (first src dst)) src dst
step_view kind u flow w0 arts n (Publish document) output new s at_src at_dst there quiet h =
    subst (λ (m : NodeState). ViewIs u flow w0 (flows_of kind m.parts)) (sym s.1)
    (publishing arts n document (λ m told. ViewIs u flow w0 (flows_of kind m.parts)) h (λ d reads by. closed_view kind u flow w0 n.parts _ _ h))
step_view kind u flow w0 arts n (Tick now) output new s at_src at_dst there quiet h =
    own_flows (ViewIs u flow w0) kind arts n (Tick now) output new tt s (steps_keep u flow w0 arts n kind) h
step_view kind u flow w0 arts n (SendRel dst payload) output new s at_src at_dst there quiet h =
    own_flows (ViewIs u flow w0) kind arts n (SendRel dst payload) output new tt s (steps_keep u flow w0 arts n kind) h
step_view kind u flow w0 arts n (SendPrio m) output new s at_src at_dst there quiet h =
    own_flows (ViewIs u flow w0) kind arts n (SendPrio m) output new tt s (steps_keep u flow w0 arts n kind) h
step_view kind u flow w0 arts n (SetWeight v weight) output new s at_src at_dst there quiet h =
    own_flows (ViewIs u flow w0) kind arts n (SetWeight v weight) output new tt s (steps_keep u flow w0 arts n kind) h
step_view kind u flow w0 arts n (TakeRel src) output new s at_src at_dst there quiet h =
    own_flows (ViewIs u flow w0) kind arts n (TakeRel src) output new tt s (steps_keep u flow w0 arts n kind) h
step_view kind u flow w0 arts n (SendKrel m) output new s at_src at_dst there quiet h =
    own_flows (ViewIs u flow w0) kind arts n (SendKrel m) output new tt s (steps_keep u flow w0 arts n kind) h
step_view kind u flow w0 arts n (TakeKrel src) output new s at_src at_dst there quiet h =
    own_flows (ViewIs u flow w0) kind arts n (TakeKrel src) output new tt s (steps_keep u flow w0 arts n kind) h
step_view kind u flow w0 arts n TakePrio output new s at_src at_dst there quiet h =
    own_flows (ViewIs u flow w0) kind arts n TakePrio output new tt s (steps_keep u flow w0 arts n kind) h
