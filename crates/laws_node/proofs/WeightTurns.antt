-- What is told of a change of the weights, and what of them the pieces of a frame turn.
use Rattle.std.proofs.Common.{◌≡◌, ℕ, ◌*◌, ◌==◌, ◌&&◌, Bool, true, false, cond, List, [], ◌∷◌, ◌++◌, length, Option, Some, None, refl, sym, ap}
use Rattle.std.proofs.Common.{◌∙◌, inl, inr, nat_lt}
use Rattle.std.specs.Option.{option_and_then}
use Rattle.std.specs.List.{slice_get}
use Rattle.std.proofs.lemmas.Bool.{cases_Bool}
use Rattle.sp_base.specs.declared.id.NodeId.{NodeId}
use Rattle.sp_msg.specs.declared.body.Body.{Body}
use Rattle.sp_msg.specs.declared.body.Body.TheVariants as bodies
use Rattle.sp_msg.specs.declared.body.WeightBody.{WeightBody}
use Rattle.sp_msg.specs.declared.effect.Effect.{Effect}
use Rattle.sp_msg.specs.declared.kept.Kept.{Kept}
use Rattle.sp_rules.specs.Answers.{ack_answer, epoch_answer, is_new, prio_answer, weight_answer}
use Rattle.sp_rules.specs.Arrivals.{greeted}
use Rattle.sp_rules.specs.Arts.{Arts}
use Rattle.sp_rules.specs.Flow.{flow_said}
use Rattle.sp_rules.specs.Handle.{Arrival, ack_item, handle, handle_all, heard_where, met, met_effects, offer_of, offer_to, rel_answer_to, rel_item}
use Rattle.sp_rules.specs.Handle.{reported_where, weight_effects}
use Rattle.sp_rules.specs.Parts.{Parts, flows_of, is_signed, with_flows}
use Rattle.sp_rules.specs.Pieces.{Piece, WeightPiece, PrioAckPiece, PrioPiece, ReportPiece, AckPiece, RelPiece, EpochPiece}
use Rattle.sp_rules.specs.Prio as prio
use Rattle.sp_rules.specs.Prio.{admit_prio, judge_prio, prio_effects}
use Rattle.sp_rules.specs.PrioPeer as rows
use Rattle.sp_rules.specs.Rel.{admit_ack, admit_rel, is_to, judge_ack_of, judge_rel_of, rel_effects, reported}
use Rattle.sp_rules.specs.Lives.{are_held, is_dated, judge_epoch, origin_said}
use Rattle.sp_rules.specs.Weights.{WeightState, held, held_in, offer, row_for, row_of, weight_of}
use Rattle.sp_rules.specs.declared.answers.Item.TheVariants as items
use Rattle.sp_rules.specs.declared.answers.PrioAnswer.{PrioAnswer}
use Rattle.sp_rules.specs.declared.answers.PrioAnswer.TheVariants as prios
use Rattle.sp_rules.specs.declared.weights.Offer.TheVariants as offers
use Rattle.sp_rules.specs.declared.weights.TheConstants.{MAX_OWN_HEARD}
use Rattle.sp_topology.specs.declared.topology.Edge.{Edge}
use Rattle.laws_node.specs.HeldUpdates.{last_weight}
use Rattle.laws_node.specs.Lives.{last_told}
use Rattle.laws_node.proofs.FlowKinds.{weights_beside}
use Rattle.laws_node.proofs.Handles.{new_weight}
use Rattle.laws_node.proofs.LastWeights.{At, HasRows, IsUpdateAt, held_said, length_stays, new_at, said as row_said}
use Rattle.laws_node.proofs.SilentEffects.{Silent, last_both, silent_either, silent_left, silent_prio}
use Rattle.laws_node.proofs.SilentEffects.{silent_met, silent_rel}

-- ---- what is told of a change of the weights

-- the rows are there, and each says the last weight that was told of its end
pub record Turns (old : WeightState) (told : List Effect) (new : WeightState) : Type 0 where
  pub edges : new.edges ≡ old.edges
  pub rows : HasRows new
  pub said : (edge end row : ℕ) → At old edge end row → row_said new row ≡ last_told edge end (row_said old row) told

pub at_later : (old new : WeightState) (edge end row : ℕ) → new.edges ≡ old.edges → At old edge end row → At new edge end row
at_later old new edge end row e at =
    record { joined = at.joined; there = ap (λ (es : List Edge). slice_get es edge) e ∙ at.there; placed = at.placed }

pub stays : (old new : WeightState) (es : List Effect) → Silent es → new.edges ≡ old.edges → new.rows ≡ old.rows → HasRows old → Turns old es new
stays old new es none e f h = record {
  edges = e;
  rows = record { rows = ap (λ (rs : List (Option Kept)). length rs) f ∙ h.rows ∙ ap (λ (x : List Edge). 2 * length x) (sym e) };
  said = λ edge end row at. ap (λ (rs : List (Option Kept)). weight_of (held_in rs row)) f ∙ sym (none edge end (row_said old row));
}

pub on : (old mid new : WeightState) (xs ys : List Effect) → Turns old xs mid → Turns mid ys new → Turns old (xs ++ ys) new
on old mid new xs ys one two = record {
  edges = two.edges ∙ one.edges;
  rows = two.rows;
  said = λ edge end row at.
      two.said edge end row (at_later old mid edge end row one.edges at) ∙ ap (λ (w : ℕ). last_told edge end w ys) (one.said edge end row at)
      ∙ sym (last_both edge end xs ys (row_said old row));
}

-- an update is held
pub held_turns : (s : WeightState) (o : Kept) → IsUpdateAt s o.body → HasRows s → Turns s (weight_effects o.body) (held s o)
held_turns s o at h = record {
  edges = refl;
  rows = record { rows = length_stays s.rows o (row_for s.edges o.body) ∙ h.rows };
  said = λ edge end row here. held_said s o edge end row h here at ∙ same edge end (row_said s row) o.body at.update at.is;
}
  where
    same : (edge end w : ℕ) (body : Body) (u : WeightBody) → body ≡ bodies.Weight u
        → last_weight edge end w (record { body = body; signature = o.signature } ∷ []) ≡ last_told edge end w (weight_effects body)
    same edge end w (bodies.Weight v) u e = refl
    same edge end w (bodies.Prio v) u e = absurd (cc)
    same edge end w (bodies.Rel v) u e = absurd (cc)
    same edge end w (bodies.Ack v) u e = absurd (cc)
    same edge end w (bodies.Krel v) u e = absurd (cc)
    same edge end w (bodies.Kack v) u e = absurd (cc)
    same edge end w (bodies.Epoch v) u e = absurd (cc)

pub offered : (me : NodeId) (s : WeightState) (body : Body) → offer_to me s body ≡ offers.New → offer_of s body ≡ offers.New
offered me s (bodies.Weight u) e = go ((u.origin.0 == me.0) && nat_lt MAX_OWN_HEARD u.seq) e
  where
    go : (t : Bool) → cond t offers.Foreign (offer s u) ≡ offers.New → offer s u ≡ offers.New
    go true e = absurd (cc)
    go false e = e
offered me s (bodies.Prio u) e = absurd (cc)
offered me s (bodies.Rel u) e = absurd (cc)
offered me s (bodies.Ack u) e = absurd (cc)
offered me s (bodies.Krel u) e = absurd (cc)
offered me s (bodies.Kack u) e = absurd (cc)
offered me s (bodies.Epoch u) e = absurd (cc)

-- the row of an own update is there
pub own_at : (s : WeightState) (u : WeightBody) (row : ℕ) → row_for s.edges (bodies.Weight u) ≡ Some row → IsUpdateAt s (bodies.Weight u)
own_at s u row e = go (slice_get s.edges u.edge.0) refl e
  where
    go : (o : Option Edge) → slice_get s.edges u.edge.0 ≡ o → option_and_then (λ (f : Edge). row_of u.edge.0 f u.origin.0) o ≡ Some row
        → IsUpdateAt s (bodies.Weight u)
    go None there e = absurd (cc)
    go (Some f) there e = record { update = u; is = refl; edge = f; there = there; row = row; placed = e }

-- ---- a datagram

either : (t : Bool) (x p : Parts) → x.weights ≡ p.weights → (cond t x p).weights ≡ p.weights
either true x p e = e
either false x p e = refl

heard : (answer : PrioAnswer) (v : NodeId) (number : ℕ) (p : Parts) → (heard_where answer v number p).weights ≡ p.weights
heard prios.New v number p = refl
heard prios.Seen v number p = refl
heard prios.BadEnd v number p = refl
heard prios.Expired v number p = refl
heard prios.BadSig v number p = refl
heard prios.Epoch v number p = refl

pub still : (p : Parts) (w : WeightState) (es : List Effect) → Silent es → w ≡ p.weights → HasRows p.weights → Turns p.weights es w
still p w es none e h = stays p.weights w es none (ap (λ (s : WeightState). s.edges) e) (ap (λ (s : WeightState). s.rows) e) h

pub nothing : Silent []
nothing = λ edge end w. refl

one_turns : (arts : Arts) (at : Arrival) (p : Parts) (piece : Piece) → HasRows p.weights
    → Turns p.weights (handle arts at p piece).effects (handle arts at p piece).parts.weights
one_turns arts at p (WeightPiece o) h =
    elim (cases_Bool (is_new (items.Weight (weight_answer (is_signed arts at.fixed o) (offer_to at.fixed.me p.weights o.body))))) [
      | inl t ↦
          let is = new_weight (is_signed arts at.fixed o) (offer_to at.fixed.me p.weights o.body) t in
          let done = held_turns p.weights o (new_at p.weights o.body (offered at.fixed.me p.weights o.body is.1)) h in
          rw t done
      | inr t ↦ let same = still p p.weights [] nothing refl h in rw t same
    ]
one_turns arts at p (PrioAckPiece number) h =
    let q = prio.peer_in p.prio at.from.0 in
    still p p.weights (rows.acked_effects q number) (silent_left q.peer q.store (rows.landed q number)) refl h
one_turns arts at p (PrioPiece number o) h =
    let answer = prio_answer (is_signed arts at.fixed o) (is_dated p.lives o.body) (judge_prio p.prio o.body at.now) in
    let t = is_new (items.Prio answer) in
    let admitted = record p { prio = admit_prio p.prio o (Some at.from) } in
    still p (heard_where answer at.from number (cond t admitted p)).weights (cond t (prio_effects p.prio o (Some at.from)) [])
    (silent_either t (prio_effects p.prio o (Some at.from)) (silent_prio p.prio o (Some at.from)))
    (heard answer at.from number (cond t admitted p) ∙ either t admitted p refl) h
one_turns arts at p (ReportPiece kind flow sboot dboot base have) h =
    let t = are_held p.lives flow sboot dboot in
    let r = reported (flows_of kind p) at.from flow base have in
    still p (reported_where kind t at.from flow base have p).weights [] nothing (either t (with_flows kind r p) p (weights_beside kind r p)) h
one_turns arts at p (AckPiece kind flow o) h =
    let r = flows_of kind p in
    let t = is_new (ack_item kind (ack_answer (is_signed arts at.fixed o) (is_dated p.lives o.body) (judge_ack_of r flow o.body))) in
    still p (cond t (with_flows kind (admit_ack r o) p) p).weights (cond t [] []) (silent_either t [] nothing)
    (either t (with_flows kind (admit_ack r o) p) p (weights_beside kind (admit_ack r o) p)) h
one_turns arts at p (RelPiece kind flow o) h =
    let r = flows_of kind p in
    let t = is_new (rel_item kind (rel_answer_to arts at p (judge_rel_of r flow o.body) o)) in
    still p (cond t (with_flows kind (admit_rel r o) p) p).weights (cond t (rel_effects r o) [])
    (silent_either t (rel_effects r o) (silent_rel (is_to r (flow_said o.body)) o.body))
    (either t (with_flows kind (admit_rel r o) p) p (weights_beside kind (admit_rel r o) p)) h
one_turns arts at p (EpochPiece o) h =
    let t = is_new (items.Epoch (epoch_answer (is_signed arts at.fixed o) (judge_epoch at.fixed.me p.lives o.body))) in
    still p (cond t (met p o) p).weights (cond t (met_effects p (origin_said o.body)) [])
    (silent_either t (met_effects p (origin_said o.body)) (silent_met p (origin_said o.body))) (either t (met p o) p refl) h

-- another life of a neighbour changes no weight
pub greeted_weights : (epochs risen : Bool) (v : NodeId) (p : Parts) → (greeted epochs risen v p).weights ≡ p.weights
greeted_weights true true v p = refl
greeted_weights true false v p = refl
greeted_weights false risen v p = refl

pub all_turns : (arts : Arts) (at : Arrival) (p : Parts) (pieces : List Piece) → HasRows p.weights
    → Turns p.weights (handle_all arts at p pieces).effects (handle_all arts at p pieces).parts.weights
all_turns arts at p [] h = still p p.weights [] nothing refl h
all_turns arts at p (piece ∷ pieces) h =
    let first = handle arts at p piece in
    let others = handle_all arts at first.parts pieces in
    let one = one_turns arts at p piece h in
    on p.weights first.parts.weights others.parts.weights first.effects others.effects one (all_turns arts at first.parts pieces one.rows)
