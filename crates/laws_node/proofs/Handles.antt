-- What each piece of a frame keeps, and all of them.
use Rattle.std.proofs.Common.{◌≡◌, ◌<◌, ◌≤◌, ℕ, ◌+◌, ◌^◌, Bool, true, false, List, [], ◌∷◌, length, Some, refl, sym, ap, ◌∙◌, arith, cond}
use Rattle.std.specs.Prelude.{IsTrue}
use Rattle.sp_base.specs.declared.id.Flow.{Flow}
use Rattle.sp_base.specs.declared.id.NodeId.{NodeId}
use Rattle.sp_frame.specs.Objects.{is_of}
use Rattle.sp_msg.specs.Bodies.{HasGoodFieldsIn}
use Rattle.sp_msg.specs.declared.body.Body.{Body}
use Rattle.sp_msg.specs.declared.body.Body.TheVariants as bodies
use Rattle.sp_msg.specs.declared.kept.Kept.{Kept}
use Rattle.sp_rules.specs.Answers.{ack_answer, epoch_answer, is_new, prio_answer, rel_answer, weight_answer}
use Rattle.sp_rules.specs.Arts.{Arts}
use Rattle.sp_rules.specs.Handle.{Arrival, ack_item, handle, handle_all, heard_where, met, offer_to, rel_answer_to, rel_item}
use Rattle.sp_rules.specs.Lives.{are_held, is_dated, judge_epoch, origin_said}
use Rattle.sp_rules.specs.Parts.{Parts, flows_of, is_signed, with_flows}
use Rattle.sp_rules.specs.Pieces.{Piece, WeightPiece, PrioAckPiece, PrioPiece, ReportPiece, AckPiece, RelPiece, EpochPiece}
use Rattle.sp_rules.specs.Prio.{PrioState, admit_prio, heard, judge_prio}
use Rattle.sp_rules.specs.Rel.{admit_ack, admit_rel, judge_ack_of, judge_rel_of, reported}
use Rattle.sp_rules.specs.Kflow.{came_over}
use Rattle.sp_rules.specs.Weights.{held}
use Rattle.sp_rules.specs.declared.answers.Item.TheVariants as items
use Rattle.sp_rules.specs.declared.answers.AckAnswer.{AckAnswer}
use Rattle.sp_rules.specs.declared.answers.AckAnswer.TheVariants as ack
use Rattle.sp_rules.specs.declared.answers.PrioAnswer.{PrioAnswer}
use Rattle.sp_rules.specs.declared.answers.PrioAnswer.TheVariants as prios
use Rattle.sp_rules.specs.declared.answers.RelAnswer.{RelAnswer}
use Rattle.sp_rules.specs.declared.answers.RelAnswer.TheVariants as rel
use Rattle.sp_rules.specs.declared.kflow.FlowKind.{FlowKind}
use Rattle.sp_rules.specs.declared.kflow.FlowKind.TheVariants.{Plain, Paths}
use Rattle.sp_rules.specs.declared.lives.EpochJudged.{EpochJudged}
use Rattle.sp_rules.specs.declared.lives.EpochJudged.TheVariants as starts
use Rattle.sp_rules.specs.declared.prio.PrioJudged.{PrioJudged}
use Rattle.sp_rules.specs.declared.prio.PrioJudged.TheVariants as judged
use Rattle.sp_rules.specs.declared.rel.AckJudged.{AckJudged}
use Rattle.sp_rules.specs.declared.rel.AckJudged.TheVariants as acks
use Rattle.sp_rules.specs.declared.rel.RelJudged.{RelJudged}
use Rattle.sp_rules.specs.declared.rel.RelJudged.TheVariants as rels
use Rattle.sp_rules.specs.declared.weights.Offer.{Offer}
use Rattle.sp_rules.specs.declared.weights.Offer.TheVariants as offers
use Rattle.laws_node.specs.Nodes.{PartsHold}
use Rattle.laws_node.specs.Sizes.{Fits, Sizes}
use Rattle.laws_node.specs.Stores.{IsPrio, PrioHolds}
use Rattle.laws_node.specs.Asked.{NewKeep}
use Rattle.laws_node.proofs.AskedLemmas.{new_both, new_left, new_right}
use Rattle.laws_node.proofs.FlowKinds.{ack_kind, flows_hold, rel_kind, with_flows_hold}
use Rattle.laws_node.proofs.HeldBoots.{held_epoch_holds, new_epoch}
use Rattle.laws_node.proofs.Priority.{acked_holds, admit_holds, heard_holds, prio_more}
use Rattle.laws_node.proofs.FlowRows.{admit_ack_holds, admit_rel_holds}
use Rattle.laws_node.proofs.Reliable.{reported_holds}
use Rattle.laws_node.proofs.Restarts.{renewed_holds, restarted_holds}
use Rattle.laws_node.proofs.Tables.{cond_either, cond_where}
use Rattle.laws_node.proofs.Updates.{held_holds, new_update}

-- ---- what is asked of pieces

-- an object whose fields are in their ranges, with a signature of the right length
pub record InRange (k : Sizes) (o : Kept) : Type 0 where
  pub fields : HasGoodFieldsIn k.format o.body
  pub long : length o.signature ≡ k.signature_len

-- a piece in its ranges, and of its kind
abbrev pub PieceFits : Sizes → Piece → Type 0
PieceFits k (WeightPiece o) = InRange k o
PieceFits k (PrioAckPiece number) = Unit {0}
PieceFits k (PrioPiece number o) = (number < 2 ^ 64) × InRange k o
PieceFits k (ReportPiece kind flow sboot dboot base have) = Unit {0}
PieceFits k (AckPiece kind flow o) = InRange k o × (is_of (ack_kind kind) o.body ≡ true)
PieceFits k (RelPiece kind flow o) = InRange k o × (is_of (rel_kind kind) o.body ≡ true)
PieceFits k (EpochPiece o) = InRange k o

-- all pieces are
abbrev pub AllFit : Sizes → List Piece → Type 0
AllFit k [] = Unit {0}
AllFit k (piece ∷ pieces) = PieceFits k piece × AllFit k pieces

-- how many priority messages a piece is
abbrev pub messages_in : Piece → ℕ
messages_in (PrioPiece number o) = 1
messages_in _ = 0

-- how many are among pieces
abbrev pub messages : List Piece → ℕ
messages [] = 0
messages (piece ∷ pieces) = messages_in piece + messages pieces

fits_where : (k : Sizes) (o : Kept) → k.keeps o → InRange k o → Fits k o
fits_where k o keeps range = record { fields = range.fields; long = range.long; holds = keeps }

-- ---- a new object was judged new, and is signed

-- an update that is answered as new was new to the weights, and its signature was right
pub new_weight : (right : Bool) (o : Offer) → is_new (items.Weight (weight_answer right o)) ≡ true → (right ≡ true) × (o ≡ offers.New)
new_weight true offers.New e = (refl, refl)
new_weight false offers.New e = absurd (cc)
new_weight right offers.Foreign e = absurd (cc)
new_weight right (offers.Low least) e = absurd (cc)
new_weight right (offers.Old seq) e = absurd (cc)

-- a priority message that is answered as new was judged new, under the held boot, and its signature was right
pub new_prio : (right dated : Bool) (j : PrioJudged) → is_new (items.Prio (prio_answer right dated j)) ≡ true
    → (right ≡ true) × (j ≡ judged.New) × (dated ≡ true)
new_prio true true judged.New e = (refl, refl, refl)
new_prio false true judged.New e = absurd (cc)
new_prio right false judged.New e = absurd (cc)
new_prio right dated judged.BadEnd e = absurd (cc)
new_prio right true judged.Expired e = absurd (cc)
new_prio right false judged.Expired e = absurd (cc)
new_prio right true judged.Seen e = absurd (cc)
new_prio right false judged.Seen e = absurd (cc)

-- whatever kind an acknowledgement is of, the answer is the same
ack_was : (kind : FlowKind) (a : AckAnswer) → is_new (ack_item kind a) ≡ true → a ≡ ack.New
ack_was Plain ack.New e = refl
ack_was Plain ack.BadEnd e = absurd (cc)
ack_was Plain ack.Old e = absurd (cc)
ack_was Plain ack.Ahead e = absurd (cc)
ack_was Plain ack.BadSig e = absurd (cc)
ack_was Plain ack.Epoch e = absurd (cc)
ack_was Paths ack.New e = refl
ack_was Paths ack.BadEnd e = absurd (cc)
ack_was Paths ack.Old e = absurd (cc)
ack_was Paths ack.Ahead e = absurd (cc)
ack_was Paths ack.BadSig e = absurd (cc)
ack_was Paths ack.Epoch e = absurd (cc)

-- it was judged new, under the held boots, and its signature was right
pub new_ack : (kind : FlowKind) (right dated : Bool) (j : AckJudged) → is_new (ack_item kind (ack_answer right dated j)) ≡ true
    → (right ≡ true) × (j ≡ acks.New) × (dated ≡ true)
new_ack kind right dated j e = go right dated j (ack_was kind (ack_answer right dated j) e)
  where
    go : (right dated : Bool) (j : AckJudged) → ack_answer right dated j ≡ ack.New → (right ≡ true) × (j ≡ acks.New) × (dated ≡ true)
    go true true acks.New e = (refl, refl, refl)
    go false true acks.New e = absurd (cc)
    go right false acks.New e = absurd (cc)
    go right dated acks.BadEnd e = absurd (cc)
    go right true acks.Old e = absurd (cc)
    go right false acks.Old e = absurd (cc)
    go right true acks.Ahead e = absurd (cc)
    go right false acks.Ahead e = absurd (cc)

-- whatever kind a message is of, the answer is the same
rel_was : (kind : FlowKind) (a : RelAnswer) → is_new (rel_item kind a) ≡ true → a ≡ rel.New
rel_was Plain rel.New e = refl
rel_was Plain rel.BadEnd e = absurd (cc)
rel_was Plain rel.Old e = absurd (cc)
rel_was Plain rel.Ahead e = absurd (cc)
rel_was Plain rel.Gap e = absurd (cc)
rel_was Plain rel.Full e = absurd (cc)
rel_was Plain rel.InboxFull e = absurd (cc)
rel_was Plain rel.BadSig e = absurd (cc)
rel_was Plain rel.Epoch e = absurd (cc)
rel_was Plain rel.OffMask e = absurd (cc)
rel_was Paths rel.New e = refl
rel_was Paths rel.BadEnd e = absurd (cc)
rel_was Paths rel.Old e = absurd (cc)
rel_was Paths rel.Ahead e = absurd (cc)
rel_was Paths rel.Gap e = absurd (cc)
rel_was Paths rel.Full e = absurd (cc)
rel_was Paths rel.InboxFull e = absurd (cc)
rel_was Paths rel.BadSig e = absurd (cc)
rel_was Paths rel.Epoch e = absurd (cc)
rel_was Paths rel.OffMask e = absurd (cc)

-- it was judged new, under the held boots and over an edge of its mask, and its signature was right
pub new_rel : (kind : FlowKind) (right dated over : Bool) (j : RelJudged) → is_new (rel_item kind (rel_answer right dated over j)) ≡ true
    → (right ≡ true) × (j ≡ rels.New) × (dated ≡ true) × (over ≡ true)
new_rel kind right dated over j e = go right dated over j (rel_was kind (rel_answer right dated over j) e)
  where
    go : (right dated over : Bool) (j : RelJudged) → rel_answer right dated over j ≡ rel.New
        → (right ≡ true) × (j ≡ rels.New) × (dated ≡ true) × (over ≡ true)
    go true true true rels.New e = (refl, refl, refl, refl)
    go false true true rels.New e = absurd (cc)
    go right true false rels.New e = absurd (cc)
    go right false over rels.New e = absurd (cc)
    go right dated over rels.BadEnd e = absurd (cc)
    go right true true rels.Old e = absurd (cc)
    go right true false rels.Old e = absurd (cc)
    go right false over rels.Old e = absurd (cc)
    go right true true rels.Ahead e = absurd (cc)
    go right true false rels.Ahead e = absurd (cc)
    go right false over rels.Ahead e = absurd (cc)
    go right true true rels.Gap e = absurd (cc)
    go right true false rels.Gap e = absurd (cc)
    go right false over rels.Gap e = absurd (cc)
    go right true true rels.Full e = absurd (cc)
    go right true false rels.Full e = absurd (cc)
    go right false over rels.Full e = absurd (cc)
    go right true true rels.InboxFull e = absurd (cc)
    go right true false rels.InboxFull e = absurd (cc)
    go right false over rels.InboxFull e = absurd (cc)

-- an Epoch object that is answered as new was judged new, and its signature was right
pub new_start : (right : Bool) (j : EpochJudged) → is_new (items.Epoch (epoch_answer right j)) ≡ true → (right ≡ true) × (j ≡ starts.New)
new_start true starts.New e = (refl, refl)
new_start false starts.New e = absurd (cc)
new_start right starts.BadEnd e = absurd (cc)
new_start right starts.Old e = absurd (cc)

-- what is judged new as a priority message is one
pub is_prio : (p : PrioState) (body : Body) (now : ℕ) → judge_prio p body now ≡ judged.New → IsPrio body
is_prio p (bodies.Prio b) now e = tt
is_prio p (bodies.Rel b) now e = absurd (cc)
is_prio p (bodies.Ack b) now e = absurd (cc)
is_prio p (bodies.Weight b) now e = absurd (cc)
is_prio p (bodies.Krel b) now e = absurd (cc)
is_prio p (bodies.Kack b) now e = absurd (cc)
is_prio p (bodies.Epoch b) now e = absurd (cc)

-- ---- each piece

module _ (k : Sizes) (arts : Arts) (at : Arrival) (me : at.fixed.me ≡ k.me) (numbers : ℕ) where
  parts_more : (ids more index : ℕ) (p : Parts) → ids ≤ more → PartsHold k numbers ids index p → PartsHold k numbers more index p
  parts_more ids more index p up h = record {
    weights = h.weights;
    prio = prio_more k numbers numbers ids more index index p.prio (omega arith) up (omega arith) h.prio;
    rel = h.rel;
    kflow = h.kflow;
    lives = h.lives;
    origins = h.origins;
  }

  weight_holds : (ids index : ℕ) (p : Parts) (o : Kept)
      → (is_new (items.Weight (weight_answer (is_signed arts at.fixed o) (offer_to at.fixed.me p.weights o.body))) ≡ true → k.keeps o) → InRange k o
      → PartsHold k numbers ids index p
      → PartsHold k numbers ids index (handle arts at p (WeightPiece o)).parts
  weight_holds ids index p o keeps range h =
      cond_where (PartsHold k numbers ids index) (is_new (items.Weight (weight_answer (is_signed arts at.fixed o) (offer_to at.fixed.me p.weights o.body))))
      (record p { weights = held p.weights o }) p
      (λ new.
      let both = new_weight (is_signed arts at.fixed o) (offer_to at.fixed.me p.weights o.body) new in
      let offered : offer_to k.me p.weights o.body ≡ offers.New = ap (λ (u : NodeId). offer_to u p.weights o.body) (sym me) ∙ both.1 in
      let update = new_update k index p.weights o offered (fits_where k o (keeps new) range) h.weights in
      record {
        weights = held_holds k index index update.row p.weights o (omega arith) update.holds h.weights;
        prio = h.prio;
        rel = h.rel;
        kflow = h.kflow;
        lives = h.lives;
        origins = h.origins;
      })
      (λ old. h)

  ack_holds : (ids index : ℕ) (p : Parts) (kind : FlowKind) (flow : Flow) (o : Kept)
      → (is_new (ack_item kind (ack_answer (is_signed arts at.fixed o) (is_dated p.lives o.body) (judge_ack_of (flows_of kind p) flow o.body))) ≡ true
      → k.keeps o) → InRange k o
      → is_of (ack_kind kind) o.body ≡ true → PartsHold k numbers ids index p → PartsHold k numbers ids index (handle arts at p (AckPiece kind flow o)).parts
  ack_holds ids index p kind flow o keeps range is h =
      let r = flows_of kind p in
      cond_where (PartsHold k numbers ids index)
      (is_new (ack_item kind (ack_answer (is_signed arts at.fixed o) (is_dated p.lives o.body) (judge_ack_of r flow o.body))))
      (with_flows kind (admit_ack r o) p) p
      (λ new.
      let both = new_ack kind (is_signed arts at.fixed o) (is_dated p.lives o.body) (judge_ack_of r flow o.body) new in
      with_flows_hold kind k (admit_ack r o) p
      (admit_ack_holds kind k index r flow o both.1 (fits_where k o (keeps new) range) is (flows_hold kind k p h)) h)
      (λ old. h)

  rel_holds : (ids index : ℕ) (p : Parts) (kind : FlowKind) (flow : Flow) (o : Kept)
      → (is_new (rel_item kind (rel_answer_to arts at p (judge_rel_of (flows_of kind p) flow o.body) o)) ≡ true → k.keeps o) → InRange k o
      → is_of (rel_kind kind) o.body ≡ true → PartsHold k numbers ids index p → PartsHold k numbers ids index (handle arts at p (RelPiece kind flow o)).parts
  rel_holds ids index p kind flow o keeps range is h =
      let r = flows_of kind p in
      cond_where (PartsHold k numbers ids index) (is_new (rel_item kind (rel_answer_to arts at p (judge_rel_of r flow o.body) o)))
      (with_flows kind (admit_rel r o) p) p
      (λ new.
      let both = new_rel kind (is_signed arts at.fixed o) (is_dated p.lives o.body) (came_over p.kflow at.from o.body) (judge_rel_of r flow o.body) new in
      with_flows_hold kind k (admit_rel r o) p
      (admit_rel_holds kind k index r flow o both.1 (fits_where k o (keeps new) range) is (flows_hold kind k p h)) h)
      (λ old. h)

  with_prio : (ids index : ℕ) (p : Parts) (q : PrioState) → PrioHolds k numbers ids index q → PartsHold k numbers ids index p
      → PartsHold k numbers ids index (record p { prio = q })
  with_prio ids index p q new h = record { weights = h.weights; prio = new; rel = h.rel; kflow = h.kflow; lives = h.lives; origins = h.origins }

  heard_where_holds : (ids index : ℕ) (answer : PrioAnswer) (number : ℕ) (p : Parts) → number < 2 ^ 64 → PartsHold k numbers ids index p
      → PartsHold k numbers ids index (heard_where answer at.from number p)
  heard_where_holds ids index prios.New number p small h =
      with_prio ids index p (heard p.prio at.from.0 number) (heard_holds k numbers ids index p.prio at.from.0 number small h.prio) h
  heard_where_holds ids index prios.Seen number p small h =
      with_prio ids index p (heard p.prio at.from.0 number) (heard_holds k numbers ids index p.prio at.from.0 number small h.prio) h
  heard_where_holds ids index prios.BadEnd number p small h = h
  heard_where_holds ids index prios.Expired number p small h = h
  heard_where_holds ids index prios.BadSig number p small h = h
  heard_where_holds ids index prios.Epoch number p small h = h

  prio_holds : (ids index : ℕ) (p : Parts) (number : ℕ) (o : Kept) → number < 2 ^ 64
      → (is_new (items.Prio (prio_answer (is_signed arts at.fixed o) (is_dated p.lives o.body) (judge_prio p.prio o.body at.now))) ≡ true → k.keeps o)
      → InRange k o → PartsHold k numbers ids index p
      → PartsHold k numbers (ids + 1) index (handle arts at p (PrioPiece number o)).parts
  prio_holds ids index p number o small keeps range h =
      let right = is_signed arts at.fixed o in
      let answer = prio_answer right (is_dated p.lives o.body) (judge_prio p.prio o.body at.now) in
      let admitted = record p { prio = admit_prio p.prio o (Some at.from) } in
      heard_where_holds (ids + 1) index answer number (cond (is_new (items.Prio answer)) admitted p) small
      (cond_where (PartsHold k numbers (ids + 1) index) (is_new (items.Prio answer)) admitted p
      (λ new.
      let both = new_prio right (is_dated p.lives o.body) (judge_prio p.prio o.body at.now) new in
      record {
        weights = h.weights;
        prio = admit_holds k numbers ids index p.prio o at.from (is_prio p.prio o.body at.now both.1) (fits_where k o (keeps new) range) h.prio;
        rel = h.rel;
        kflow = h.kflow;
        lives = h.lives;
        origins = h.origins;
      })
      (λ old. parts_more ids (ids + 1) index p (omega arith) h))

  epoch_holds : (ids index : ℕ) (p : Parts) (o : Kept)
      → (is_new (items.Epoch (epoch_answer (is_signed arts at.fixed o) (judge_epoch at.fixed.me p.lives o.body))) ≡ true → k.keeps o) → InRange k o
      → PartsHold k numbers ids index p → PartsHold k numbers ids index (handle arts at p (EpochPiece o)).parts
  epoch_holds ids index p o keeps range h =
      cond_where (PartsHold k numbers ids index) (is_new (items.Epoch (epoch_answer (is_signed arts at.fixed o) (judge_epoch at.fixed.me p.lives o.body))))
      (met p o) p
      (λ new.
      let both = new_start (is_signed arts at.fixed o) (judge_epoch at.fixed.me p.lives o.body) new in
      record {
        weights = h.weights;
        prio = renewed_holds k numbers ids index p.prio (origin_said o.body).0 h.prio;
        rel = restarted_holds Plain k index p.rel (origin_said o.body) h.rel;
        kflow = restarted_holds Paths k index p.kflow.flows (origin_said o.body) h.kflow;
        lives = held_epoch_holds k p.lives o (new_epoch at.fixed.me p.lives o.body both.1) (fits_where k o (keeps new) range) h.lives;
        origins = h.origins;
      })
      (λ old. h)

  pub handle_holds : (ids index : ℕ) (p : Parts) (piece : Piece) → NewKeep k.keeps (handle arts at p piece).answered → PieceFits k piece
      → PartsHold k numbers ids index p
      → PartsHold k numbers (ids + messages_in piece) index (handle arts at p piece).parts
  handle_holds ids index p (WeightPiece o) new fits h =
      parts_more ids (ids + 0) index (handle arts at p (WeightPiece o)).parts (omega arith) (weight_holds ids index p o new.0 fits h)
  handle_holds ids index p (PrioAckPiece number) new fits h = record {
    weights = h.weights;
    prio = prio_more k numbers numbers ids (ids + 0) index index _ (omega arith) (omega arith) (omega arith)
        (acked_holds k numbers ids index p.prio at.from.0 number h.prio);
    rel = h.rel;
    kflow = h.kflow;
    lives = h.lives;
    origins = h.origins;
  }
  handle_holds ids index p (PrioPiece number o) new fits h = prio_holds ids index p number o fits.0 new.0 fits.1 h
  handle_holds ids index p (ReportPiece kind flow sboot dboot base have) new fits h =
      let r = reported (flows_of kind p) at.from flow base have in
      parts_more ids (ids + 0) index (handle arts at p (ReportPiece kind flow sboot dboot base have)).parts (omega arith)
      (cond_either (PartsHold k numbers ids index) (are_held p.lives flow sboot dboot) (with_flows kind r p) p
      (with_flows_hold kind k r p (reported_holds kind k index (flows_of kind p) at.from flow base have (flows_hold kind k p h)) h) h)
  handle_holds ids index p (AckPiece kind flow o) new fits h =
      parts_more ids (ids + 0) index (handle arts at p (AckPiece kind flow o)).parts (omega arith) (ack_holds ids index p kind flow o new.0 fits.0 fits.1 h)
  handle_holds ids index p (RelPiece kind flow o) new fits h =
      parts_more ids (ids + 0) index (handle arts at p (RelPiece kind flow o)).parts (omega arith) (rel_holds ids index p kind flow o new.0 fits.0 fits.1 h)
  handle_holds ids index p (EpochPiece o) new fits h =
      parts_more ids (ids + 0) index (handle arts at p (EpochPiece o)).parts (omega arith) (epoch_holds ids index p o new.0 fits h)

  pub all_hold : (ids index : ℕ) (p : Parts) (pieces : List Piece) → NewKeep k.keeps (handle_all arts at p pieces).answered → AllFit k pieces
      → PartsHold k numbers ids index p
      → PartsHold k numbers (ids + messages pieces) index (handle_all arts at p pieces).parts
  all_hold ids index p [] new fits h = parts_more ids (ids + 0) index p (omega arith) h
  all_hold ids index p (piece ∷ pieces) new fits h =
      let done = handle arts at p piece in
      let others = handle_all arts at done.parts pieces in
      let first = handle_holds ids index p piece (new_left k.keeps done.answered others.answered new) fits.0 h in
      let rest = all_hold (ids + messages_in piece) index done.parts pieces (new_right k.keeps done.answered others.answered new) fits.1 first in
      parts_more (ids + messages_in piece + messages pieces) (ids + (messages_in piece + messages pieces)) index _ (omega arith) rest

-- ---- what is new is signed

abbrev IsRight : Arts → Arrival → Kept → Type 0
IsRight arts at o = IsTrue (is_signed arts at.fixed o)

piece_is_signed : (arts : Arts) (at : Arrival) (p : Parts) (piece : Piece) → NewKeep (IsRight arts at) (handle arts at p piece).answered
piece_is_signed arts at p (WeightPiece o) = (λ new. (new_weight (is_signed arts at.fixed o) (offer_to at.fixed.me p.weights o.body) new).0, tt)
piece_is_signed arts at p (PrioAckPiece number) = tt
piece_is_signed arts at p (PrioPiece number o) =
    (λ new. (new_prio (is_signed arts at.fixed o) (is_dated p.lives o.body) (judge_prio p.prio o.body at.now) new).0, tt)
piece_is_signed arts at p (ReportPiece kind flow sboot dboot base have) = tt
piece_is_signed arts at p (AckPiece kind flow o) =
    (λ new. (new_ack kind (is_signed arts at.fixed o) (is_dated p.lives o.body) (judge_ack_of (flows_of kind p) flow o.body) new).0, tt)
piece_is_signed arts at p (RelPiece kind flow o) =
    let over = came_over p.kflow at.from o.body in
    (λ new. (new_rel kind (is_signed arts at.fixed o) (is_dated p.lives o.body) over (judge_rel_of (flows_of kind p) flow o.body) new).0, tt)
piece_is_signed arts at p (EpochPiece o) = (λ new. (new_start (is_signed arts at.fixed o) (judge_epoch at.fixed.me p.lives o.body) new).0, tt)

pub new_is_signed : (arts : Arts) (at : Arrival) (p : Parts) (pieces : List Piece)
    → NewKeep (λ o. IsTrue (is_signed arts at.fixed o)) (handle_all arts at p pieces).answered
new_is_signed arts at p [] = tt
new_is_signed arts at p (piece ∷ pieces) =
    let done = handle arts at p piece in
    new_both (IsRight arts at) done.answered (handle_all arts at done.parts pieces).answered (piece_is_signed arts at p piece)
    (new_is_signed arts at done.parts pieces)
