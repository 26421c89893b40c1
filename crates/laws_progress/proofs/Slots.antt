-- What the pieces of a frame make of the reliable part: those before the slot leave it, and the slot is a report, an acknowledgement and messages.
use Rattle.laws_progress.proofs.Rises.{met_same}
use Rattle.std.proofs.lemmas.Bool.{cases_Bool}
use Rattle.laws_runs.proofs.StartPieces.{same_lives, start_follows}
use Rattle.std.proofs.Common.{◌≡◌, ℕ, Bool, true, false, cond, List, [], ◌∷◌, ◌++◌, map, Option, Some, None, refl, ap, ◌∙◌, sym, append_assoc, inl, inr}
use Rattle.sp_base.specs.declared.id.Flow.{Flow}
use Rattle.sp_base.specs.declared.id.NodeId.{NodeId}
use Rattle.sp_frame.specs.Reliable.{Report}
use Rattle.sp_frame.specs.Sections.{Contents}
use Rattle.sp_frame.specs.Views.{as_list}
use Rattle.sp_msg.specs.declared.kept.Kept.{Kept}
use Rattle.sp_rules.specs.Answers.{ack_answer, is_new, prio_answer, rel_answer, weight_answer, epoch_answer}
use Rattle.sp_rules.specs.Arts.{Arts}
use Rattle.sp_msg.specs.declared.body.Body.{Body}
use Rattle.sp_msg.specs.declared.body.Body.TheVariants as bodies
use Rattle.sp_rules.specs.Handle.{Arrival, handle, handle_all, offer_to, prio_handled, rel_answer_to}
use Rattle.sp_rules.specs.Kflow.{KState, came_over}
use Rattle.sp_rules.specs.Lives.{are_held, is_dated, held_boot, judge_epoch}
use Rattle.sp_rules.specs.Parts.{Fixed, Parts, is_signed, with_flows}
use Rattle.sp_rules.specs.Pieces.{Piece, AckPiece, PrioAckPiece, RelPiece, ReportPiece, WeightPiece, EpochPiece, pieces_of, prio_piece, slot_pieces}
use Rattle.sp_rules.specs.Prio.{judge_prio}
use Rattle.sp_rules.specs.Rel.{RelState, admit_ack, admit_rel, judge_ack_of, judge_rel_of, reported, flow_in, view_in, peer_in}
use Rattle.sp_rules.specs.Weights.{held}
use Rattle.sp_rules.specs.declared.answers.Item.TheVariants as items
use Rattle.sp_rules.specs.declared.answers.PrioAnswer.{PrioAnswer}
use Rattle.sp_rules.specs.declared.answers.PrioAnswer.TheVariants as prios
use Rattle.sp_rules.specs.declared.lives.Life.{Life}
use Rattle.sp_rules.specs.declared.kflow.FlowKind.{FlowKind}
use Rattle.sp_rules.specs.declared.kflow.FlowKind.TheVariants.{Plain, Paths}
use Rattle.laws_node.specs.Flows.{IsRelOf}
use Rattle.laws_node.proofs.Tables.{cond_either}
use Rattle.laws_runs.proofs.NoStarts.{NoStarts, none_map}
use Rattle.sp_rules.specs.Handle.{ack_item, rel_item}
use Rattle.sp_rules.specs.Parts.{flows_of}
use Rattle.sp_rules.specs.declared.answers.AckAnswer.{AckAnswer}
use Rattle.sp_rules.specs.declared.answers.AckAnswer.TheVariants as acks
use Rattle.sp_rules.specs.declared.answers.RelAnswer.{RelAnswer}
use Rattle.sp_rules.specs.declared.answers.RelAnswer.TheVariants as rels
use Rattle.laws_runs.proofs.KindFacts.{flows_apart, flows_own, flows_same}
use Rattle.laws_progress.proofs.EitherKind.{slot_of_kind}
use Rattle.laws_progress.proofs.OverEdges.{all_over, over_same, piece_edges}

abbrev pub after_ack : Arts → Fixed → List Life → RelState → Flow → Kept → RelState
after_ack arts f ls r flow o = cond (is_new (items.Ack (ack_answer (is_signed arts f o) (is_dated ls o.body) (judge_ack_of r flow o.body)))) (admit_ack r o) r

-- over: what came over an edge where it may
abbrev pub after_rel : Arts → Fixed → List Life → (Body → Bool) → RelState → Flow → Kept → RelState
after_rel arts f ls over r flow o =
    cond (is_new (items.Rel (rel_answer (is_signed arts f o) (is_dated ls o.body) (over o.body) (judge_rel_of r flow o.body)))) (admit_rel r o) r

abbrev pub after_acks : Arts → Fixed → List Life → RelState → Flow → Option Kept → RelState
after_acks arts f ls r flow None = r
after_acks arts f ls r flow (Some o) = after_ack arts f ls r flow o

abbrev pub after_rels : Arts → Fixed → List Life → (Body → Bool) → RelState → Flow → List Kept → RelState
after_rels arts f ls over r flow [] = r
after_rels arts f ls over r flow (o ∷ os) = after_rels arts f ls over (after_rel arts f ls over r flow o) flow os

-- a report counts under the boots that are held
abbrev pub after_report : List Life → RelState → NodeId → Report → RelState
after_report ls r v t = cond (are_held ls t.flow t.sboot t.dboot) (reported r v t.flow t.base t.have) r

abbrev pub after_slot : Arts → Fixed → List Life → (Body → Bool) → RelState → NodeId → Option Report → RelState
after_slot arts f ls over r v None = r
after_slot arts f ls over r v (Some t) = after_rels arts f ls over (after_acks arts f ls (after_report ls r v t) t.flow t.ack) t.flow t.rels

-- a plain message comes over any edge
pub plain_comes : (k : KState) (v : NodeId) (m : Body) → IsRelOf Plain m → came_over k v m ≡ true
plain_comes k v (bodies.Rel m) is = refl
plain_comes k v (bodies.Prio m) is = absurd is
plain_comes k v (bodies.Ack m) is = absurd is
plain_comes k v (bodies.Weight m) is = absurd is
plain_comes k v (bodies.Krel m) is = absurd is
plain_comes k v (bodies.Kack m) is = absurd is
plain_comes k v (bodies.Epoch m) is = absurd is

-- ---- pieces

pieces_lives : (arts : Arts) (at : Arrival) (p : Parts) (pieces : List Piece) → NoStarts pieces → (handle_all arts at p pieces).parts.lives ≡ p.lives
pieces_lives arts at p [] none = refl
pieces_lives arts at p (piece ∷ pieces) none = pieces_lives arts at (handle arts at p piece).parts pieces none.1 ∙ same_lives arts at p piece none.0

-- it leaves the flows of a kind
abbrev Leaves : FlowKind → Piece → Type 0
Leaves kind piece = (arts : Arts) (at : Arrival) (p : Parts) → flows_of kind (handle arts at p piece).parts ≡ flows_of kind p

-- so do several of them
map_leaves : {X : Type 0} (kind : FlowKind) (f : X → Piece) → ((x : X) → Leaves kind (f x)) → (arts : Arts) (at : Arrival) (p : Parts) (xs : List X)
    → flows_of kind (handle_all arts at p (map f xs)).parts ≡ flows_of kind p
map_leaves kind f leaves arts at p [] = refl
map_leaves kind f leaves arts at p (x ∷ xs) = map_leaves kind f leaves arts at (handle arts at p (f x)).parts xs ∙ leaves x arts at p

weight_leaves : (kind : FlowKind) (o : Kept) → Leaves kind (WeightPiece o)
weight_leaves kind o arts at p =
    cond_either (λ (q : Parts). flows_of kind q ≡ flows_of kind p)
    (is_new (items.Weight (weight_answer (is_signed arts at.fixed o) (offer_to at.fixed.me p.weights o.body))))
    (record p { weights = held p.weights o }) p (flows_same kind p (record p { weights = held p.weights o }) refl refl) refl

prio_leaves : (kind : FlowKind) (m : ℕ × Kept) → Leaves kind (prio_piece m)
prio_leaves kind m arts at p = go (prio_answer (is_signed arts at.fixed m.1) (is_dated p.lives m.1.body) (judge_prio p.prio m.1.body at.now))
  where
    go : (answer : PrioAnswer) → flows_of kind (prio_handled at.from answer m.0 m.1 p).parts ≡ flows_of kind p
    go prios.New = flows_same kind p (prio_handled at.from prios.New m.0 m.1 p).parts refl refl
    go prios.Seen = flows_same kind p (prio_handled at.from prios.Seen m.0 m.1 p).parts refl refl
    go prios.BadEnd = refl
    go prios.Expired = refl
    go prios.BadSig = refl
    go prios.Epoch = refl

-- pieces of another kind do
ack_leaves : (kind k : FlowKind) → (k ≡ kind → ⊥) → (flow : Flow) (o : Kept) → Leaves kind (AckPiece k flow o)
ack_leaves kind k apart flow o arts at p =
    cond_either (λ (q : Parts). flows_of kind q ≡ flows_of kind p)
    (is_new (ack_item k (ack_answer (is_signed arts at.fixed o) (is_dated p.lives o.body) (judge_ack_of (flows_of k p) flow o.body))))
    (with_flows k (admit_ack (flows_of k p) o) p) p (flows_apart kind k (admit_ack (flows_of k p) o) p apart) refl

rel_leaves : (kind k : FlowKind) → (k ≡ kind → ⊥) → (flow : Flow) (o : Kept) → Leaves kind (RelPiece k flow o)
rel_leaves kind k apart flow o arts at p =
    cond_either (λ (q : Parts). flows_of kind q ≡ flows_of kind p)
    (is_new (rel_item k (rel_answer_to arts at p (judge_rel_of (flows_of k p) flow o.body) o)))
    (with_flows k (admit_rel (flows_of k p) o) p) p (flows_apart kind k (admit_rel (flows_of k p) o) p apart) refl

report_leaves : (kind k : FlowKind) → (k ≡ kind → ⊥) → (t : Report) → Leaves kind (ReportPiece k t.flow t.sboot t.dboot t.base t.have)
report_leaves kind k apart t arts at p =
    cond_either (λ (q : Parts). flows_of kind q ≡ flows_of kind p) (are_held p.lives t.flow t.sboot t.dboot)
    (with_flows k (reported (flows_of k p) at.from t.flow t.base t.have) p) p
    (flows_apart kind k (reported (flows_of k p) at.from t.flow t.base t.have) p apart) refl

-- ---- the slot of a kind

pub all_append : (arts : Arts) (at : Arrival) (p : Parts) (xs ys : List Piece)
    → (handle_all arts at p (xs ++ ys)).parts ≡ (handle_all arts at (handle_all arts at p xs).parts ys).parts
all_append arts at p [] ys = refl
all_append arts at p (x ∷ xs) ys = all_append arts at (handle arts at p x).parts xs ys

-- flows of a kind are put where a test holds
pub either_flows : (kind : FlowKind) (t : Bool) (p : Parts) (r : RelState) → flows_of kind (cond t (with_flows kind r p) p) ≡ cond t r (flows_of kind p)
either_flows kind true p r = flows_own kind r p
either_flows kind false p r = refl

-- what is taken is so as an object of either kind
ack_new : (kind : FlowKind) (a : AckAnswer) → is_new (ack_item kind a) ≡ is_new (items.Ack a)
ack_new Plain a = refl
ack_new Paths acks.New = refl
ack_new Paths acks.BadEnd = refl
ack_new Paths acks.Old = refl
ack_new Paths acks.Ahead = refl
ack_new Paths acks.BadSig = refl
ack_new Paths acks.Epoch = refl

rel_new : (kind : FlowKind) (a : RelAnswer) → is_new (rel_item kind a) ≡ is_new (items.Rel a)
rel_new Plain a = refl
rel_new Paths a = either_new a
  where
    either_new : (a : RelAnswer) → is_new (items.Krel a) ≡ is_new (items.Rel a)
    either_new rels.New = refl
    either_new rels.BadEnd = refl
    either_new rels.Old = refl
    either_new rels.Ahead = refl
    either_new rels.Gap = refl
    either_new rels.Full = refl
    either_new rels.InboxFull = refl
    either_new rels.BadSig = refl
    either_new rels.Epoch = refl
    either_new rels.OffMask = refl

acks_flows : (kind : FlowKind) (arts : Arts) (at : Arrival) (p : Parts) (flow : Flow) (o : Option Kept)
    → flows_of kind (handle_all arts at p (map (AckPiece kind flow) (as_list o))).parts ≡ after_acks arts at.fixed p.lives (flows_of kind p) flow o
acks_flows kind arts at p flow None = refl
acks_flows kind arts at p flow (Some o) =
    let answer = ack_answer (is_signed arts at.fixed o) (is_dated p.lives o.body) (judge_ack_of (flows_of kind p) flow o.body) in
    either_flows kind (is_new (ack_item kind answer)) p (admit_ack (flows_of kind p) o)
    ∙ ap (λ (t : Bool). cond t (admit_ack (flows_of kind p) o) (flows_of kind p)) (ack_new kind answer)

rels_flows : (kind : FlowKind) (arts : Arts) (at : Arrival) (p : Parts) (flow : Flow) (os : List Kept)
    → flows_of kind (handle_all arts at p (map (RelPiece kind flow) os)).parts
    ≡ after_rels arts at.fixed p.lives (came_over p.kflow at.from) (flows_of kind p) flow os
rels_flows kind arts at p flow [] = refl
rels_flows kind arts at p flow (o ∷ os) =
    let q = (handle arts at p (RelPiece kind flow o)).parts in
    let answer = rel_answer_to arts at p (judge_rel_of (flows_of kind p) flow o.body) o in
    rels_flows kind arts at q flow os
    ∙ ap (λ ls. after_rels arts at.fixed ls (came_over q.kflow at.from) (flows_of kind q) flow os) (same_lives arts at p (RelPiece kind flow o) tt)
    ∙ ap (λ over. after_rels arts at.fixed p.lives over (flows_of kind q) flow os)
    (over_same q.kflow p.kflow at.from (piece_edges arts at p (RelPiece kind flow o)))
    ∙ ap (λ r. after_rels arts at.fixed p.lives (came_over p.kflow at.from) r flow os)
    (either_flows kind (is_new (rel_item kind answer)) p (admit_rel (flows_of kind p) o)
    ∙ ap (λ (t : Bool). cond t (admit_rel (flows_of kind p) o) (flows_of kind p)) (rel_new kind answer))

slot_flows : (kind : FlowKind) (arts : Arts) (at : Arrival) (p : Parts) (t : Option Report)
    → flows_of kind (handle_all arts at p (slot_pieces kind t)).parts
    ≡ after_slot arts at.fixed p.lives (came_over p.kflow at.from) (flows_of kind p) at.from t
slot_flows kind arts at p None = refl
slot_flows kind arts at p (Some t) =
    let q = (handle arts at p (ReportPiece kind t.flow t.sboot t.dboot t.base t.have)).parts in
    let acks = map (AckPiece kind t.flow) (as_list t.ack) in
    let z = (handle_all arts at q acks).parts in
    let over = came_over p.kflow at.from in
    let same : q.lives ≡ p.lives = same_lives arts at p (ReportPiece kind t.flow t.sboot t.dboot t.base t.have) tt in
    ap (λ (z : Parts). flows_of kind z) (all_append arts at q acks (map (RelPiece kind t.flow) t.rels))
    ∙ rels_flows kind arts at z t.flow t.rels
    ∙ ap (λ ls. after_rels arts at.fixed ls (came_over z.kflow at.from) (flows_of kind z) t.flow t.rels)
    (pieces_lives arts at q acks (none_map (AckPiece kind t.flow) (λ o. tt) (as_list t.ack)) ∙ same)
    ∙ ap (λ over. after_rels arts at.fixed p.lives over (flows_of kind z) t.flow t.rels)
    (all_over arts at q acks at.from
    ∙ over_same q.kflow p.kflow at.from (piece_edges arts at p (ReportPiece kind t.flow t.sboot t.dboot t.base t.have)))
    ∙ ap (λ r. after_rels arts at.fixed p.lives over r t.flow t.rels) (acks_flows kind arts at q t.flow t.ack)
    ∙ ap (λ ls. after_rels arts at.fixed p.lives over (after_acks arts at.fixed ls (flows_of kind q) t.flow t.ack) t.flow t.rels) same
    ∙ ap (λ r. after_rels arts at.fixed p.lives over (after_acks arts at.fixed p.lives r t.flow t.ack) t.flow t.rels)
    (either_flows kind (are_held p.lives t.flow t.sboot t.dboot) p (reported (flows_of kind p) at.from t.flow t.base t.have))

none_both : (xs ys : List Piece) → NoStarts xs → NoStarts ys → NoStarts (xs ++ ys)
none_both [] ys one two = two
none_both (x ∷ xs) ys one two = (one.0, none_both xs ys one.1 two)

none_slot : (kind : FlowKind) (slot : Option Report) → NoStarts (slot_pieces kind slot)
none_slot kind None = tt
none_slot kind (Some r) = (
  tt,
  none_both (map (AckPiece kind r.flow) (as_list r.ack)) (map (RelPiece kind r.flow) r.rels)
      (none_map (AckPiece kind r.flow) (λ o. tt) (as_list r.ack)) (none_map (RelPiece kind r.flow) (λ o. tt) r.rels),
)

-- a slot of another kind leaves the flows
slot_leaves : (kind k : FlowKind) → (k ≡ kind → ⊥) → (arts : Arts) (at : Arrival) (p : Parts) (t : Option Report)
    → flows_of kind (handle_all arts at p (slot_pieces k t)).parts ≡ flows_of kind p
slot_leaves kind k apart arts at p None = refl
slot_leaves kind k apart arts at p (Some t) =
    let q = (handle arts at p (ReportPiece k t.flow t.sboot t.dboot t.base t.have)).parts in
    let acks = map (AckPiece k t.flow) (as_list t.ack) in
    ap (λ (z : Parts). flows_of kind z) (all_append arts at q acks (map (RelPiece k t.flow) t.rels))
    ∙ map_leaves kind (RelPiece k t.flow) (rel_leaves kind k apart t.flow) arts at (handle_all arts at q acks).parts t.rels
    ∙ map_leaves kind (AckPiece k t.flow) (ack_leaves kind k apart t.flow) arts at q (as_list t.ack)
    ∙ report_leaves kind k apart t arts at p

-- those before an Epoch object
front_of : Contents → List Piece
front_of s =
    map WeightPiece s.weights ++ (PrioAckPiece s.prio_ack ∷ (map prio_piece s.prios ++ (slot_pieces Plain s.slot ++ slot_pieces Paths s.paths)))

pieces_apart : (s : Contents) → pieces_of s ≡ front_of s ++ map EpochPiece (as_list s.epoch)
unfolding front_of
pieces_apart s =
    let last = map EpochPiece (as_list s.epoch) in
    let plain = slot_pieces Plain s.slot in
    let paths = slot_pieces Paths s.paths in
    ap (λ ps. map WeightPiece s.weights ++ (PrioAckPiece s.prio_ack ∷ (map prio_piece s.prios ++ ps))) (sym (append_assoc plain paths last))
    ∙ ap (λ ps. map WeightPiece s.weights ++ (PrioAckPiece s.prio_ack ∷ ps)) (sym (append_assoc (map prio_piece s.prios) (plain ++ paths) last))
    ∙ sym (append_assoc (map WeightPiece s.weights) (PrioAckPiece s.prio_ack ∷ (map prio_piece s.prios ++ (plain ++ paths))) last)

front_flows : (kind : FlowKind) (arts : Arts) (at : Arrival) (p : Parts) (s : Contents)
    → (flows_of kind (handle_all arts at p (front_of s)).parts
    ≡ after_slot arts at.fixed p.lives (came_over p.kflow at.from) (flows_of kind p) at.from (slot_of_kind kind s))
    × ((handle_all arts at p (front_of s)).parts.lives ≡ p.lives)
unfolding front_of
front_flows kind arts at p s = (
  ap (λ (z : Parts). flows_of kind z) all ∙ of_kind kind,
  ap (λ (z : Parts). z.lives) all ∙ pieces_lives arts at p4 paths (none_slot Paths s.paths) ∙ pieces_lives arts at p3 plain (none_slot Plain s.slot) ∙ lives,
)
  where
    plain : List Piece
    plain = slot_pieces Plain s.slot

    paths : List Piece
    paths = slot_pieces Paths s.paths

    p1 : Parts
    p1 = (handle_all arts at p (map WeightPiece s.weights)).parts

    p2 : Parts
    p2 = (handle arts at p1 (PrioAckPiece s.prio_ack)).parts

    p3 : Parts
    p3 = (handle_all arts at p2 (map prio_piece s.prios)).parts

    p4 : Parts
    p4 = (handle_all arts at p3 plain).parts

    all : (handle_all arts at p (front_of s)).parts ≡ (handle_all arts at p4 paths).parts
    all =
        all_append arts at p (map WeightPiece s.weights) (PrioAckPiece s.prio_ack ∷ (map prio_piece s.prios ++ (plain ++ paths)))
        ∙ all_append arts at p2 (map prio_piece s.prios) (plain ++ paths)
        ∙ all_append arts at p3 plain paths

    lives : p3.lives ≡ p.lives
    lives =
        pieces_lives arts at p2 (map prio_piece s.prios) (none_map prio_piece (λ m. tt) s.prios) ∙ same_lives arts at p1 (PrioAckPiece s.prio_ack) tt
        ∙ pieces_lives arts at p (map WeightPiece s.weights) (none_map WeightPiece (λ o. tt) s.weights)

    over : came_over p3.kflow at.from ≡ came_over p.kflow at.from
    over = all_over arts at p2 (map prio_piece s.prios) at.from ∙ all_over arts at p (map WeightPiece s.weights) at.from

    early : (k : FlowKind) → flows_of k p3 ≡ flows_of k p
    early k =
        map_leaves k prio_piece (prio_leaves k) arts at p2 s.prios ∙ flows_same k p1 p2 refl refl
        ∙ map_leaves k WeightPiece (weight_leaves k) arts at p s.weights

    of_kind : (k : FlowKind) → flows_of k (handle_all arts at p4 paths).parts
        ≡ after_slot arts at.fixed p.lives (came_over p.kflow at.from) (flows_of k p) at.from (slot_of_kind k s)
    of_kind Plain =
        slot_leaves Plain Paths (λ e. cc) arts at p4 s.paths ∙ slot_flows Plain arts at p3 s.slot
        ∙ ap (λ ls. after_slot arts at.fixed ls (came_over p3.kflow at.from) (flows_of Plain p3) at.from s.slot) lives
        ∙ ap (λ over. after_slot arts at.fixed p.lives over (flows_of Plain p3) at.from s.slot) over
        ∙ ap (λ r. after_slot arts at.fixed p.lives (came_over p.kflow at.from) r at.from s.slot) (early Plain)
    of_kind Paths =
        slot_flows Paths arts at p4 s.paths
        ∙ ap (λ ls. after_slot arts at.fixed ls (came_over p4.kflow at.from) (flows_of Paths p4) at.from s.paths)
        (pieces_lives arts at p3 plain (none_slot Plain s.slot) ∙ lives)
        ∙ ap (λ over. after_slot arts at.fixed p.lives over (flows_of Paths p4) at.from s.paths) (all_over arts at p3 plain at.from ∙ over)
        ∙ ap (λ r. after_slot arts at.fixed p.lives (came_over p.kflow at.from) r at.from s.paths)
        (slot_leaves Paths Plain (λ e. cc) arts at p3 s.slot ∙ early Paths)

-- what an Epoch object leaves of a flow, and of what is known of it, where it leaves the boots of the flow's ends
pub record SameFlow (flow : Flow) (r z : RelState) : Type 0 where
  pub flow_is : flow_in z.flows flow ≡ flow_in r.flows flow
  pub views : (u : NodeId) → view_in (peer_in z.peers u).views flow ≡ view_in (peer_in r.peers u).views flow

pub one_same : (kind : FlowKind) (arts : Arts) (at : Arrival) (p : Parts) (o : Kept) (flow : Flow)
    → held_boot (handle arts at p (EpochPiece o)).parts.lives flow.src ≡ held_boot p.lives flow.src
    → held_boot (handle arts at p (EpochPiece o)).parts.lives flow.dst ≡ held_boot p.lives flow.dst
    → SameFlow flow (flows_of kind p) (flows_of kind (handle arts at p (EpochPiece o)).parts)
one_same kind arts at p o flow src dst =
    elim (cases_Bool (is_new (items.Epoch (epoch_answer (is_signed arts at.fixed o) (judge_epoch at.fixed.me p.lives o.body))))) [
      | inl t ↦
          let it = met_same kind flow p o (start_follows arts at p o t) (rw t at src) (rw t at dst) in
          rw t (record { flow_is = it.0; views = it.1 })
      | inr t ↦ rw t (record { flow_is = refl; views = λ u. refl })
    ]

pub start_same : (kind : FlowKind) (arts : Arts) (at : Arrival) (p : Parts) (o : Option Kept) (flow : Flow)
    → held_boot (handle_all arts at p (map EpochPiece (as_list o))).parts.lives flow.src ≡ held_boot p.lives flow.src
    → held_boot (handle_all arts at p (map EpochPiece (as_list o))).parts.lives flow.dst ≡ held_boot p.lives flow.dst
    → SameFlow flow (flows_of kind p) (flows_of kind (handle_all arts at p (map EpochPiece (as_list o))).parts)
start_same kind arts at p None flow src dst = record { flow_is = refl; views = λ u. refl }
start_same kind arts at p (Some o) flow src dst = one_same kind arts at p o flow src dst

-- what the pieces of a frame leave of a flow, where they leave the boots of its ends
pub frame_flows : (kind : FlowKind) (arts : Arts) (at : Arrival) (p : Parts) (s : Contents) (flow : Flow)
    → held_boot (handle_all arts at p (pieces_of s)).parts.lives flow.src ≡ held_boot p.lives flow.src
    → held_boot (handle_all arts at p (pieces_of s)).parts.lives flow.dst ≡ held_boot p.lives flow.dst
    → SameFlow flow (after_slot arts at.fixed p.lives (came_over p.kflow at.from) (flows_of kind p) at.from (slot_of_kind kind s))
    (flows_of kind (handle_all arts at p (pieces_of s)).parts)
frame_flows kind arts at p s flow src dst =
    let last = map EpochPiece (as_list s.epoch) in
    let p1 = (handle_all arts at p (front_of s)).parts in
    let all : (handle_all arts at p (pieces_of s)).parts ≡ (handle_all arts at p1 last).parts =
    ap (λ ps. (handle_all arts at p ps).parts) (pieces_apart s) ∙ all_append arts at p (front_of s) last in
    let front = front_flows kind arts at p s in
    let lives : (w : NodeId) → held_boot (handle_all arts at p (pieces_of s)).parts.lives w ≡ held_boot p.lives w
    → held_boot (handle_all arts at p1 last).parts.lives w ≡ held_boot p1.lives w =
    λ w is. sym (ap (λ (q : Parts). held_boot q.lives w) all) ∙ is ∙ sym (ap (λ ls. held_boot ls w) front.1) in
    let same = start_same kind arts at p1 s.epoch flow (lives flow.src src) (lives flow.dst dst) in
    record {
      flow_is = ap (λ (q : Parts). flow_in (flows_of kind q).flows flow) all ∙ same.flow_is ∙ ap (λ (r : RelState). flow_in r.flows flow) front.0;
      views = λ u. ap (λ (q : Parts). view_in (peer_in (flows_of kind q).peers u).views flow) all ∙ same.views u
          ∙ ap (λ (r : RelState). view_in (peer_in r.peers u).views flow) front.0;
    }
