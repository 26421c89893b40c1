-- The last piece of a frame, what a node said of its start: who takes it holds the boot that it says, or a later one. And which row went last to a neighbour
-- changes by polls of that neighbour alone.
use Rattle.sp_rules.specs.Link.{advanced}
use Rattle.sp_rules.specs.Polls.{is_served, parts_after, polled}
use Rattle.laws_node.proofs.Adopting.{publishing, reading}
use Rattle.std.proofs.Common.{◌≡◌, ◌≤◌, ◌⊎◌, ℕ, ◌==◌, nat_le, Bool, true, false, List, [], ◌∷◌, ◌++◌, map, Option, Some, None, refl, sym, ap}
use Rattle.std.proofs.Common.{subst, ◌∙◌, inl, inr, arith}
use Rattle.std.specs.List.{list_any}
use Rattle.std.proofs.lemmas.Bool.{cases_Bool}
use Rattle.std.proofs.lemmas.Bool.Decides.{nat_tests}
use Rattle.sp_base.specs.declared.id.NodeId.{NodeId}
use Rattle.sp_frame.specs.Sections.{Contents}
use Rattle.sp_frame.specs.Views.{as_list}
use Rattle.sp_msg.specs.declared.body.Body.{Body}
use Rattle.sp_msg.specs.declared.body.Body.TheVariants as bodies
use Rattle.sp_msg.specs.declared.kept.Kept.{Kept}
use Rattle.sp_rules.specs.Answers.{ack_answer, epoch_answer, is_new, prio_answer, weight_answer}
use Rattle.sp_rules.specs.Arrivals.{arrival_at, before_document, document_at, greeted, parts_met, pieces_in, pieces_where, read_by, reply_at, rises}
use Rattle.sp_rules.specs.Arrivals.{sections_in}
use Rattle.sp_rules.specs.Arts.{Arts}
use Rattle.sp_rules.specs.Handle.{Arrival, handle, handle_all, met, offer_to, prio_handled, rel_answer_to}
use Rattle.sp_rules.specs.Lives.{are_held, boot_said, held_boot, is_dated, is_known, judge_epoch, last_to, origin_said}
use Rattle.sp_rules.specs.Node.{NodeState, call_refusal, kept_or, link_in, called, with_link}
use Rattle.sp_rules.specs.Parts.{Parts, is_signed, place_of, with_flows}
use Rattle.sp_rules.specs.Pieces.{Piece, AckPiece, EpochPiece, PrioAckPiece, PrioPiece, RelPiece, ReportPiece, WeightPiece, pieces_of, prio_piece, slot_pieces}
use Rattle.sp_rules.specs.Prio.{judge_prio}
use Rattle.sp_rules.specs.Rel.{admit_ack, admit_rel, judge_ack_of, judge_rel_of, reported}
use Rattle.sp_rules.specs.Sends.{rel_refusal, send_prio_refusal, weight_refusal}
use Rattle.sp_rules.specs.Steps.{Input, NodeStep, Output, Poll, Datagram, Tick, SendRel, SendPrio, SetWeight, TakeRel, TakePrio, SendKrel, TakeKrel, Publish}
use Rattle.laws_progress.proofs.Ticked.{ticked}
use Rattle.sp_rules.specs.Weights.{held}
use Rattle.sp_rules.specs.declared.answers.EpochAnswer.{EpochAnswer}
use Rattle.sp_rules.specs.declared.answers.Item.TheVariants as items
use Rattle.sp_rules.specs.declared.answers.PrioAnswer.{PrioAnswer}
use Rattle.sp_rules.specs.declared.answers.PrioAnswer.TheVariants as prios
use Rattle.sp_rules.specs.declared.lives.EpochJudged.TheVariants as judged
use Rattle.sp_rules.specs.declared.lives.Life.{Life}
use Rattle.sp_rules.specs.declared.kflow.FlowKind.TheVariants.{Plain, Paths}
use Rattle.sp_rules.specs.KflowSends.{send_krel_refusal}
use Rattle.laws_node.specs.HeldBoots.{IsEpochOf}
use Rattle.laws_node.proofs.Epochs.{epoch_taken}
use Rattle.laws_node.proofs.Handles.{new_start}
use Rattle.laws_node.proofs.Tables.{cond_either}
use Rattle.laws_progress.proofs.Lasts.{NoPoll}
use Rattle.laws_progress.proofs.LifeRows.{moved_there, place_apart}
use Rattle.laws_progress.proofs.Slots.{all_append}

-- ---- the object comes

-- what is said of it: its origin has no row, or its boot isn't above what is held, or it is new
judged_so : (me : NodeId) (lives : List Life) (v : NodeId) (body : Body) → IsEpochOf v body → ((origin_said body).0 == me.0) ≡ false
    → (is_known lives (origin_said body) ≡ false) ⊎ (boot_said body ≤ held_boot lives (origin_said body)) ⊎ (judge_epoch me lives body ≡ judged.New)
judged_so me lives v (bodies.Epoch e) is away = elim (cases_Bool (is_known lives e.origin)) [
  | inr off ↦ inl off
  | inl on ↦ elim (cases_Bool (nat_le e.boot (held_boot lives e.origin))) [
    | inl low ↦ inr (inl (grind (arith, nat_tests, low)))
    | inr high ↦ inr (inr (rw (away, on, high) refl))
  ]
]
judged_so me lives v (bodies.Prio b) is away = absurd is
judged_so me lives v (bodies.Rel b) is away = absurd is
judged_so me lives v (bodies.Ack b) is away = absurd is
judged_so me lives v (bodies.Weight b) is away = absurd is
judged_so me lives v (bodies.Krel b) is away = absurd is
judged_so me lives v (bodies.Kack b) is away = absurd is

-- a node takes it, where its signature is right, it is of another node, and that one has a row
pub piece_told : (arts : Arts) (at : Arrival) (p : Parts) (v : NodeId) (o : Kept) → IsEpochOf v o.body → is_signed arts at.fixed o ≡ true
    → ((origin_said o.body).0 == at.fixed.me.0) ≡ false → is_known (handle arts at p (EpochPiece o)).parts.lives (origin_said o.body) ≡ true
    → boot_said o.body ≤ held_boot (handle arts at p (EpochPiece o)).parts.lives (origin_said o.body)
piece_told arts at p v o is right away known =
    let judge = judge_epoch at.fixed.me p.lives o.body in
    let answer = epoch_answer (is_signed arts at.fixed o) judge in
    elim (cases_Bool (is_new (items.Epoch answer))) [
      | inl t ↦
          let new = new_start (is_signed arts at.fixed o) judge t in
          let so : answer ≡ epoch_answer true judged.New = ap (λ (b : Bool). epoch_answer b judge) new.0 ∙ ap (epoch_answer true) new.1 in
          let taken = epoch_taken arts at p o so in
          let boot = taken.held in
          omega (arith, boot)
      | inr t ↦
          let same : (handle arts at p (EpochPiece o)).parts.lives ≡ p.lives = rw t refl in
          elim (judged_so at.fixed.me p.lives v o.body is away) [
            | inl off ↦ absurd (let wrong : true ≡ false = sym known ∙ ap (λ (ls : List Life). is_known ls (origin_said o.body)) same ∙ off in cc)
            | inr some ↦ elim some [
              | inl low ↦ let held_same = ap (λ (ls : List Life). held_boot ls (origin_said o.body)) same in omega (arith, low, held_same)
              | inr new ↦
                  absurd (let wrong : true ≡ false = sym (ap (λ (a : EpochAnswer). is_new (items.Epoch a))
                  (ap (λ (b : Bool). epoch_answer b judge) right ∙ ap (epoch_answer true) new)) ∙ t in cc)
            ]
          ]
    ]

-- it is the last piece of its frame
pub last_piece : (arts : Arts) (at : Arrival) (p : Parts) (s : Contents) (o : Kept) → s.epoch ≡ Some o
    → (q : Parts) × ((handle_all arts at p (pieces_of s)).parts ≡ (handle arts at q (EpochPiece o)).parts)
last_piece arts at p s o is =
    let last = map EpochPiece (as_list s.epoch) in
    let p1 = (handle_all arts at p (map WeightPiece s.weights)).parts in
    let p2 = (handle arts at p1 (PrioAckPiece s.prio_ack)).parts in
    let p3 = (handle_all arts at p2 (map prio_piece s.prios)).parts in
    let p4 = (handle_all arts at p3 (slot_pieces Plain s.slot)).parts in
    let p5 = (handle_all arts at p4 (slot_pieces Paths s.paths)).parts in
    let paths = slot_pieces Paths s.paths ++ last in (
      p5,
      all_append arts at p (map WeightPiece s.weights) (PrioAckPiece s.prio_ack ∷ (map prio_piece s.prios ++ (slot_pieces Plain s.slot ++ paths)))
          ∙ all_append arts at p2 (map prio_piece s.prios) (slot_pieces Plain s.slot ++ paths)
          ∙ all_append arts at p3 (slot_pieces Plain s.slot) paths
          ∙ all_append arts at p4 (slot_pieces Paths s.paths) last
          ∙ ap (λ (e : Option Kept). (handle_all arts at p5 (map EpochPiece (as_list e))).parts) is,
    )

-- ---- the cycles

abbrev SameCycles : Parts → Parts → Type 0
SameCycles p q = q.origins ≡ p.origins

piece_cycles : (arts : Arts) (at : Arrival) (p : Parts) (piece : Piece) → SameCycles p (handle arts at p piece).parts
piece_cycles arts at p (WeightPiece o) =
    cond_either (SameCycles p) (is_new (items.Weight (weight_answer (is_signed arts at.fixed o) (offer_to at.fixed.me p.weights o.body))))
    (record p { weights = held p.weights o }) p refl refl
piece_cycles arts at p (PrioAckPiece number) = refl
piece_cycles arts at p (PrioPiece number o) = go (prio_answer (is_signed arts at.fixed o) (is_dated p.lives o.body) (judge_prio p.prio o.body at.now))
  where
    go : (answer : PrioAnswer) → SameCycles p (prio_handled at.from answer number o p).parts
    go prios.New = refl
    go prios.Seen = refl
    go prios.BadEnd = refl
    go prios.Expired = refl
    go prios.BadSig = refl
    go prios.Epoch = refl
piece_cycles arts at p (ReportPiece Plain flow sboot dboot base have) =
    cond_either (SameCycles p) (are_held p.lives flow sboot dboot) (with_flows Plain (reported p.rel at.from flow base have) p) p refl refl
piece_cycles arts at p (AckPiece Plain flow o) =
    cond_either (SameCycles p)
    (is_new (items.Ack (ack_answer (is_signed arts at.fixed o) (is_dated p.lives o.body) (judge_ack_of p.rel flow o.body))))
    (with_flows Plain (admit_ack p.rel o) p) p refl refl
piece_cycles arts at p (RelPiece Plain flow o) =
    cond_either (SameCycles p) (is_new (items.Rel (rel_answer_to arts at p (judge_rel_of p.rel flow o.body) o)))
    (with_flows Plain (admit_rel p.rel o) p) p refl refl
piece_cycles arts at p (ReportPiece Paths flow sboot dboot base have) =
    cond_either (SameCycles p) (are_held p.lives flow sboot dboot) (with_flows Paths (reported p.kflow.flows at.from flow base have) p) p refl refl
piece_cycles arts at p (AckPiece Paths flow o) =
    cond_either (SameCycles p)
    (is_new (items.Kack (ack_answer (is_signed arts at.fixed o) (is_dated p.lives o.body) (judge_ack_of p.kflow.flows flow o.body))))
    (with_flows Paths (admit_ack p.kflow.flows o) p) p refl refl
piece_cycles arts at p (RelPiece Paths flow o) =
    cond_either (SameCycles p) (is_new (items.Krel (rel_answer_to arts at p (judge_rel_of p.kflow.flows flow o.body) o)))
    (with_flows Paths (admit_rel p.kflow.flows o) p) p refl refl
piece_cycles arts at p (EpochPiece o) =
    cond_either (SameCycles p) (is_new (items.Epoch (epoch_answer (is_signed arts at.fixed o) (judge_epoch at.fixed.me p.lives o.body)))) (met p o) p refl refl

all_cycles : (arts : Arts) (at : Arrival) (p : Parts) (pieces : List Piece) → SameCycles p (handle_all arts at p pieces).parts
all_cycles arts at p [] = refl
all_cycles arts at p (piece ∷ pieces) = all_cycles arts at (handle arts at p piece).parts pieces ∙ piece_cycles arts at p piece

greeted_cycles : (epochs risen : Bool) (v : NodeId) (p : Parts) → SameCycles p (greeted epochs risen v p)
greeted_cycles true true v p = refl
greeted_cycles true false v p = refl
greeted_cycles false risen v p = refl

-- the row that went last to the neighbour
abbrev LastStays : NodeId → NodeState → NodeState → Type 0
LastStays v n m = last_to m.parts.origins (place_of n.fixed v) ≡ last_to n.parts.origins (place_of n.fixed v)

kept_cycles : {X : Type 0} (v : NodeId) (r : Option X) (n m : NodeState) → LastStays v n m → LastStays v n (kept_or r n m)
kept_cycles v None n m same = same
kept_cycles v (Some x) n m same = refl

-- it is another one after a poll of that neighbour alone
pub last_stays : (arts : Arts) (n : NodeState) (input : Input) (output : Output) (new : NodeState) (v : NodeId)
    → list_any (λ k. k.id.0 == v.0) n.fixed.topology.nodes ≡ true → NoPoll v input → NodeStep arts n input output new → LastStays v n new
last_stays arts n (Poll u) output new v there quiet s =
    subst (LastStays v n) (sym s.1) (kept_cycles v (call_refusal n u) n (called n (with_link n u (advanced (link_in n u))) (parts_after n u))
    (cond_either (λ (p : Parts). last_to p.origins (place_of n.fixed v) ≡ last_to n.parts.origins (place_of n.fixed v)) (is_served n u)
    (polled n.fixed n.parts u) n.parts
    (moved_there n.parts.lives n.parts.origins (place_of n.fixed u) (place_of n.fixed v)
    (λ same. quiet (ap (λ (k : ℕ). record { 0 = k }) (place_apart n.fixed.topology.nodes u v there same)))) refl))
last_stays arts n (Datagram u bytes) output new v there quiet s =
    let left = before_document arts n u bytes in
    let first : LastStays v n left =
    ap (λ (os : List (Option ℕ)). last_to os (place_of n.fixed v))
    (all_cycles arts (arrival_at n u) (parts_met arts n u bytes) (pieces_where (reply_at arts n u bytes) (pieces_in n.fixed (sections_in arts n.fixed bytes)))
    ∙ greeted_cycles n.fixed.epochs (rises arts n u bytes) u n.parts) in
    subst (LastStays v n) (sym s.1) (kept_cycles v (call_refusal n u) n (read_by arts left (document_at arts n u bytes))
    (reading arts left (document_at arts n u bytes) (λ m told. LastStays v n m) first (λ document d is reads by. first)))
last_stays arts n (Tick now) output new v there quiet s =
    subst (LastStays v n) (sym s.1) (ticked (LastStays v n) arts n now refl (λ o. refl) (λ m r same. same))
last_stays arts n (SendRel dst payload) output new v there quiet s = subst (LastStays v n) (sym s.1) (kept_cycles v (rel_refusal n dst) n _ refl)
last_stays arts n (SendPrio m) output new v there quiet s = subst (LastStays v n) (sym s.new_is) (kept_cycles v (send_prio_refusal n m s.choice) n _ refl)
last_stays arts n (SetWeight u weight) output new v there quiet s = subst (LastStays v n) (sym s.1) (kept_cycles v (weight_refusal n u weight) n _ refl)
last_stays arts n (TakeRel src) output new v there quiet s = subst (LastStays v n) (sym s.1) refl
last_stays arts n (SendKrel m) output new v there quiet s = subst (LastStays v n) (sym s.new_is) (kept_cycles v (send_krel_refusal n m s.choice) n _ refl)
last_stays arts n (TakeKrel src) output new v there quiet s = subst (LastStays v n) (sym s.1) refl
last_stays arts n TakePrio output new v there quiet s = subst (LastStays v n) (sym s.1) refl
last_stays arts n (Publish document) output new v there quiet s =
    subst (LastStays v n) (sym s.1) (publishing arts n document (λ m told. LastStays v n m) refl (λ d reads by. refl))
