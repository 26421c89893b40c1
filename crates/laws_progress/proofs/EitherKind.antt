-- What a node does to its flows of a kind, for both kinds at once: what a change keeps, each step keeps.
use Rattle.std.proofs.Common.{List, ◌≡◌, ℕ, Bool, true, false, cond, Option, Some, None, refl, sym, subst, ◌∙◌}
use Rattle.sp_base.specs.declared.id.Flow.{Flow}
use Rattle.sp_base.specs.declared.id.NodeId.{NodeId}
use Rattle.sp_msg.specs.declared.body.Ack.{Ack}
use Rattle.sp_msg.specs.declared.kept.Kept.{Kept}
use Rattle.sp_msg.specs.declared.refused.SendRefused.{SendRefused}
use Rattle.sp_rules.specs.Answers.{ack_answer, is_new, prio_answer, weight_answer}
use Rattle.sp_rules.specs.Arrivals.{greeted}
use Rattle.sp_rules.specs.Arrivals as arrivals
use Rattle.sp_rules.specs.Arts.{Arts}
use Rattle.sp_rules.specs.Handle.{Arrival, ack_item, handle, met, offer_to, prio_handled, rel_answer_to, rel_item}
use Rattle.sp_rules.specs.Kflow.{ack_body, pushed}
use Rattle.sp_rules.specs.KflowSends.{krel_sends, send_krel_refusal}
use Rattle.sp_rules.specs.Lives.{are_held, is_dated, origin_said}
use Rattle.sp_rules.specs.Node.{NodeState, kept_or, signed_now, signed_once}
use Rattle.sp_rules.specs.Parts.{Parts, flows_of, is_signed, with_flows}
use Rattle.sp_rules.specs.Pieces.{Piece, AckPiece, PrioAckPiece, PrioPiece, RelPiece, ReportPiece, WeightPiece, EpochPiece}
use Rattle.sp_rules.specs.Prio.{judge_prio}
use Rattle.sp_rules.specs.Rel.{RelState, admit_ack, admit_rel, judge_ack_of, judge_rel_of, pushed_in, reported, restarted, settled, took, unheard}
use Rattle.sp_rules.specs.Sends.{rel_body, rel_refusal, send_prio_refusal, signer_refusal, weight_refusal}
use Rattle.sp_rules.specs.Steps.{Input, NodeStep, Output, Poll, Datagram, Tick, SendRel, SendPrio, SetWeight, TakeRel, TakePrio, SendKrel, TakeKrel, Publish}
use Rattle.sp_rules.specs.Ticks.{after_plain, after_tick, at_time, due_now, second_refusal, settled_by}
use Rattle.sp_rules.specs.Weights.{held}
use Rattle.sp_rules.specs.declared.answers.Item.TheVariants as items
use Rattle.sp_rules.specs.declared.answers.PrioAnswer.{PrioAnswer}
use Rattle.sp_rules.specs.declared.answers.PrioAnswer.TheVariants as prios
use Rattle.sp_rules.specs.declared.kflow.FlowKind.{FlowKind}
use Rattle.sp_rules.specs.declared.kflow.FlowKind.TheVariants.{Plain, Paths}
use Rattle.laws_node.proofs.Tables.{cond_either}
use Rattle.laws_runs.proofs.EachKind.{settled_lives}
use Rattle.laws_runs.proofs.KindFacts.{flows_same}
use Rattle.laws_runs.proofs.NoStarts.{NoStart}
use Rattle.sp_rules.specs.Parts.{Fixed}
use Rattle.sp_frame.specs.Sections.{Contents}
use Rattle.sp_frame.specs.Reliable.{Report}
use Rattle.laws_node.specs.Withdrawals.{Obeys, removed_now}
use Rattle.laws_node.proofs.Handles.{new_rel}
use Rattle.sp_rules.specs.declared.rel.RelJudged.TheVariants as rels
use Rattle.sp_rules.specs.Kflow.{came_over}
use Rattle.sp_rules.specs.KflowSends.{KSend}
use Rattle.sp_rules.specs.Masks.{Choice}

-- ---- flows in their place

-- flows of either kind are put where a test holds
pub either_with : (P : RelState → Type 0) (kind k : FlowKind) (t : Bool) (r : RelState) (p : Parts) → (t ≡ true → P (flows_of k p) → P r)
    → P (flows_of kind p)
    → P (flows_of kind (cond t (with_flows k r p) p))
either_with P kind k false r p put h = h
either_with P Plain Plain true r p put h = put refl h
either_with P Plain Paths true r p put h = h
either_with P Paths Plain true r p put h = h
either_with P Paths Paths true r p put h = put refl h

-- something beside the flows changes
pub beside : (P : RelState → Type 0) (kind : FlowKind) (p q : Parts) → q.rel ≡ p.rel → q.kflow ≡ p.kflow → P (flows_of kind p) → P (flows_of kind q)
beside P kind p q plain paths h = subst P (sym (flows_same kind p q plain paths)) h

-- another life of a node begins
pub met_flows : (kind : FlowKind) (p : Parts) (o : Kept) → flows_of kind (met p o) ≡ restarted (flows_of kind p) (origin_said o.body)
met_flows Plain p o = refl
met_flows Paths p o = refl

-- one of a neighbour
pub unheard_flows : (kind : FlowKind) (v : NodeId) (p : Parts) → flows_of kind (arrivals.unheard v p) ≡ unheard (flows_of kind p) v
unheard_flows Plain v p = refl
unheard_flows Paths v p = refl

-- what it leaves, with epochs or without
pub greeted_either : (P : RelState → Type 0) (kind : FlowKind) (epochs risen : Bool) (v : NodeId) (p : Parts) → P (unheard (flows_of kind p) v)
    → P (flows_of kind p) → P (flows_of kind (greeted epochs risen v p))
greeted_either P kind true true v p new old = subst P (sym (unheard_flows kind v p)) new
greeted_either P kind true false v p new old = old
greeted_either P kind false risen v p new old = old

-- who is removed, by the topology as it is
pub obeyed : (kind : FlowKind) (n : NodeState) → Obeys n → (flows_of kind n.parts).removed ≡ removed_now n
obeyed Plain n h = h.rel
obeyed Paths n h = h.kflow

-- the slot of a kind
abbrev pub slot_of_kind : FlowKind → Contents → Option Report
slot_of_kind Plain s = s.slot
slot_of_kind Paths s = s.paths

-- which heeds what of a frame counts leaves
pub heeded_slot_of : (kind : FlowKind) (f : Fixed) (c : Contents) → slot_of_kind kind (arrivals.heeded f c) ≡ slot_of_kind kind c
heeded_slot_of kind f c = go kind f.epochs
  where
    go : (k : FlowKind) (t : Bool) → slot_of_kind k (cond t c (record c { epoch = None })) ≡ slot_of_kind k c
    go Plain true = refl
    go Plain false = refl
    go Paths true = refl
    go Paths false = refl

-- ---- pieces

-- what the pieces of a frame from a neighbour keep
pub record PiecesKeep (P : RelState → Type 0) (v : NodeId) : Type 0 where
  pub report : (r : RelState) (flow : Flow) (base have : ℕ) → P r → P (reported r v flow base have)
  pub ack : (r : RelState) (o : Kept) → P r → P (admit_ack r o)
  pub message : (r : RelState) (flow : Flow) (o : Kept) → judge_rel_of r flow o.body ≡ rels.New → P r → P (admit_rel r o)

-- what each piece keeps that says nothing of a start
pub piece_flows : (P : RelState → Type 0) (kind : FlowKind) (arts : Arts) (at : Arrival) (p : Parts) (piece : Piece) → NoStart piece → PiecesKeep P at.from
    → P (flows_of kind p) → P (flows_of kind (handle arts at p piece).parts)
piece_flows P kind arts at p (WeightPiece o) none keeps h =
    cond_either (λ (q : Parts). P (flows_of kind q))
    (is_new (items.Weight (weight_answer (is_signed arts at.fixed o) (offer_to at.fixed.me p.weights o.body)))) (record p { weights = held p.weights o }) p
    (beside P kind p (record p { weights = held p.weights o }) refl refl h) h
piece_flows P kind arts at p (PrioAckPiece number) none keeps h = beside P kind p (handle arts at p (PrioAckPiece number)).parts refl refl h
piece_flows P kind arts at p (PrioPiece number o) none keeps h =
    go (prio_answer (is_signed arts at.fixed o) (is_dated p.lives o.body) (judge_prio p.prio o.body at.now))
  where
    go : (answer : PrioAnswer) → P (flows_of kind (prio_handled at.from answer number o p).parts)
    go prios.New = beside P kind p (prio_handled at.from prios.New number o p).parts refl refl h
    go prios.Seen = beside P kind p (prio_handled at.from prios.Seen number o p).parts refl refl h
    go prios.BadEnd = h
    go prios.Expired = h
    go prios.BadSig = h
    go prios.Epoch = h
piece_flows P kind arts at p (ReportPiece k flow sboot dboot base have) none keeps h =
    either_with P kind k (are_held p.lives flow sboot dboot) (reported (flows_of k p) at.from flow base have) p
    (λ under. keeps.report (flows_of k p) flow base have) h
piece_flows P kind arts at p (AckPiece k flow o) none keeps h =
    either_with P kind k
    (is_new (ack_item k (ack_answer (is_signed arts at.fixed o) (is_dated p.lives o.body) (judge_ack_of (flows_of k p) flow o.body))))
    (admit_ack (flows_of k p) o) p (λ new. keeps.ack (flows_of k p) o) h
piece_flows P kind arts at p (RelPiece k flow o) none keeps h =
    either_with P kind k (is_new (rel_item k (rel_answer_to arts at p (judge_rel_of (flows_of k p) flow o.body) o)))
    (admit_rel (flows_of k p) o) p
    (λ new. keeps.message (flows_of k p) flow o
    (new_rel k (is_signed arts at.fixed o) (is_dated p.lives o.body) (came_over p.kflow at.from o.body) (judge_rel_of (flows_of k p) flow o.body) new).1) h
piece_flows P kind arts at p (EpochPiece o) none keeps h = absurd none

-- ---- steps

-- a client's message that a node sends, of flows of a kind
pub data Pushes (arts : Arts) (n : NodeState) : FlowKind → Kept → Type 0 where
  Plainly : (dst : NodeId) (payload : List ℕ) → rel_refusal n dst ≡ None → Pushes arts n Plain (signed_now arts n (rel_body n dst payload))
  On_paths : (m : KSend) (choice : Choice) → send_krel_refusal n m choice ≡ None → Pushes arts n Paths (signed_now arts n (krel_sends n m choice))

-- what a node does by itself, and for its clients, keeps
pub record StepsKeep (P : RelState → Type 0) (arts : Arts) (n : NodeState) (kind : FlowKind) : Type 0 where
  pub settle : (r : RelState) (o : Kept) → P r → P (settled r o)
  pub push : (o : Kept) → Pushes arts n kind o → P (flows_of kind n.parts) → P (pushed_in (flows_of kind n.parts) o)
  pub take : (r : RelState) (src : NodeId) → P r → P (took r src)

-- what a tick keeps
pub ticked_flows : (P : RelState → Type 0) (kind : FlowKind) (arts : Arts) (n : NodeState) (now : ℕ) → StepsKeep P arts n kind → P (flows_of kind n.parts)
    → P (flows_of kind (after_tick arts n now).parts)
ticked_flows P kind arts n now keeps h =
    one Paths (after_plain arts n now) (due_now Paths n) (second_refusal arts n now)
    (one Plain (at_time n now) (due_now Plain n) (signer_refusal n.signer) (beside P kind n.parts (at_time n now).parts refl refl h))
  where
    one : (k : FlowKind) (m : NodeState) (o : Option Ack) (r : Option SendRefused) → P (flows_of kind m.parts)
        → P (flows_of kind (settled_by arts k m o r).parts)
    one k m None r h = h
    one k m (Some ack) (Some refusal) h = h
    one k m (Some ack) None h =
        let o = signed_now arts m (ack_body k ack) in
        either_with P kind k true (settled (flows_of k m.parts) o) m.parts (λ on. keeps.settle (flows_of k m.parts) o) h

-- and it leaves the boots that are held
pub ticked_lives : (arts : Arts) (n : NodeState) (now : ℕ) → (after_tick arts n now).parts.lives ≡ n.parts.lives
ticked_lives arts n now =
    settled_lives arts Paths (after_plain arts n now) (due_now Paths n) (second_refusal arts n now)
    ∙ settled_lives arts Plain (at_time n now) (due_now Plain n) (signer_refusal n.signer)

-- no frame is made or comes, and no version
abbrev pub IsOwn : Input → Type 0
IsOwn (Poll v) = ⊥
IsOwn (Datagram v bytes) = ⊥
IsOwn (Publish document) = ⊥
IsOwn _ = Unit {0}

kept_flows : {X : Type 0} (P : RelState → Type 0) (kind : FlowKind) (r : Option X) (n m : NodeState) → P (flows_of kind n.parts) → P (flows_of kind m.parts)
    → P (flows_of kind (kept_or r n m).parts)
kept_flows P kind None n m old new = new
kept_flows P kind (Some x) n m old new = old

-- what such a step keeps
pub own_flows : (P : RelState → Type 0) (kind : FlowKind) (arts : Arts) (n : NodeState) (input : Input) (output : Output) (new : NodeState) → IsOwn input
    → NodeStep arts n input output new → StepsKeep P arts n kind → P (flows_of kind n.parts) → P (flows_of kind new.parts)
own_flows P kind arts n (Poll v) output new own s keeps h = absurd own
own_flows P kind arts n (Datagram v bytes) output new own s keeps h = absurd own
own_flows P kind arts n (Publish document) output new own s keeps h = absurd own
own_flows P kind arts n (Tick now) output new own s keeps h =
    subst (λ (m : NodeState). P (flows_of kind m.parts)) (sym s.1) (ticked_flows P kind arts n now keeps h)
own_flows P kind arts n (SendRel dst payload) output new own s keeps h =
    subst (λ (m : NodeState). P (flows_of kind m.parts)) (sym s.1) (go kind keeps h (rel_refusal n dst) refl)
  where
    go : (k : FlowKind) → StepsKeep P arts n k → P (flows_of k n.parts) → (r : Option SendRefused) → rel_refusal n dst ≡ r
        → P (flows_of k (kept_or r n (signed_once n (record n.parts { rel = pushed_in n.parts.rel (signed_now arts n (rel_body n dst payload)) }))).parts)
    go k keeps h (Some refused) e = h
    go Plain keeps h None e = keeps.push (signed_now arts n (rel_body n dst payload)) (Plainly dst payload e) h
    go Paths keeps h None e = h
own_flows P kind arts n (SendPrio m) output new own s keeps h =
    subst (λ (m : NodeState). P (flows_of kind m.parts)) (sym s.new_is)
    (kept_flows P kind (send_prio_refusal n m s.choice) n _ h (beside P kind n.parts _ refl refl h))
own_flows P kind arts n (SetWeight v weight) output new own s keeps h =
    subst (λ (m : NodeState). P (flows_of kind m.parts)) (sym s.1)
    (kept_flows P kind (weight_refusal n v weight) n _ h (beside P kind n.parts _ refl refl h))
own_flows P kind arts n (TakeRel src) output new own s keeps h =
    subst (λ (m : NodeState). P (flows_of kind m.parts)) (sym s.1)
    (either_with P kind Plain true (took n.parts.rel src) n.parts (λ on. keeps.take n.parts.rel src) h)
own_flows P kind arts n (SendKrel m) output new own s keeps h =
    subst (λ (m : NodeState). P (flows_of kind m.parts)) (sym s.new_is) (go kind keeps h (send_krel_refusal n m s.choice) refl)
  where
    go : (k : FlowKind) → StepsKeep P arts n k → P (flows_of k n.parts) → (r : Option SendRefused) → send_krel_refusal n m s.choice ≡ r
        → P (flows_of k (kept_or r n
        (signed_once n (record n.parts { kflow = pushed n.parts.kflow (signed_now arts n (krel_sends n m s.choice)) m.paths }))).parts)
    go k keeps h (Some refused) e = h
    go Plain keeps h None e = h
    go Paths keeps h None e = keeps.push (signed_now arts n (krel_sends n m s.choice)) (On_paths m s.choice e) h
own_flows P kind arts n (TakeKrel src) output new own s keeps h =
    subst (λ (m : NodeState). P (flows_of kind m.parts)) (sym s.1)
    (either_with P kind Paths true (took n.parts.kflow.flows src) n.parts (λ on. keeps.take n.parts.kflow.flows src) h)
own_flows P kind arts n TakePrio output new own s keeps h =
    subst (λ (m : NodeState). P (flows_of kind m.parts)) (sym s.1) (beside P kind n.parts _ refl refl h)

kept_lives : {X : Type 0} (r : Option X) (n m : NodeState) → m.parts.lives ≡ n.parts.lives → (kept_or r n m).parts.lives ≡ n.parts.lives
kept_lives None n m same = same
kept_lives (Some x) n m same = refl

-- and it leaves the boots that are held
pub own_lives : (arts : Arts) (n : NodeState) (input : Input) (output : Output) (new : NodeState) → IsOwn input → NodeStep arts n input output new
    → new.parts.lives ≡ n.parts.lives
own_lives arts n (Poll v) output new own s = absurd own
own_lives arts n (Datagram v bytes) output new own s = absurd own
own_lives arts n (Publish document) output new own s = absurd own
own_lives arts n (Tick now) output new own s = subst (λ (m : NodeState). m.parts.lives ≡ n.parts.lives) (sym s.1) (ticked_lives arts n now)
own_lives arts n (SendRel dst payload) output new own s =
    subst (λ (m : NodeState). m.parts.lives ≡ n.parts.lives) (sym s.1) (kept_lives (rel_refusal n dst) n _ refl)
own_lives arts n (SendPrio m) output new own s =
    subst (λ (m : NodeState). m.parts.lives ≡ n.parts.lives) (sym s.new_is) (kept_lives (send_prio_refusal n m s.choice) n _ refl)
own_lives arts n (SetWeight v weight) output new own s =
    subst (λ (m : NodeState). m.parts.lives ≡ n.parts.lives) (sym s.1) (kept_lives (weight_refusal n v weight) n _ refl)
own_lives arts n (TakeRel src) output new own s = subst (λ (m : NodeState). m.parts.lives ≡ n.parts.lives) (sym s.1) refl
own_lives arts n (SendKrel m) output new own s =
    subst (λ (m : NodeState). m.parts.lives ≡ n.parts.lives) (sym s.new_is) (kept_lives (send_krel_refusal n m s.choice) n _ refl)
own_lives arts n (TakeKrel src) output new own s = subst (λ (m : NodeState). m.parts.lives ≡ n.parts.lives) (sym s.1) refl
own_lives arts n TakePrio output new own s = subst (λ (m : NodeState). m.parts.lives ≡ n.parts.lives) (sym s.1) refl
