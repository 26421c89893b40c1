-- An object that is new is of another node and above what is held, and held boots change by such objects alone.
use Rattle.std.proofs.Common.{◌≡◌, ◌<◌, ◌≤◌, ℕ, zero, suc, ◌==◌, ◌||◌, not, nat_le, Bool, true, false, cond, List, [], ◌∷◌, map, slice_set, Option, Some, None}
use Rattle.std.proofs.Common.{refl, sym, ap, subst, ◌∙◌, inl, inr, arith}
use Rattle.std.specs.Prelude.{slice_index_or}
use Rattle.std.proofs.lemmas.Bool.{cases_Bool, eqb-true, eq-eqb}
use Rattle.std.proofs.lemmas.Bool.Decides.{nat_tests}
use Rattle.sp_base.specs.declared.id.Flow.{Flow}
use Rattle.sp_base.specs.declared.id.NodeId.{NodeId}
use Rattle.sp_msg.specs.declared.body.Ack.{Ack}
use Rattle.sp_msg.specs.declared.body.Body.{Body}
use Rattle.sp_msg.specs.declared.body.Body.TheVariants as bodies
use Rattle.sp_msg.specs.declared.kept.Kept.{Kept}
use Rattle.sp_msg.specs.declared.refused.SendRefused.{SendRefused}
use Rattle.sp_rules.proofs.FlowJudged.{found_ends}
use Rattle.sp_rules.specs.Answers.{ack_answer, epoch_answer, is_new, prio_answer, weight_answer}
use Rattle.sp_rules.specs.Arrivals.{arrival_at, before_document, document_at, greeted, parts_met, pieces_in, pieces_where, read_by, reply_at, rises}
use Rattle.sp_rules.specs.Arrivals.{sections_in}
use Rattle.sp_rules.specs.Arts.{Arts}
use Rattle.sp_rules.specs.Flow.{FlowState, ends, is_flow, no_flow}
use Rattle.sp_rules.specs.Handle.{Arrival, ack_item, handle, handle_all, heard_where, met, offer_to, rel_answer_to, rel_item}
use Rattle.sp_rules.specs.Kflow.{ack_body}
use Rattle.sp_rules.specs.KflowSends.{send_krel_refusal}
use Rattle.sp_rules.specs.Lives.{are_held, boot_said, held, held_boot, is_dated, is_known, is_life, judge_epoch, no_life, origin_said, boot_of}
use Rattle.sp_rules.specs.Link.{advanced}
use Rattle.sp_rules.specs.Node.{NodeState, call_refusal, called, kept_or, link_in, signed_now, with_link}
use Rattle.sp_rules.specs.Parts.{Parts, flows_of, is_signed, with_flows}
use Rattle.sp_rules.specs.Pieces.{Piece, WeightPiece, PrioAckPiece, PrioPiece, ReportPiece, AckPiece, RelPiece, EpochPiece}
use Rattle.sp_rules.specs.Polls.{is_served, parts_after, polled}
use Rattle.sp_rules.specs.Prio.{admit_prio, judge_prio, place_of, window_at, windows_less}
use Rattle.sp_rules.specs.Rel.{admit_ack, admit_rel, flow_in, flow_less, is_end, judge_ack_of, judge_rel_of, reported, settled}
use Rattle.sp_rules.specs.Sends.{rel_refusal, send_prio_refusal, signer_refusal, weight_refusal}
use Rattle.sp_rules.specs.Steps.{Input, NodeStep, Output, Poll, Datagram, Tick, SendRel, SendPrio, SetWeight, TakeRel, TakePrio, SendKrel, TakeKrel, Publish}
use Rattle.sp_rules.specs.Ticks.{after_plain, after_tick, at_time, due_now, second_refusal, settled_by}
use Rattle.sp_rules.specs.declared.answers.EpochAnswer.{EpochAnswer}
use Rattle.sp_rules.specs.declared.answers.Item.TheVariants as items
use Rattle.sp_rules.specs.declared.answers.PrioAnswer.{PrioAnswer}
use Rattle.sp_rules.specs.declared.answers.PrioAnswer.TheVariants as prios
use Rattle.sp_rules.specs.declared.kflow.FlowKind.{FlowKind}
use Rattle.sp_rules.specs.declared.kflow.FlowKind.TheVariants.{Plain, Paths}
use Rattle.sp_rules.specs.declared.lives.EpochJudged.TheVariants as judged
use Rattle.sp_rules.specs.declared.lives.Life.{Life}
use Rattle.laws_node.specs.Epochs.{BootsNeverFall, EpochTaken, Follows, OwnBootStays}
use Rattle.laws_node.proofs.Adopting.{publishing, reading}
use Rattle.laws_node.proofs.FlowKinds.{lives_beside}
use Rattle.laws_node.proofs.Handles.{new_start}
use Rattle.laws_node.proofs.TableReads.{first_replaced, other_replaced}

-- ---- what is judged new

record NewIs (me : NodeId) (lives : List Life) (body : Body) : Type 0 where
  away : ((origin_said body).0 == me.0) ≡ false
  known : is_known lives (origin_said body) ≡ true
  above : held_boot lives (origin_said body) < boot_said body

new_is : (me : NodeId) (lives : List Life) (body : Body) → judge_epoch me lives body ≡ judged.New → NewIs me lives body
new_is me lives (bodies.Epoch e) new =
    go (e.origin.0 == me.0) (is_known lives e.origin) (nat_le e.boot (held_boot lives e.origin)) refl refl refl new
  where
    go : (mine known low : Bool) → (e.origin.0 == me.0) ≡ mine → is_known lives e.origin ≡ known → nat_le e.boot (held_boot lives e.origin) ≡ low
        → cond (mine || not known) judged.BadEnd (cond low judged.Old judged.New) ≡ judged.New → NewIs me lives (bodies.Epoch e)
    go true known low a b c new = absurd (cc)
    go false false low a b c new = absurd (cc)
    go false true true a b c new = absurd (cc)
    go false true false a b c new = record { away = a; known = b; above = grind (arith, nat_tests, c) }
new_is me lives (bodies.Prio b) new = absurd (cc)
new_is me lives (bodies.Rel b) new = absurd (cc)
new_is me lives (bodies.Ack b) new = absurd (cc)
new_is me lives (bodies.Weight b) new = absurd (cc)
new_is me lives (bodies.Krel b) new = absurd (cc)
new_is me lives (bodies.Kack b) new = absurd (cc)

-- ---- held boots

abbrev row_of : Kept → Life
row_of o = record { node = origin_said o.body; object = Some o }

held_here : (lives : List Life) (o : Kept) → is_known lives (origin_said o.body) ≡ true → held_boot (held lives o) (origin_said o.body) ≡ boot_said o.body
held_here lives o known =
    let v = origin_said o.body in
    ap (λ (l : Life). boot_of l.object) (first_replaced (is_life v) (no_life v) (row_of o) lives (eq-eqb v.0 v.0 refl) known)

held_there : (lives : List Life) (o : Kept) (u : NodeId) → ((origin_said o.body).0 ≡ u.0 → ⊥) → held_boot (held lives o) u ≡ held_boot lives u
held_there lives o u other =
    let v = origin_said o.body in
    ap (λ (l : Life). boot_of l.object) (other_replaced (is_life v) (is_life u) (no_life u) (row_of o) lives
    (λ l is. not_same l.node.0 u.0 (λ same. other (sym (eqb-true l.node.0 v.0 is) ∙ same))) (not_same v.0 u.0 other))
  where
    not_same : (a b : ℕ) → (a ≡ b → ⊥) → (a == b) ≡ false
    not_same a b other = elim (cases_Bool (a == b)) [ inl t ↦ absurd (other (eqb-true a b t)) | inr t ↦ t ]

-- ---- windows and flows

emptied : (ws : List (List ℕ)) (place : Option ℕ) → window_at (windows_less ws place) place ≡ []
emptied ws None = refl
emptied ws (Some place) = at ws place
  where
    at : (ws : List (List ℕ)) (place : ℕ) → slice_index_or (slice_set ws place []) place [] ≡ []
    at [] place = refl
    at (w ∷ ws) zero = refl
    at (w ∷ ws) (suc place) = at ws place

same_row : (v : NodeId) (flow : Flow) (f : FlowState) → is_flow flow (flow_less v f) ≡ is_flow flow f
same_row v flow f = go (is_end v (ends f))
  where
    go : (t : Bool) → is_flow flow (cond t (no_flow (ends f)) f) ≡ is_flow flow f
    go true = refl
    go false = refl

none_less : (v : NodeId) (flow : Flow) → flow_less v (no_flow flow) ≡ no_flow flow
none_less v flow = go (is_end v flow)
  where
    go : (t : Bool) → cond t (no_flow flow) (no_flow flow) ≡ no_flow flow
    go true = refl
    go false = refl

found_less : (v : NodeId) (flow : Flow) (fs : List FlowState) → flow_in (map (flow_less v) fs) flow ≡ flow_less v (flow_in fs flow)
found_less v flow [] = sym (none_less v flow)
found_less v flow (f ∷ fs) =
    let row = same_row v flow f in
    let rest = found_less v flow fs in
    elim (cases_Bool (is_flow flow f)) [ inl t ↦ rw (row, t) refl | inr t ↦ rw (row, t) rest ]

less_of_flow : (v : NodeId) (flow : Flow) (fs : List FlowState) → flow_in (map (flow_less v) fs) flow ≡ cond (is_end v flow) (no_flow flow) (flow_in fs flow)
less_of_flow v flow fs =
    found_less v flow fs ∙ ap (λ (x : Flow). cond (is_end v x) (no_flow x) (flow_in fs flow)) (found_ends fs flow)

-- ---- an object comes

follows : (me : NodeId) (p : Parts) (o : Kept) → NewIs me p.lives o.body → Follows (origin_said o.body) (boot_said o.body) p (met p o)
follows me p o new = record {
  above = new.above;
  held = held_here p.lives o new.known;
  others = λ u other. held_there p.lives o u (λ same. other (sym same));
  window = emptied p.prio.windows (place_of p.prio.nodes (origin_said o.body).0);
  flows = flows;
}
  where
    flows : (kind : FlowKind) (flow : Flow)
        → flow_in (flows_of kind (met p o)).flows flow
        ≡ cond (is_end (origin_said o.body) flow) (no_flow flow) (flow_in (flows_of kind p).flows flow)
    flows Plain flow = less_of_flow (origin_said o.body) flow p.rel.flows
    flows Paths flow = less_of_flow (origin_said o.body) flow p.kflow.flows.flows

pub epoch_taken : EpochTaken
epoch_taken arts at p o e =
    let right = is_signed arts at.fixed o in
    let judge = judge_epoch at.fixed.me p.lives o.body in
    let new : is_new (items.Epoch (epoch_answer right judge)) ≡ true = ap (λ (a : EpochAnswer). is_new (items.Epoch a)) e in
    let done = follows at.fixed.me p o (new_is at.fixed.me p.lives o.body (new_start right judge new).1) in
    subst (λ (t : Bool). Follows (origin_said o.body) (boot_said o.body) p (cond t (met p o) p)) (sym new) done

-- ---- steps

record Rises (me : NodeId) (old new : List Life) : Type 0 where
  rise : (v : NodeId) → held_boot old v ≤ held_boot new v
  own : held_boot new me ≡ held_boot old me

module _ (me : NodeId) where
  rests : (old new : List Life) → new ≡ old → Rises me old new
  rests old new same = subst (Rises me old) (sym same) (record { rise = λ v. omega arith; own = refl })

  on : (old mid new : List Life) → Rises me old mid → Rises me mid new → Rises me old new
  on old mid new one two = record {
    rise = λ v. let a = one.rise v in let b = two.rise v in omega (arith, a, b);
    own = two.own ∙ one.own;
  }

  rises_to : (p : Parts) (o : Kept) → NewIs me p.lives o.body → Rises me p.lives (met p o).lives
  rises_to p o new =
      let v = origin_said o.body in
      let done = follows me p o new in
      record {
        rise = λ u. elim (cases_Bool (u.0 == v.0)) [
          | inl t ↦
              let same : v ≡ u = ap (λ (n : ℕ). record { 0 = n }) (sym (eqb-true u.0 v.0 t)) in
              subst (λ (w : NodeId). held_boot p.lives w ≤ held_boot (met p o).lives w) same
              (let up = done.above in let is = done.held in omega (arith, up, is))
          | inr t ↦
              let stays = done.others u (λ same. absurd (let wrong : true ≡ false = sym (eq-eqb u.0 v.0 same) ∙ t in cc)) in
              omega (arith, stays)
        ];
        own = done.others me (λ same. absurd (let wrong : true ≡ false = sym (eq-eqb v.0 me.0 (sym same)) ∙ new.away in cc));
      }

  either : (t : Bool) (x p : Parts) → x.lives ≡ p.lives → (cond t x p).lives ≡ p.lives
  either true x p e = e
  either false x p e = refl

  heard : (answer : PrioAnswer) (v : NodeId) (number : ℕ) (p : Parts) → (heard_where answer v number p).lives ≡ p.lives
  heard prios.New v number p = refl
  heard prios.Seen v number p = refl
  heard prios.BadEnd v number p = refl
  heard prios.Expired v number p = refl
  heard prios.BadSig v number p = refl
  heard prios.Epoch v number p = refl

  one_piece : (arts : Arts) (at : Arrival) (p : Parts) (piece : Piece) → at.fixed.me ≡ me → Rises me p.lives (handle arts at p piece).parts.lives
  one_piece arts at p (WeightPiece o) is =
      rests p.lives _ (either (is_new (items.Weight (weight_answer (is_signed arts at.fixed o) (offer_to at.fixed.me p.weights o.body)))) _ p refl)
  one_piece arts at p (PrioAckPiece number) is = rests p.lives p.lives refl
  one_piece arts at p (PrioPiece number o) is =
      let answer = prio_answer (is_signed arts at.fixed o) (is_dated p.lives o.body) (judge_prio p.prio o.body at.now) in
      let new = record p { prio = admit_prio p.prio o (Some at.from) } in
      rests p.lives _ (heard answer at.from number (cond (is_new (items.Prio answer)) new p) ∙ either (is_new (items.Prio answer)) new p refl)
  one_piece arts at p (ReportPiece kind flow sboot dboot base have) is =
      let r = reported (flows_of kind p) at.from flow base have in
      rests p.lives _ (either (are_held p.lives flow sboot dboot) (with_flows kind r p) p (lives_beside kind r p))
  one_piece arts at p (AckPiece kind flow o) is =
      let r = flows_of kind p in
      rests p.lives _
      (either (is_new (ack_item kind (ack_answer (is_signed arts at.fixed o) (is_dated p.lives o.body) (judge_ack_of r flow o.body))))
      (with_flows kind (admit_ack r o) p) p (lives_beside kind (admit_ack r o) p))
  one_piece arts at p (RelPiece kind flow o) is =
      let r = flows_of kind p in
      rests p.lives _
      (either (is_new (rel_item kind (rel_answer_to arts at p (judge_rel_of r flow o.body) o)))
      (with_flows kind (admit_rel r o) p) p (lives_beside kind (admit_rel r o) p))
  one_piece arts at p (EpochPiece o) is =
      let right = is_signed arts at.fixed o in
      let judge = judge_epoch at.fixed.me p.lives o.body in
      elim (cases_Bool (is_new (items.Epoch (epoch_answer right judge)))) [
        | inl t ↦
            let new = subst (λ (u : NodeId). NewIs u p.lives o.body) is (new_is at.fixed.me p.lives o.body (new_start right judge t).1) in
            let done = rises_to p o new in
            rw t done
        | inr t ↦ let same = rests p.lives p.lives refl in rw t same
      ]

  all_pieces : (arts : Arts) (at : Arrival) (p : Parts) (pieces : List Piece) → at.fixed.me ≡ me → Rises me p.lives (handle_all arts at p pieces).parts.lives
  all_pieces arts at p [] is = rests p.lives p.lives refl
  all_pieces arts at p (piece ∷ pieces) is =
      let first = handle arts at p piece in
      on p.lives first.parts.lives (handle_all arts at first.parts pieces).parts.lives (one_piece arts at p piece is) (all_pieces arts at first.parts pieces is)

greeted_lives : (epochs risen : Bool) (v : NodeId) (p : Parts) → (greeted epochs risen v p).lives ≡ p.lives
greeted_lives true true v p = refl
greeted_lives true false v p = refl
greeted_lives false risen v p = refl

or_rises : {R : Type 0} (me : NodeId) (r : Option R) (old done : NodeState) → Rises me old.parts.lives done.parts.lives
    → Rises me old.parts.lives (kept_or r old done).parts.lives
or_rises me None old done h = h
or_rises me (Some x) old done h = rests me old.parts.lives old.parts.lives refl

-- an acknowledgement that is signed changes no life
settled_lives : (arts : Arts) (kind : FlowKind) (n : NodeState) (a : Option Ack) (r : Option SendRefused)
    → (settled_by arts kind n a r).parts.lives ≡ n.parts.lives
settled_lives arts kind n None r = refl
settled_lives arts kind n (Some ack) (Some refusal) = refl
settled_lives arts kind n (Some ack) None = lives_beside kind (settled (flows_of kind n.parts) (signed_now arts n (ack_body kind ack))) n.parts

step_rises : (arts : Arts) (n : NodeState) (input : Input) (output : Output) (new : NodeState) → NodeStep arts n input output new
    → Rises n.fixed.me n.parts.lives new.parts.lives
step_rises arts n (Poll v) output new s =
    subst (λ (m : NodeState). Rises n.fixed.me n.parts.lives m.parts.lives) (sym s.1)
    (or_rises n.fixed.me (call_refusal n v) n (called n (with_link n v (advanced (link_in n v))) (parts_after n v))
    (rests n.fixed.me n.parts.lives (parts_after n v).lives (either n.fixed.me (is_served n v) (polled n.fixed n.parts v) n.parts refl)))
step_rises arts n (Datagram v bytes) output new s =
    let left = before_document arts n v bytes in
    let first = on n.fixed.me n.parts.lives (parts_met arts n v bytes).lives left.parts.lives
    (rests n.fixed.me n.parts.lives _ (greeted_lives n.fixed.epochs (rises arts n v bytes) v n.parts))
    (all_pieces n.fixed.me arts (arrival_at n v) (parts_met arts n v bytes)
    (pieces_where (reply_at arts n v bytes) (pieces_in n.fixed (sections_in arts n.fixed bytes))) refl) in
    subst (λ (m : NodeState). Rises n.fixed.me n.parts.lives m.parts.lives) (sym s.1)
    (or_rises n.fixed.me (call_refusal n v) n (read_by arts left (document_at arts n v bytes))
    (reading arts left (document_at arts n v bytes) (λ m told. Rises n.fixed.me n.parts.lives m.parts.lives) first (λ document d is reads by. first)))
step_rises arts n (Tick now) output new s =
    subst (λ (m : NodeState). Rises n.fixed.me n.parts.lives m.parts.lives) (sym s.1)
    (rests n.fixed.me n.parts.lives (after_tick arts n now).parts.lives
    (settled_lives arts Paths (after_plain arts n now) (due_now Paths n) (second_refusal arts n now)
    ∙ settled_lives arts Plain (at_time n now) (due_now Plain n) (signer_refusal n.signer)))
step_rises arts n (SendRel dst payload) output new s =
    subst (λ (m : NodeState). Rises n.fixed.me n.parts.lives m.parts.lives) (sym s.1)
    (or_rises n.fixed.me (rel_refusal n dst) n _ (rests n.fixed.me n.parts.lives _ refl))
step_rises arts n (SendPrio x) output new s =
    subst (λ (m : NodeState). Rises n.fixed.me n.parts.lives m.parts.lives) (sym s.new_is)
    (or_rises n.fixed.me (send_prio_refusal n x s.choice) n _ (rests n.fixed.me n.parts.lives _ refl))
step_rises arts n (SetWeight v weight) output new s =
    subst (λ (m : NodeState). Rises n.fixed.me n.parts.lives m.parts.lives) (sym s.1)
    (or_rises n.fixed.me (weight_refusal n v weight) n _ (rests n.fixed.me n.parts.lives _ refl))
step_rises arts n (TakeRel src) output new s =
    subst (λ (m : NodeState). Rises n.fixed.me n.parts.lives m.parts.lives) (sym s.1) (rests n.fixed.me n.parts.lives n.parts.lives refl)
step_rises arts n (SendKrel m) output new s =
    subst (λ (m : NodeState). Rises n.fixed.me n.parts.lives m.parts.lives) (sym s.new_is)
    (or_rises n.fixed.me (send_krel_refusal n m s.choice) n _ (rests n.fixed.me n.parts.lives _ refl))
step_rises arts n (TakeKrel src) output new s =
    subst (λ (m : NodeState). Rises n.fixed.me n.parts.lives m.parts.lives) (sym s.1) (rests n.fixed.me n.parts.lives n.parts.lives refl)
step_rises arts n TakePrio output new s =
    subst (λ (m : NodeState). Rises n.fixed.me n.parts.lives m.parts.lives) (sym s.1) (rests n.fixed.me n.parts.lives n.parts.lives refl)
step_rises arts n (Publish document) output new s =
    let same = rests n.fixed.me n.parts.lives n.parts.lives refl in
    subst (λ (m : NodeState). Rises n.fixed.me n.parts.lives m.parts.lives) (sym s.1)
    (publishing arts n document (λ m told. Rises n.fixed.me n.parts.lives m.parts.lives) same (λ d reads by. same))

pub boots_never_fall : BootsNeverFall
boots_never_fall arts old input output new v s = (step_rises arts old input output new s).rise v

pub own_boot_stays : OwnBootStays
own_boot_stays arts old input output new s = (step_rises arts old input output new s).own
