-- Of a frame the last piece alone may say of a start: what that makes of the boots that are held, and that no other piece changes them.
use Rattle.std.proofs.Common.{◌≡◌, ◌≤◌, ℕ, Bool, true, false, cond, List, [], ◌∷◌, ◌++◌, map, Option, Some, None, Result, Ok, Err, refl, sym, ap, subst, ◌∙◌}
use Rattle.std.proofs.Common.{inl, inr, arith, append_assoc}
use Rattle.std.specs.Prelude.{◌⊎◌}
use Rattle.std.proofs.lemmas.Bool.{cases_Bool, cases_eq}
use Rattle.sp_base.specs.declared.id.NodeId.{NodeId}
use Rattle.sp_frame.specs.Reliable.{Report}
use Rattle.sp_frame.specs.Sections.{Contents}
use Rattle.sp_frame.specs.Views.{as_list}
use Rattle.sp_frame.specs.declared.refused.SectionRefused.{SectionRefused}
use Rattle.sp_msg.specs.declared.body.Ack.{Ack}
use Rattle.sp_msg.specs.declared.kept.Kept.{Kept}
use Rattle.sp_msg.specs.declared.refused.SendRefused.{SendRefused}
use Rattle.sp_rules.specs.Answers.{ack_answer, epoch_answer, is_new, prio_answer, weight_answer}
use Rattle.sp_rules.specs.Arrivals.{arrival_at, greeted, heeded, parts_met, pieces_in, pieces_where, before_document, document_at, read_by, rises}
use Rattle.sp_rules.specs.Arts.{Arts}
use Rattle.sp_rules.specs.Handle.{Arrival, ack_item, handle, handle_all, heard_where, met, offer_to, rel_answer_to, rel_item}
use Rattle.sp_rules.specs.KflowSends.{send_krel_refusal}
use Rattle.sp_rules.specs.Lives.{are_held, boot_said, held_boot, is_dated, judge_epoch, origin_said}
use Rattle.sp_rules.specs.Node.{NodeState, call_refusal, called, kept_or, link_in, with_link}
use Rattle.sp_rules.specs.Parts.{Fixed, Parts, flows_of, is_signed, with_flows}
use Rattle.sp_rules.specs.Pieces.{Piece, WeightPiece, PrioAckPiece, PrioPiece, ReportPiece, AckPiece, RelPiece, EpochPiece, pieces_of, prio_piece, slot_pieces}
use Rattle.sp_rules.specs.Prio.{admit_prio, judge_prio}
use Rattle.sp_rules.specs.Rel.{admit_ack, admit_rel, judge_ack_of, judge_rel_of, reported}
use Rattle.sp_rules.specs.Sends.{rel_refusal, send_prio_refusal, signer_refusal, weight_refusal}
use Rattle.sp_rules.specs.Steps as steps
use Rattle.sp_rules.specs.Steps.{Input, NodeStep, Output, arrived, refused_call}
use Rattle.sp_rules.specs.Ticks.{after_plain, at_time, due_now, second_refusal, settled_by}
use Rattle.sp_rules.specs.Weights.{held}
use Rattle.sp_rules.specs.declared.answers.EpochAnswer.{EpochAnswer}
use Rattle.sp_rules.specs.declared.answers.EpochAnswer.TheVariants as starts
use Rattle.sp_rules.specs.declared.answers.Item.TheVariants as items
use Rattle.sp_rules.specs.declared.answers.PrioAnswer.{PrioAnswer}
use Rattle.sp_rules.specs.declared.answers.PrioAnswer.TheVariants as prios
use Rattle.sp_rules.specs.declared.kflow.FlowKind.{FlowKind}
use Rattle.sp_rules.specs.declared.kflow.FlowKind.TheVariants.{Plain, Paths}
use Rattle.sp_rules.specs.declared.lives.Life.{Life}
use Rattle.sp_rules.specs.declared.node.LinkReply.{LinkReply}
use Rattle.sp_rules.specs.declared.node.LinkReply.TheVariants as links
use Rattle.sp_rules.specs.declared.node.NodeRefused.{NodeRefused}
use Rattle.sp_rules.specs.Link.{advanced}
use Rattle.sp_rules.specs.Polls.{is_served, parts_after, polled}
use Rattle.laws_node.proofs.Adopting.{publishing, reading}
use Rattle.laws_node.specs.Asked.{NewKeep}
use Rattle.laws_node.specs.Epochs.{Follows}
use Rattle.laws_node.proofs.AskedLemmas.{new_left, new_right}
use Rattle.laws_node.proofs.Epochs.{epoch_taken}
use Rattle.laws_node.proofs.FlowKinds.{lives_beside}
use Rattle.laws_node.proofs.Tables.{cond_either}
use Rattle.laws_runs.proofs.NoStarts.{NoStart, pieces_at, beside}

-- ---- the last piece

abbrev pub StartLast : List Piece → Type 0
StartLast [] = Unit {0}
StartLast (piece ∷ pieces) = (NoStart piece × StartLast pieces) ⊎ (pieces ≡ [])

before_map : {X : Type 0} (f : X → Piece) → ((x : X) → NoStart (f x)) → (xs : List X) (ys : List Piece) → StartLast ys → StartLast (map f xs ++ ys)
before_map f each [] ys h = h
before_map f each (x ∷ xs) ys h = inl (each x, before_map f each xs ys h)

before_slot : (kind : FlowKind) (slot : Option Report) (ys : List Piece) → StartLast ys → StartLast (slot_pieces kind slot ++ ys)
before_slot kind None ys h = h
before_slot kind (Some r) ys h =
    inl (
      tt,
      subst StartLast (sym (append_assoc (map (AckPiece kind r.flow) (as_list r.ack)) (map (RelPiece kind r.flow) r.rels) ys))
          (before_map (AckPiece kind r.flow) (λ o. tt) (as_list r.ack) (map (RelPiece kind r.flow) r.rels ++ ys)
          (before_map (RelPiece kind r.flow) (λ o. tt) r.rels ys h)),
    )

last_object : (o : Option Kept) → StartLast (map EpochPiece (as_list o))
last_object None = tt
last_object (Some o) = inr refl

last_of : (s : Contents) → StartLast (pieces_of s)
last_of s =
    let last = map EpochPiece (as_list s.epoch) in
    let paths = slot_pieces Paths s.paths ++ last in
    let slots = slot_pieces Plain s.slot ++ paths in
    before_map WeightPiece (λ o. tt) s.weights (PrioAckPiece s.prio_ack ∷ (map prio_piece s.prios ++ slots))
    (inl (
      tt,
      before_map prio_piece (λ m. tt) s.prios slots (before_slot Plain s.slot paths (before_slot Paths s.paths last (last_object s.epoch))),
    ))

last_in : (f : Fixed) (r : Result Contents SectionRefused) → StartLast (pieces_in f r)
last_in f (Ok s) = beside StartLast s.document (pieces_of (heeded f s)) tt (last_of (heeded f s))
last_in f (Err refused) = tt

-- an Epoch object is the last piece that is handled
pub last_where : (reply : LinkReply) (f : Fixed) (r : Result Contents SectionRefused) → StartLast (pieces_where reply (pieces_in f r))
last_where links.Fresh f r = last_in f r
last_where links.TooLong f r = tt
last_where (links.Short short) f r = tt
last_where links.Magic f r = tt
last_where links.Version f r = tt
last_where links.NotForMe f r = tt
last_where links.BadTag f r = tt
last_where (links.Learned boot) f r = tt
last_where (links.Stale boot counter) f r = tt
last_where (links.OtherTopology theirs) f r = tt
last_where (links.Section refused) f r = tt
last_where links.Withdrawn f r = tt

-- ---- held boots

either : (t : Bool) (x p : Parts) → x.lives ≡ p.lives → (cond t x p).lives ≡ p.lives
either true x p e = e
either false x p e = refl

heard_lives : (answer : PrioAnswer) (v : NodeId) (number : ℕ) (p : Parts) → (heard_where answer v number p).lives ≡ p.lives
heard_lives prios.New v number p = refl
heard_lives prios.Seen v number p = refl
heard_lives prios.BadEnd v number p = refl
heard_lives prios.Expired v number p = refl
heard_lives prios.BadSig v number p = refl
heard_lives prios.Epoch v number p = refl

-- a piece of another kind leaves them
pub same_lives : (arts : Arts) (at : Arrival) (p : Parts) (piece : Piece) → NoStart piece → (handle arts at p piece).parts.lives ≡ p.lives
same_lives arts at p (WeightPiece o) none =
    either (is_new (items.Weight (weight_answer (is_signed arts at.fixed o) (offer_to at.fixed.me p.weights o.body))))
    (record p { weights = held p.weights o }) p refl
same_lives arts at p (PrioAckPiece number) none = refl
same_lives arts at p (PrioPiece number o) none =
    let answer = prio_answer (is_signed arts at.fixed o) (is_dated p.lives o.body) (judge_prio p.prio o.body at.now) in
    let new = record p { prio = admit_prio p.prio o (Some at.from) } in
    heard_lives answer at.from number (cond (is_new (items.Prio answer)) new p) ∙ either (is_new (items.Prio answer)) new p refl
same_lives arts at p (ReportPiece kind flow sboot dboot base have) none =
    let r = reported (flows_of kind p) at.from flow base have in
    either (are_held p.lives flow sboot dboot) (with_flows kind r p) p (lives_beside kind r p)
same_lives arts at p (AckPiece kind flow o) none =
    let r = flows_of kind p in
    either (is_new (ack_item kind (ack_answer (is_signed arts at.fixed o) (is_dated p.lives o.body) (judge_ack_of r flow o.body))))
    (with_flows kind (admit_ack r o) p) p (lives_beside kind (admit_ack r o) p)
same_lives arts at p (RelPiece kind flow o) none =
    let r = flows_of kind p in
    either (is_new (rel_item kind (rel_answer_to arts at p (judge_rel_of r flow o.body) o)))
    (with_flows kind (admit_rel r o) p) p (lives_beside kind (admit_rel r o) p)
same_lives arts at p (EpochPiece o) none = absurd none

-- and so does a greeting
pub greeted_lives : (epochs risen : Bool) (v : NodeId) (p : Parts) → (greeted epochs risen v p).lives ≡ p.lives
greeted_lives true true v p = refl
greeted_lives true false v p = refl
greeted_lives false risen v p = refl

-- what says of a start is new only where its boot is above the one that is held
new_start_is : (answer : EpochAnswer) → is_new (items.Epoch answer) ≡ true → answer ≡ starts.New
new_start_is starts.New e = refl
new_start_is starts.Old e = absurd (cc)
new_start_is starts.BadEnd e = absurd (cc)
new_start_is starts.BadSig e = absurd (cc)

-- where an Epoch object is new, its boot follows the one that was held
pub start_follows : (arts : Arts) (at : Arrival) (p : Parts) (o : Kept)
    → is_new (items.Epoch (epoch_answer (is_signed arts at.fixed o) (judge_epoch at.fixed.me p.lives o.body))) ≡ true
    → Follows (origin_said o.body) (boot_said o.body) p (met p o)
start_follows arts at p o t =
    let answer = epoch_answer (is_signed arts at.fixed o) (judge_epoch at.fixed.me p.lives o.body) in
    subst (λ (b : Bool). Follows (origin_said o.body) (boot_said o.body) p (cond b (met p o) p)) t (epoch_taken arts at p o (new_start_is answer t))

-- ---- no boot rises above what is said

-- what says of a start of v says at most this boot
pub record SaysMost (v : NodeId) (most : ℕ) (o : Kept) : Type 0 where
  pub boot : origin_said o.body ≡ v → boot_said o.body ≤ most

module _ (arts : Arts) (v : NodeId) (most : ℕ) where
  one_below : (at : Arrival) (p : Parts) (piece : Piece) → NewKeep (SaysMost v most) (handle arts at p piece).answered → held_boot p.lives v ≤ most
      → held_boot (handle arts at p piece).parts.lives v ≤ most
  one_below at p (EpochPiece o) new low =
      elim (cases_Bool (is_new (items.Epoch (epoch_answer (is_signed arts at.fixed o) (judge_epoch at.fixed.me p.lives o.body))))) [
        | inl t ↦
            let done = start_follows arts at p o t in
            let below : held_boot (met p o).lives v ≤ most = elim (cases_eq v.0 (origin_said o.body).0) [
              | inl same ↦
                  let is : origin_said o.body ≡ v = ap (λ (n : ℕ). record { 0 = n }) (sym same) in
                  let said = (new.0 t).boot is in
                  let here : held_boot (met p o).lives v ≡ boot_said o.body = subst
                  (λ (w : NodeId). held_boot (met p o).lives w ≡ boot_said o.body) is done.held in
                  omega (arith, said, here)
              | inr other ↦ let stays = done.others v other in omega (arith, stays, low)
            ] in
            rw t below
        | inr t ↦ rw t low
      ]
  one_below at p (WeightPiece o) new low =
      subst (λ (lives : List Life). held_boot lives v ≤ most) (sym (same_lives arts at p (WeightPiece o) tt)) low
  one_below at p (PrioAckPiece number) new low = low
  one_below at p (PrioPiece number o) new low =
      subst (λ (lives : List Life). held_boot lives v ≤ most) (sym (same_lives arts at p (PrioPiece number o) tt)) low
  one_below at p (ReportPiece kind flow sboot dboot base have) new low =
      subst (λ (lives : List Life). held_boot lives v ≤ most) (sym (same_lives arts at p (ReportPiece kind flow sboot dboot base have) tt)) low
  one_below at p (AckPiece kind flow o) new low =
      subst (λ (lives : List Life). held_boot lives v ≤ most) (sym (same_lives arts at p (AckPiece kind flow o) tt)) low
  one_below at p (RelPiece kind flow o) new low =
      subst (λ (lives : List Life). held_boot lives v ≤ most) (sym (same_lives arts at p (RelPiece kind flow o) tt)) low

  pub all_below : (at : Arrival) (p : Parts) (pieces : List Piece) → NewKeep (SaysMost v most) (handle_all arts at p pieces).answered
      → held_boot p.lives v ≤ most
      → held_boot (handle_all arts at p pieces).parts.lives v ≤ most
  all_below at p [] new low = low
  all_below at p (piece ∷ pieces) new low =
      let first = handle arts at p piece in
      let others = handle_all arts at first.parts pieces in
      all_below at first.parts pieces (new_right (SaysMost v most) first.answered others.answered new)
      (one_below at p piece (new_left (SaysMost v most) first.answered others.answered new) low)

  -- ---- one step

  abbrev Below : NodeState → Type 0
  Below n = held_boot n.parts.lives v ≤ most

  or_below : {R : Type 0} (r : Option R) (n m after : NodeState) → after ≡ kept_or r n m → Below n → Below m → Below after
  or_below None n m after e here done = subst Below (sym e) done
  or_below (Some refusal) n m after e here done = subst Below (sym e) here

  settled_below : (kind : FlowKind) (n : NodeState) (o : Option Ack) (r : Option SendRefused) → Below n → Below (settled_by arts kind n o r)
  settled_below kind n None r low = low
  settled_below kind n (Some ack) (Some refusal) low = low
  settled_below Plain n (Some ack) None low = low
  settled_below Paths n (Some ack) None low = low

  pub step_below : (n : NodeState) (input : Input) (output : Output) (after : NodeState) → NodeStep arts n input output after
      → NewKeep (SaysMost v most) output.answered → Below n → Below after
  step_below n (steps.Poll u) output after step new low =
      or_below (call_refusal n u) n (called n (with_link n u (advanced (link_in n u))) (parts_after n u)) after step.1 low
      (cond_either (λ (p : Parts). held_boot p.lives v ≤ most) (is_served n u) (polled n.fixed n.parts u) n.parts low low)
  step_below n (steps.Datagram u bytes) output after step new low =
      go (call_refusal n u) (subst (λ (o : Output). NewKeep (SaysMost v most) o.answered) step.0 new) step.1
    where
      go : (r : Option NodeRefused) → NewKeep (SaysMost v most) (refused_call r (arrived arts n u bytes)).answered
          → after ≡ kept_or r n (read_by arts (before_document arts n u bytes) (document_at arts n u bytes)) → Below after
      go None new e =
          let same = greeted_lives n.fixed.epochs (rises arts n u bytes) u n.parts in
          let met : held_boot (parts_met arts n u bytes).lives v ≤ most = subst (λ (lives : List Life). held_boot lives v ≤ most) (sym same) low in
          let first = all_below (arrival_at n u) (parts_met arts n u bytes) (pieces_at arts n u bytes) new met in
          subst Below (sym e)
          (reading arts (before_document arts n u bytes) (document_at arts n u bytes) (λ m told. Below m) first (λ document d is reads by. first))
      go (Some refused) new e = subst Below (sym e) low
  step_below n (steps.Tick now) output after step new low =
      subst Below (sym step.1) (settled_below Paths (after_plain arts n now) (due_now Paths n) (second_refusal arts n now)
      (settled_below Plain (at_time n now) (due_now Plain n) (signer_refusal n.signer) low))
  step_below n (steps.SendRel dst payload) output after step new low = or_below (rel_refusal n dst) n _ after step.1 low low
  step_below n (steps.SendPrio m) output after step new low = or_below (send_prio_refusal n m step.choice) n _ after step.new_is low low
  step_below n (steps.SetWeight u weight) output after step new low = or_below (weight_refusal n u weight) n _ after step.1 low low
  step_below n (steps.SendKrel m) output after step new low = or_below (send_krel_refusal n m step.choice) n _ after step.new_is low low
  step_below n (steps.TakeRel src) output after step new low = subst Below (sym step.1) low
  step_below n (steps.TakeKrel src) output after step new low = subst Below (sym step.1) low
  step_below n steps.TakePrio output after step new low = subst Below (sym step.1) low
  step_below n (steps.Publish document) output after step new low =
      subst Below (sym step.1) (publishing arts n document (λ m told. Below m) low (λ d reads by. low))
