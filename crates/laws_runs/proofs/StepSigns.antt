-- What one step signs: messages of the kinds that its call asks for. Only a start signs what says of a start.
use Rattle.std.proofs.Common.{◌≡◌, ℕ, Bool, true, false, cond, List, [], ◌∷◌, ◌++◌, map, Option, Some, None, refl, sym, ap, subst, ◌∙◌, inl, inr}
use Rattle.std.specs.Prelude.{IsTrue}
use Rattle.std.specs.List.{All, flat_map}
use Rattle.std.proofs.lemmas.List.{map-append}
use Rattle.std.proofs.lemmas.List.Elements.{All-append, All-cons, All-head, All-nil, All-tail}
use Rattle.std.proofs.lemmas.List.Concat.{flat_map-append}
use Rattle.sp_base.specs.declared.id.NodeId.{NodeId}
use Rattle.sp_msg.specs.declared.body.Ack.{Ack}
use Rattle.sp_msg.specs.declared.body.Body.{Body}
use Rattle.sp_msg.specs.declared.body.Body.TheVariants as bodies
use Rattle.sp_msg.specs.declared.body.Epoch.{Epoch}
use Rattle.sp_msg.specs.declared.effect.Effect.{Effect}
use Rattle.sp_msg.specs.declared.effect.Why.TheVariants.{Taken}
use Rattle.sp_msg.specs.declared.kept.Kept.{Kept}
use Rattle.sp_msg.specs.declared.refused.SendRefused.{SendRefused}
use Rattle.sp_rules.specs.Answers.{ack_answer, epoch_answer, is_new, prio_answer, weight_answer}
use Rattle.sp_rules.specs.Arrivals.{arrival_at, parts_met, before_document, document_at, handled}
use Rattle.sp_rules.specs.Arts.{Arts}
use Rattle.sp_rules.specs.Flow.{flow_said}
use Rattle.sp_rules.specs.Handle.{Arrival, ack_item, handle, handle_all, met_effects, offer_to, rel_answer_to, rel_item, weight_effects}
use Rattle.sp_rules.specs.Kflow.{ack_body}
use Rattle.sp_rules.specs.KflowSends.{KSend, krel_number, krel_sends, krel_sent, send_krel_refusal}
use Rattle.sp_rules.specs.Lives.{is_dated, judge_epoch, origin_said}
use Rattle.sp_rules.specs.Node.{NodeState, call_refusal}
use Rattle.sp_rules.specs.Parts.{Parts, flows_of, is_signed}
use Rattle.sp_rules.specs.Pieces.{Piece, WeightPiece, PrioAckPiece, PrioPiece, ReportPiece, AckPiece, RelPiece, EpochPiece}
use Rattle.sp_rules.specs.Polls.{frame_to}
use Rattle.sp_rules.specs.Prio.{expired_effects, judge_prio, prio_effects}
use Rattle.sp_rules.specs.Rel.{delivery, is_to, judge_ack_of, judge_rel_of, rel_effects}
use Rattle.sp_rules.specs.Sends.{PrioSend, mask_in, no_paths, own_prio, prio_body, prio_refusal, prio_sent, rel_body, rel_number, rel_refusal, rel_sent}
use Rattle.sp_rules.specs.Sends.{send_prio_refusal, signer_refusal, weight_body, weight_number, weight_refusal, weight_sent}
use Rattle.sp_rules.specs.Steps as steps
use Rattle.sp_rules.specs.Steps.{Input, NodeStep, Output, accepted, arrived, refused_call, refused_send, replied, document_effects}
use Rattle.sp_rules.specs.Store.{oldest}
use Rattle.sp_rules.specs.Ticks.{ack_effects, due_now, second_refusal, time_after}
use Rattle.sp_rules.specs.declared.kflow.FlowKind.{FlowKind}
use Rattle.sp_rules.specs.declared.kflow.FlowKind.TheVariants.{Plain, Paths}
use Rattle.sp_rules.specs.declared.answers.Item.TheVariants as items
use Rattle.sp_rules.specs.declared.node.NodeRefused.{NodeRefused}
use Rattle.laws_node.specs.Inputs.{InputFits}
use Rattle.laws_node.proofs.About.{ack_good, krel_good, prio_good, rel_good, weight_good}
use Rattle.laws_node.proofs.Own.{either}
use Rattle.sp_runs.specs.Settings.{Setting, SettingFits}
use Rattle.sp_runs.specs.Forgery.{is_among}
use Rattle.sp_runs.specs.Told.{signed_by}
use Rattle.laws_runs.specs.Signs.{NodeIs, sizes_at}
use Rattle.laws_runs.proofs.EachKind.{of_delivery}
use Rattle.laws_runs.proofs.Goods.{arts_fit}
use Rattle.laws_runs.proofs.Lists.{among_cons}
use Rattle.laws_runs.proofs.NoStarts.{pieces_at}
use Rattle.laws_runs.proofs.Quiet.{quiet_acked, quiet_expired, quiet_gone, quiet_met, quiet_prio, quiet_weight, quiet_document, quiet_publish}

-- ---- pieces sign nothing

where_unsigned : (t : Bool) (es : List Effect) → flat_map signed_by es ≡ [] → flat_map signed_by (cond t es []) ≡ []
where_unsigned true es e = e
where_unsigned false es e = refl

rel_unsigned : (t : Bool) (body : Body) → flat_map signed_by (cond t (delivery body ∷ []) []) ≡ []
rel_unsigned true body = of_delivery (λ e. flat_map signed_by (e ∷ []) ≡ []) (λ src seq payload. refl) (λ src seq payload. refl) body
rel_unsigned false body = refl

unsigned_piece : (arts : Arts) (at : Arrival) (p : Parts) (piece : Piece) → flat_map signed_by (handle arts at p piece).effects ≡ []
unsigned_piece arts at p (WeightPiece o) =
    where_unsigned (is_new (items.Weight (weight_answer (is_signed arts at.fixed o) (offer_to at.fixed.me p.weights o.body)))) (weight_effects o.body)
    (quiet_weight o.body).no_signature
unsigned_piece arts at p (PrioAckPiece number) = (quiet_acked p.prio at.from.0 number).no_signature
unsigned_piece arts at p (PrioPiece number o) =
    where_unsigned (is_new (items.Prio (prio_answer (is_signed arts at.fixed o) (is_dated p.lives o.body) (judge_prio p.prio o.body at.now))))
    (prio_effects p.prio o (Some at.from)) (quiet_prio p.prio o (Some at.from)).no_signature
unsigned_piece arts at p (ReportPiece kind flow sboot dboot base have) = refl
unsigned_piece arts at p (AckPiece kind flow o) =
    where_unsigned (is_new (ack_item kind (ack_answer (is_signed arts at.fixed o) (is_dated p.lives o.body) (judge_ack_of (flows_of kind p) flow o.body))))
    [] refl
unsigned_piece arts at p (RelPiece kind flow o) =
    let r = flows_of kind p in
    where_unsigned (is_new (rel_item kind (rel_answer_to arts at p (judge_rel_of r flow o.body) o)))
    (rel_effects r o) (rel_unsigned (is_to r (flow_said o.body)) o.body)
unsigned_piece arts at p (EpochPiece o) =
    where_unsigned (is_new (items.Epoch (epoch_answer (is_signed arts at.fixed o) (judge_epoch at.fixed.me p.lives o.body))))
    (met_effects p (origin_said o.body)) (quiet_met p (origin_said o.body)).no_signature

pub unsigned_all : (arts : Arts) (at : Arrival) (p : Parts) (pieces : List Piece) → flat_map signed_by (handle_all arts at p pieces).effects ≡ []
unsigned_all arts at p [] = refl
unsigned_all arts at p (piece ∷ pieces) =
    let first = handle arts at p piece in
    flat_map-append signed_by first.effects (handle_all arts at first.parts pieces).effects
    ∙ rw (unsigned_piece arts at p piece, unsigned_all arts at first.parts pieces) refl

-- ---- a step

-- the kind of message that a node may sign on this call
abbrev pub IsAskedBy : Input → Body → Type 0
IsAskedBy (steps.Tick now) (bodies.Ack a) = Unit {0}
IsAskedBy (steps.Tick now) (bodies.Kack a) = Unit {0}
IsAskedBy (steps.SendRel dst payload) (bodies.Rel r) = Unit {0}
IsAskedBy (steps.SendKrel m) (bodies.Krel r) = Unit {0}
IsAskedBy (steps.SendPrio m) (bodies.Prio p) = Unit {0}
IsAskedBy (steps.SetWeight v weight) (bodies.Weight w) = Unit {0}
IsAskedBy _ _ = ⊥

-- it is asked for, and good
pub record IsSaid (arts : Arts) (input : Input) (body : Body) : Type 0 where
  pub asked : IsAskedBy input body
  pub good : IsTrue (arts.is_good body)

-- all that these effects tell as signed
pub record StepSigns (arts : Arts) (input : Input) (effects : List Effect) : Type 0 where
  pub bodies : List Body
  pub said : All (IsSaid arts input) bodies
  pub told : flat_map signed_by effects ≡ map arts.spell bodies

signs_none : (arts : Arts) (input : Input) (effects : List Effect) → flat_map signed_by effects ≡ [] → StepSigns arts input effects
signs_none arts input effects none = record { bodies = []; said = All-nil (IsSaid arts input); told = none }

signs_one : (arts : Arts) (input : Input) (effects : List Effect) (body : Body) → IsAskedBy input body → IsTrue (arts.is_good body)
    → flat_map signed_by effects ≡ arts.spell body ∷ [] → StepSigns arts input effects
signs_one arts input effects body asked good told = record {
  bodies = body ∷ [];
  said = All-cons (IsSaid arts input) body [] (record { asked = asked; good = good }) (All-nil (IsSaid arts input));
  told = told;
}

-- what one list of effects tells, and then another
signs_both : (arts : Arts) (input : Input) (xs ys : List Effect) → StepSigns arts input xs → StepSigns arts input ys → StepSigns arts input (xs ++ ys)
signs_both arts input xs ys one two = record {
  bodies = one.bodies ++ two.bodies;
  said = All-append (IsSaid arts input) one.bodies two.bodies one.said two.said;
  told = flat_map-append signed_by xs ys ∙ rw (one.told, two.told) (sym (map-append arts.spell one.bodies two.bodies));
}

-- a message that was signed is that of a body that was asked for
pub record IsSigned (arts : Arts) (input : Input) (message : List ℕ) : Type 0 where
  pub body : Body
  pub said : IsSaid arts input body
  pub is : arts.spell body ≡ message

pub which_signed : (arts : Arts) (input : Input) (effects : List Effect) (message : List ℕ) → StepSigns arts input effects
    → is_among message (flat_map signed_by effects) ≡ true → IsSigned arts input message
which_signed arts input effects message s among = go s.bodies s.said (subst (λ these. is_among message these ≡ true) s.told among)
  where
    go : (these : List Body) → All (IsSaid arts input) these → is_among message (map arts.spell these) ≡ true → IsSigned arts input message
    go [] said there = absurd (let wrong : false ≡ true = there in cc)
    go (body ∷ others) said there = elim (among_cons message (arts.spell body) (map arts.spell others) there) [
      | inl same ↦ record { body = body; said = All-head (IsSaid arts input) body others said; is = same }
      | inr rest ↦ go others (All-tail (IsSaid arts input) body others said) rest
    ]

-- never what says of a start
pub no_start_asked : (input : Input) (body : Body) (e : Epoch) → IsAskedBy input body → body ≡ bodies.Epoch e → ⊥
no_start_asked (steps.Tick now) (bodies.Ack a) e kind is = cc
no_start_asked (steps.Tick now) (bodies.Kack a) e kind is = cc
no_start_asked (steps.SendRel dst payload) (bodies.Rel r) e kind is = cc
no_start_asked (steps.SendKrel m) (bodies.Krel r) e kind is = cc
no_start_asked (steps.SendPrio m) (bodies.Prio p) e kind is = cc
no_start_asked (steps.SetWeight v weight) (bodies.Weight w) e kind is = cc
no_start_asked input body e kind is = go input (subst (IsAskedBy input) is kind)
  where
    go : (i : Input) → IsAskedBy i (bodies.Epoch e) → ⊥
    go (steps.Poll v) k = k
    go (steps.Datagram v bytes) k = k
    go (steps.Tick now) k = k
    go (steps.SendRel dst payload) k = k
    go (steps.SendPrio m) k = k
    go (steps.SetWeight v weight) k = k
    go (steps.SendKrel m) k = k
    go (steps.TakeRel src) k = k
    go (steps.TakeKrel src) k = k
    go steps.TakePrio k = k
    go (steps.Publish document) k = k

module _ (arts : Arts) (x : Setting) (P : Kept → Type 0) (fits : SettingFits arts x) (u : NodeId) (n : NodeState) (output : Output) (after : NodeState)
    (is : NodeIs x P u n) where
  ack_signs : (now : ℕ) (kind : FlowKind) (o : Option Ack) → due_now kind n ≡ o → (r : Option SendRefused)
      → StepSigns arts (steps.Tick now) (ack_effects arts kind o r)
  ack_signs now kind None due r = signs_none arts (steps.Tick now) [] refl
  ack_signs now kind (Some ack) due (Some refusal) = signs_none arts (steps.Tick now) [] refl
  ack_signs now kind (Some ack) due None =
      signs_one arts (steps.Tick now) _ (ack_body kind ack) (asked kind)
      (ack_good kind arts (sizes_at x P u) n ack (arts_fit arts x P u n fits is) due is.holds) refl
    where
      asked : (k : FlowKind) → IsAskedBy (steps.Tick now) (ack_body k ack)
      asked Plain = tt
      asked Paths = tt

  tick_signs : (now : ℕ) → NodeStep arts n (steps.Tick now) output after → StepSigns arts (steps.Tick now) output.effects
  tick_signs now step =
      let expired = expired_effects n.parts.prio (time_after n now) in
      let plain = ack_effects arts Plain (due_now Plain n) (signer_refusal n.signer) in
      let paths = ack_effects arts Paths (due_now Paths n) (second_refusal arts n now) in
      subst (StepSigns arts (steps.Tick now)) (sym (ap (λ (o : Output). o.effects) step.0))
      (signs_both arts (steps.Tick now) expired (plain ++ paths)
      (signs_none arts (steps.Tick now) expired (quiet_expired n.parts.prio (time_after n now)).no_signature)
      (signs_both arts (steps.Tick now) plain paths (ack_signs now Plain (due_now Plain n) refl (signer_refusal n.signer))
      (ack_signs now Paths (due_now Paths n) refl (second_refusal arts n now))))

  rel_signs : (dst : NodeId) (payload : List ℕ) → InputFits (steps.SendRel dst payload) → NodeStep arts n (steps.SendRel dst payload) output after
      → StepSigns arts (steps.SendRel dst payload) output.effects
  rel_signs dst payload short step =
      subst (StepSigns arts (steps.SendRel dst payload)) (sym (ap (λ (o : Output). o.effects) step.0)) (go (rel_refusal n dst) refl)
    where
      go : (r : Option SendRefused) → rel_refusal n dst ≡ r
          → StepSigns arts (steps.SendRel dst payload) (refused_send r (accepted (rel_number n dst) (rel_sent arts n dst payload))).effects
      go None free = signs_one arts (steps.SendRel dst payload) _ (rel_body n dst payload) tt
          (rel_good arts (sizes_at x P u) n dst payload (arts_fit arts x P u n fits is) short free is.holds) refl
      go (Some refused) free = signs_none arts _ [] refl

  weight_signs : (v : NodeId) (weight : ℕ) → InputFits (steps.SetWeight v weight) → NodeStep arts n (steps.SetWeight v weight) output after
      → StepSigns arts (steps.SetWeight v weight) output.effects
  weight_signs v weight sizes step =
      subst (StepSigns arts (steps.SetWeight v weight)) (sym (ap (λ (o : Output). o.effects) step.0)) (go (weight_refusal n v weight) refl)
    where
      go : (r : Option SendRefused) → weight_refusal n v weight ≡ r
          → StepSigns arts (steps.SetWeight v weight) (refused_send r (accepted (weight_number n v) (weight_sent arts n v weight))).effects
      go None free =
          signs_one arts (steps.SetWeight v weight) _ (weight_body n v weight) tt
          (weight_good arts (sizes_at x P u) n v weight (arts_fit arts x P u n fits is) sizes.0 sizes.1 free is.holds)
          (ap (λ t. arts.spell (weight_body n v weight) ∷ t) (quiet_weight (weight_body n v weight)).no_signature)
      go (Some refused) free = signs_none arts _ [] refl

  prio_signs : (m : PrioSend) → InputFits (steps.SendPrio m) → NodeStep arts n (steps.SendPrio m) output after
      → StepSigns arts (steps.SendPrio m) output.effects
  prio_signs m sizes step =
      subst (StepSigns arts (steps.SendPrio m)) (sym (ap (λ (o : Output). o.effects) step.output_is)) (go (send_prio_refusal n m step.choice) refl)
    where
      go : (r : Option SendRefused) → send_prio_refusal n m step.choice ≡ r
          → StepSigns arts (steps.SendPrio m) (refused_send r (accepted n.parts.prio.next (prio_sent arts n m step.choice))).effects
      go None free =
          signs_one arts (steps.SendPrio m) _ (prio_body n m (mask_in step.choice)) tt
          (prio_good arts (sizes_at x P u) n m step.choice (arts_fit arts x P u n fits is) sizes free
          (step.is_choice (either (prio_refusal n m) (no_paths step.choice) free).0) is.holds)
          (ap (λ t. arts.spell (prio_body n m (mask_in step.choice)) ∷ t) (quiet_prio n.parts.prio (own_prio arts n m step.choice) None).no_signature)
      go (Some refused) free = signs_none arts _ [] refl

  krel_signs : (m : KSend) → InputFits (steps.SendKrel m) → NodeStep arts n (steps.SendKrel m) output after
      → StepSigns arts (steps.SendKrel m) output.effects
  krel_signs m short step =
      subst (StepSigns arts (steps.SendKrel m)) (sym (ap (λ (o : Output). o.effects) step.output_is)) (go (send_krel_refusal n m step.choice) refl)
    where
      go : (r : Option SendRefused) → send_krel_refusal n m step.choice ≡ r
          → StepSigns arts (steps.SendKrel m) (refused_send r (accepted (krel_number n m.dst) (krel_sent arts n m step.choice))).effects
      go None free =
          signs_one arts (steps.SendKrel m) _ (krel_sends n m step.choice) tt
          (krel_good arts (sizes_at x P u) n m step.choice (arts_fit arts x P u n fits is) short free
          step.is_choice is.holds) refl
      go (Some refused) free = signs_none arts (steps.SendKrel m) [] refl

  pub step_signs : (input : Input) → InputFits input → NodeStep arts n input output after → StepSigns arts input output.effects
  step_signs (steps.Poll v) input step =
      signs_none arts (steps.Poll v) output.effects (ap (λ (o : Output). flat_map signed_by o.effects) step.0 ∙ go (call_refusal n v))
    where
      go : (r : Option NodeRefused) → flat_map signed_by (refused_call r (replied (steps.Frame (frame_to arts n v)))).effects ≡ []
      go None = refl
      go (Some refused) = refl
  step_signs (steps.Datagram v bytes) input step =
      signs_none arts (steps.Datagram v bytes) output.effects (ap (λ (o : Output). flat_map signed_by o.effects) step.0 ∙ go (call_refusal n v))
    where
      go : (r : Option NodeRefused) → flat_map signed_by (refused_call r (arrived arts n v bytes)).effects ≡ []
      go None =
          let left = before_document arts n v bytes in
          let document = document_at arts n v bytes in
          flat_map-append signed_by (handled arts n v bytes).effects (document_effects arts left document)
          ∙ rw (unsigned_all arts (arrival_at n v) (parts_met arts n v bytes) (pieces_at arts n v bytes), (quiet_document arts left document).no_signature) refl
      go (Some refused) = refl
  step_signs (steps.Tick now) input step = tick_signs now step
  step_signs (steps.SendRel dst payload) input step = rel_signs dst payload input step
  step_signs (steps.SendPrio m) input step = prio_signs m input step
  step_signs (steps.SetWeight v weight) input step = weight_signs v weight input step
  step_signs (steps.SendKrel m) input step = krel_signs m input step
  step_signs (steps.TakeKrel src) input step =
      signs_none arts (steps.TakeKrel src) output.effects (ap (λ (o : Output). flat_map signed_by o.effects) step.0)
  step_signs (steps.TakeRel src) input step = signs_none arts (steps.TakeRel src) output.effects (ap (λ (o : Output). flat_map signed_by o.effects) step.0)
  step_signs steps.TakePrio input step =
      signs_none arts steps.TakePrio output.effects
      (ap (λ (o : Output). flat_map signed_by o.effects) step.0 ∙ (quiet_gone 0 Taken (oldest n.parts.prio.inbox)).no_signature)
  step_signs (steps.Publish document) input step =
      signs_none arts (steps.Publish document) output.effects
      (ap (λ (o : Output). flat_map signed_by o.effects) step.0 ∙ (quiet_publish arts n document).no_signature)
