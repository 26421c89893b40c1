-- Which indexes one step signs with: the next ones, one for each message that it signs.
use Rattle.std.proofs.Common.{◌≡◌, ℕ, ◌+◌, List, [], ◌∷◌, ◌++◌, length, Option, Some, None, refl, sym, ap, subst, ◌∙◌, arith}
use Rattle.std.specs.List.{flat_map}
use Rattle.std.proofs.lemmas.List.{length-append}
use Rattle.std.proofs.lemmas.List.Concat.{flat_map-append}
use Rattle.sp_msg.specs.declared.body.Ack.{Ack}
use Rattle.sp_msg.specs.declared.effect.Effect.{Effect}
use Rattle.sp_msg.specs.declared.effect.Why.TheVariants.{Taken}
use Rattle.sp_msg.specs.declared.refused.SendRefused.{SendRefused}
use Rattle.sp_rules.specs.Arrivals.{arrival_at, handled, parts_met, before_document, document_at, read_by}
use Rattle.sp_rules.specs.Arts.{Arts}
use Rattle.sp_rules.specs.Kflow.{pushed}
use Rattle.sp_rules.specs.KflowSends.{krel_number, krel_sends, krel_sent, send_krel_refusal}
use Rattle.sp_rules.specs.Link.{advanced}
use Rattle.sp_rules.specs.Node.{NodeState, call_refusal, called, kept_or, link_in, signed_now, signed_once, with_link}
use Rattle.sp_rules.specs.Polls.{frame_to, parts_after}
use Rattle.sp_rules.specs.Prio.{admit_prio, expired_effects}
use Rattle.sp_rules.specs.Rel.{pushed_in}
use Rattle.sp_rules.specs.Sends.{mask_in, own_prio, prio_body, prio_sent, rel_body, rel_number, rel_refusal, rel_sent, send_prio_refusal, signer_refusal}
use Rattle.sp_rules.specs.Sends.{weight_body, weight_number, weight_refusal, weight_sent}
use Rattle.sp_rules.specs.Steps as steps
use Rattle.sp_rules.specs.Steps.{Input, NodeStep, Output, accepted, arrived, refused_call, refused_send, replied, document_effects}
use Rattle.sp_rules.specs.Store.{oldest}
use Rattle.sp_rules.specs.Ticks.{ack_effects, after_plain, after_tick, at_time, due_now, second_refusal, settled_by, tick_effects, time_after}
use Rattle.sp_rules.specs.declared.kflow.FlowKind.{FlowKind}
use Rattle.sp_rules.specs.declared.kflow.FlowKind.TheVariants.{Plain, Paths}
use Rattle.sp_rules.specs.Weights.{held}
use Rattle.sp_rules.specs.declared.node.NodeRefused.{NodeRefused}
use Rattle.sp_runs.specs.Told.{signed_by}
use Rattle.laws_runs.proofs.NoStarts.{pieces_at}
use Rattle.laws_runs.proofs.Quiet.{quiet_expired, quiet_gone, quiet_prio, quiet_weight, quiet_document, quiet_publish}
use Rattle.laws_runs.proofs.StepSigns.{unsigned_all}
use Rattle.laws_node.proofs.Adopting.{publishing, reading}

-- each message that was signed used one index
pub record Uses (n : NodeState) (es : List Effect) (after : NodeState) : Type 0 where
  pub index : after.signer.index ≡ n.signer.index + length (flat_map signed_by es)

uses_none : (n : NodeState) (es : List Effect) (after : NodeState) → flat_map signed_by es ≡ [] → after.signer.index ≡ n.signer.index → Uses n es after
uses_none n es after none same = record { index = let long = ap (λ (ms : List (List ℕ)). length ms) none in omega (arith, long, same) }

uses_one : (n : NodeState) (es : List Effect) (after : NodeState) (message : List ℕ) → flat_map signed_by es ≡ message ∷ []
    → after.signer.index ≡ n.signer.index + 1 → Uses n es after
uses_one n es after message one next = record { index = let long = ap (λ (ms : List (List ℕ)). length ms) one in omega (arith, long, next) }

pub step_uses : (arts : Arts) (n : NodeState) (i : Input) (output : Output) (after : NodeState) → NodeStep arts n i output after → Uses n output.effects after
step_uses arts n (steps.Poll v) output after step = go (call_refusal n v) (ap (λ (o : Output). o.effects) step.0) step.1
  where
    go : (r : Option NodeRefused) → output.effects ≡ (refused_call r (replied (steps.Frame (frame_to arts n v)))).effects
        → after ≡ kept_or r n (called n (with_link n v (advanced (link_in n v))) (parts_after n v)) → Uses n output.effects after
    go None e f = uses_none n output.effects after (ap (flat_map signed_by) e) (ap (λ (m : NodeState). m.signer.index) f)
    go (Some refused) e f = uses_none n output.effects after (ap (flat_map signed_by) e) (ap (λ (m : NodeState). m.signer.index) f)
step_uses arts n (steps.Datagram v bytes) output after step = go (call_refusal n v) (ap (λ (o : Output). o.effects) step.0) step.1
  where
    go : (r : Option NodeRefused) → output.effects ≡ (refused_call r (arrived arts n v bytes)).effects
        → after ≡ kept_or r n (read_by arts (before_document arts n v bytes) (document_at arts n v bytes)) → Uses n output.effects after
    go None e f =
        let left = before_document arts n v bytes in
        let document = document_at arts n v bytes in
        let same = reading arts left document (λ m told. m.signer.index ≡ left.signer.index) refl (λ bytes d is reads by. refl) in
        uses_none n output.effects after
        (ap (flat_map signed_by) e ∙ flat_map-append signed_by (handled arts n v bytes).effects (document_effects arts left document)
        ∙ rw (unsigned_all arts (arrival_at n v) (parts_met arts n v bytes) (pieces_at arts n v bytes), (quiet_document arts left document).no_signature) refl)
        (ap (λ (m : NodeState). m.signer.index) f ∙ same)
    go (Some refused) e f = uses_none n output.effects after (ap (flat_map signed_by) e) (ap (λ (m : NodeState). m.signer.index) f)
step_uses arts n (steps.Tick now) output after step =
    subst (λ (es : List Effect). Uses n es after) (sym (ap (λ (o : Output). o.effects) step.0))
    (subst (λ (m : NodeState). Uses n (tick_effects arts n now) m) (sym step.1) (record { index = omega (arith, one, two, all) }))
  where
    signs : (kind : FlowKind) (m : NodeState) (o : Option Ack) (r : Option SendRefused)
        → (settled_by arts kind m o r).signer.index ≡ m.signer.index + length (flat_map signed_by (ack_effects arts kind o r))
    signs kind m None r = omega arith
    signs kind m (Some ack) (Some refusal) = omega arith
    signs kind m (Some ack) None = omega arith

    plain : List Effect
    plain = ack_effects arts Plain (due_now Plain n) (signer_refusal n.signer)

    paths : List Effect
    paths = ack_effects arts Paths (due_now Paths n) (second_refusal arts n now)

    one : (after_plain arts n now).signer.index ≡ n.signer.index + length (flat_map signed_by plain)
    one = signs Plain (at_time n now) (due_now Plain n) (signer_refusal n.signer)

    two : (after_tick arts n now).signer.index ≡ (after_plain arts n now).signer.index + length (flat_map signed_by paths)
    two = signs Paths (after_plain arts n now) (due_now Paths n) (second_refusal arts n now)

    all : length (flat_map signed_by (tick_effects arts n now)) ≡ length (flat_map signed_by plain) + length (flat_map signed_by paths)
    all =
        let expired = expired_effects n.parts.prio (time_after n now) in
        ap (λ (ms : List (List ℕ)). length ms)
        (flat_map-append signed_by expired (plain ++ paths)
        ∙ ap (λ (ms : List (List ℕ)). ms ++ flat_map signed_by (plain ++ paths)) (quiet_expired n.parts.prio (time_after n now)).no_signature
        ∙ flat_map-append signed_by plain paths)
        ∙ length-append (flat_map signed_by plain) (flat_map signed_by paths)
step_uses arts n (steps.SendRel dst payload) output after step = go (rel_refusal n dst) (ap (λ (o : Output). o.effects) step.0) step.1
  where
    go : (r : Option SendRefused) → output.effects ≡ (refused_send r (accepted (rel_number n dst) (rel_sent arts n dst payload))).effects
        → after ≡ kept_or r n (signed_once n (record n.parts { rel = pushed_in n.parts.rel (signed_now arts n (rel_body n dst payload)) }))
        → Uses n output.effects after
    go None e f = uses_one n output.effects after (arts.spell (rel_body n dst payload)) (ap (flat_map signed_by) e) (ap (λ (m : NodeState). m.signer.index) f)
    go (Some refused) e f = uses_none n output.effects after (ap (flat_map signed_by) e) (ap (λ (m : NodeState). m.signer.index) f)
step_uses arts n (steps.SendPrio m) output after step = go (send_prio_refusal n m step.choice) (ap (λ (o : Output). o.effects) step.output_is) step.new_is
  where
    go : (r : Option SendRefused) → output.effects ≡ (refused_send r (accepted n.parts.prio.next (prio_sent arts n m step.choice))).effects
        → after ≡ kept_or r n (signed_once n (record n.parts { prio = admit_prio n.parts.prio (own_prio arts n m step.choice) None }))
        → Uses n output.effects after
    go None e f =
        uses_one n output.effects after (arts.spell (prio_body n m (mask_in step.choice)))
        (ap (flat_map signed_by) e
        ∙ ap (λ t. arts.spell (prio_body n m (mask_in step.choice)) ∷ t) (quiet_prio n.parts.prio (own_prio arts n m step.choice) None).no_signature)
        (ap (λ (k : NodeState). k.signer.index) f)
    go (Some refused) e f = uses_none n output.effects after (ap (flat_map signed_by) e) (ap (λ (k : NodeState). k.signer.index) f)
step_uses arts n (steps.SetWeight v weight) output after step = go (weight_refusal n v weight) (ap (λ (o : Output). o.effects) step.0) step.1
  where
    go : (r : Option SendRefused) → output.effects ≡ (refused_send r (accepted (weight_number n v) (weight_sent arts n v weight))).effects
        → after ≡ kept_or r n (signed_once n (record n.parts { weights = held n.parts.weights (signed_now arts n (weight_body n v weight)) }))
        → Uses n output.effects after
    go None e f =
        uses_one n output.effects after (arts.spell (weight_body n v weight))
        (ap (flat_map signed_by) e ∙ ap (λ t. arts.spell (weight_body n v weight) ∷ t) (quiet_weight (weight_body n v weight)).no_signature)
        (ap (λ (m : NodeState). m.signer.index) f)
    go (Some refused) e f = uses_none n output.effects after (ap (flat_map signed_by) e) (ap (λ (m : NodeState). m.signer.index) f)
step_uses arts n (steps.SendKrel m) output after step = go (send_krel_refusal n m step.choice) (ap (λ (o : Output). o.effects) step.output_is) step.new_is
  where
    sent : NodeState
    sent = signed_once n (record n.parts { kflow = pushed n.parts.kflow (signed_now arts n (krel_sends n m step.choice)) m.paths })

    go : (r : Option SendRefused) → output.effects ≡ (refused_send r (accepted (krel_number n m.dst) (krel_sent arts n m step.choice))).effects
        → after ≡ kept_or r n sent → Uses n output.effects after
    go None e f =
        uses_one n output.effects after (arts.spell (krel_sends n m step.choice)) (ap (flat_map signed_by) e) (ap (λ (k : NodeState). k.signer.index) f)
    go (Some refused) e f = uses_none n output.effects after (ap (flat_map signed_by) e) (ap (λ (k : NodeState). k.signer.index) f)
step_uses arts n (steps.TakeKrel src) output after step =
    uses_none n output.effects after (ap (λ (o : Output). flat_map signed_by o.effects) step.0) (ap (λ (m : NodeState). m.signer.index) step.1)
step_uses arts n (steps.TakeRel src) output after step =
    uses_none n output.effects after (ap (λ (o : Output). flat_map signed_by o.effects) step.0) (ap (λ (m : NodeState). m.signer.index) step.1)
step_uses arts n steps.TakePrio output after step =
    uses_none n output.effects after (ap (λ (o : Output). flat_map signed_by o.effects) step.0 ∙ (quiet_gone 0 Taken (oldest n.parts.prio.inbox)).no_signature)
    (ap (λ (m : NodeState). m.signer.index) step.1)
step_uses arts n (steps.Publish document) output after step =
    let same = publishing arts n document (λ m told. m.signer.index ≡ n.signer.index) refl (λ d reads by. refl) in
    uses_none n output.effects after (ap (λ (o : Output). flat_map signed_by o.effects) step.0 ∙ (quiet_publish arts n document).no_signature)
    (ap (λ (m : NodeState). m.signer.index) step.1 ∙ same)
