-- The mask is read off the signed body.
use Rattle.std.proofs.Common.{◌≡◌, ◌≤◌, ℕ, Bool, true, false, List, [], ◌∷◌, length, Option, Some, None, refl, sym, ap, subst, ◌∙◌}
use Rattle.std.specs.Prelude.{IsTrue}
use Rattle.sp_base.specs.Cursor.{or_else}
use Rattle.sp_msg.proofs.HalfLemmas.{bits_from}
use Rattle.sp_base.specs.declared.limits.TheConstants.{MAX_PAYLOAD_BYTES}
use Rattle.sp_msg.specs.Masks.{bits, mask_from}
use Rattle.sp_msg.specs.declared.body.Body.{Body}
use Rattle.sp_msg.specs.declared.body.Body.TheVariants as bodies
use Rattle.sp_msg.specs.declared.effect.Effect.{Effect}
use Rattle.sp_msg.specs.declared.effect.Effect.TheVariants as effects
use Rattle.sp_msg.specs.declared.mask.Mask as masks
use Rattle.sp_msg.specs.declared.refused.SendRefused.{SendRefused}
use Rattle.sp_rules.specs.Arts.{Arts}
use Rattle.sp_rules.specs.Kflow.{pushed, waiting_mask}
use Rattle.sp_rules.specs.KflowSends.{KSend, krel_body, krel_number, krel_refusal, mask_for, no_mask}
use Rattle.sp_rules.specs.Masks.{Choice, IsChoice, Mask, OnlyPaths, graph_of}
use Rattle.sp_rules.specs.Node.{NodeState, kept_or, signed_now, signed_once}
use Rattle.sp_rules.specs.Parts.{is_signed}
use Rattle.sp_rules.specs.Prio.{admit_prio}
use Rattle.sp_rules.specs.Sends.{PrioSend, no_paths, own_prio, prio_body, prio_refusal, prio_sent, signed_effect}
use Rattle.sp_rules.specs.Steps.{Output, Poll, Datagram, Tick, SendRel, SendPrio, SetWeight, TakeRel, TakePrio, Reply, Accepted, accepted, refused_send}
use Rattle.sp_rules.specs.Steps.{SendKrel, TakeKrel, Publish}
use Rattle.laws_node.specs.Inputs.{ArtsFit, PrioSendFits, ReadsBack}
use Rattle.laws_node.specs.Nodes.{IsKept, sizes_of}
use Rattle.laws_node.proofs.About.{krel_good, prio_good}
use Rattle.laws_node.proofs.OwnPaths.{KChoice}
use Rattle.laws_node.proofs.Spellings.{no_other_is_spelled_so}
use Rattle.laws_node.specs.Determined.{StepsAreDetermined}

-- the bytes that were signed first, and the mask of a body
abbrev first_signed : List Effect → List ℕ
first_signed (effects.Signed bytes ∷ rest) = bytes
first_signed _ = []

abbrev mask_of : Body → ℕ
mask_of (bodies.Prio p) = bits p.mask
mask_of (bodies.Krel r) = bits r.mask
mask_of _ = 0

abbrev was_accepted : Reply → Bool
was_accepted (Accepted number) = true
was_accepted _ = false

abbrev step_by : Arts → NodeState → PrioSend → Choice → Option SendRefused → NodeState
step_by arts n x c r = kept_or (or_else r (no_paths c)) n (signed_once n (record n.parts { prio = admit_prio n.parts.prio (own_prio arts n x c) None }))

abbrev output_by : Arts → NodeState → PrioSend → Choice → Option SendRefused → Output
output_by arts n x c r = refused_send (or_else r (no_paths c)) (accepted n.parts.prio.next (prio_sent arts n x c))

module _ (arts : Arts) (n : NodeState) (x : PrioSend) (o : Output) (one two : NodeState) (reads : ReadsBack arts) (arts_fit : ArtsFit arts n.fixed n.signer)
    (fits : PrioSendFits x) (kept : IsKept arts n) where
  good : (mask : ℕ) → prio_refusal n x ≡ None → IsChoice n.parts.weights (graph_of n.fixed.topology n.parts.weights) n.fixed.me x.dst x.paths (Mask mask)
      → IsTrue (arts.is_good (prio_body n x mask))
  good mask e is =
      prio_good arts (sizes_of (λ k. IsTrue (is_signed arts n.fixed k)) n) n x (Mask mask) arts_fit fits (ap (λ (r : Option SendRefused). or_else r None) e) is
      kept

  by_choice : prio_refusal n x ≡ None → (c d : Choice)
      → IsChoice n.parts.weights (graph_of n.fixed.topology n.parts.weights) n.fixed.me x.dst x.paths c
      → IsChoice n.parts.weights (graph_of n.fixed.topology n.parts.weights) n.fixed.me x.dst x.paths d
      → o ≡ output_by arts n x c None → o ≡ output_by arts n x d None → one ≡ step_by arts n x c None → two ≡ step_by arts n x d None → one ≡ two
  by_choice e (OnlyPaths f) (OnlyPaths g) is also o1 o2 n1 n2 = n1 ∙ sym n2
  by_choice e (OnlyPaths f) (Mask l) is also o1 o2 n1 n2 = absurd (let same : false ≡ true = ap (λ (q : Output). was_accepted q.reply) (sym o1 ∙ o2) in cc)
  by_choice e (Mask k) (OnlyPaths g) is also o1 o2 n1 n2 = absurd (let same : true ≡ false = ap (λ (q : Output). was_accepted q.reply) (sym o1 ∙ o2) in cc)
  by_choice e (Mask k) (Mask l) is also o1 o2 n1 n2 =
      let bytes : arts.spell (prio_body n x k) ≡ arts.spell (prio_body n x l) = ap (λ (q : Output). first_signed q.effects) (sym o1 ∙ o2) in
      let body = no_other_is_spelled_so arts reads (prio_body n x k) (prio_body n x l) (good k e is) (good l e also) bytes in
      let mask : k ≡ l = sym (bits_from k) ∙ ap mask_of body ∙ bits_from l in
      n1 ∙ (ap (λ (m : ℕ). step_by arts n x (Mask m) None) mask ∙ sym n2)

  by_refusal : (r : Option SendRefused) → prio_refusal n x ≡ r → (c d : Choice)
      → (prio_refusal n x ≡ None → IsChoice n.parts.weights (graph_of n.fixed.topology n.parts.weights) n.fixed.me x.dst x.paths c)
      → (prio_refusal n x ≡ None → IsChoice n.parts.weights (graph_of n.fixed.topology n.parts.weights) n.fixed.me x.dst x.paths d)
      → o ≡ output_by arts n x c r → o ≡ output_by arts n x d r → one ≡ step_by arts n x c r → two ≡ step_by arts n x d r → one ≡ two
  by_refusal (Some f) e c d is also o1 o2 n1 n2 = n1 ∙ sym n2
  by_refusal None e c d is also o1 o2 n1 n2 = by_choice e c d (is e) (also e) o1 o2 n1 n2

-- ---- a message on paths

abbrev kstep_by : Arts → NodeState → KSend → Choice → Option SendRefused → Option masks.Mask → NodeState
kstep_by arts n x c r w =
    kept_or (or_else r (no_mask w c)) n
    (signed_once n (record n.parts { kflow = pushed n.parts.kflow (signed_now arts n (krel_body n x (mask_for w c))) x.paths }))

abbrev koutput_by : Arts → NodeState → KSend → Choice → Option SendRefused → Option masks.Mask → Output
koutput_by arts n x c r w =
    refused_send (or_else r (no_mask w c)) (accepted (krel_number n x.dst) (signed_effect arts (krel_body n x (mask_for w c)) ∷ []))

module _ (arts : Arts) (n : NodeState) (x : KSend) (o : Output) (one two : NodeState) (reads : ReadsBack arts) (arts_fit : ArtsFit arts n.fixed n.signer)
    (short : length x.payload ≤ MAX_PAYLOAD_BYTES) (kept : IsKept arts n) where
  kgood : (mask : ℕ) → krel_refusal n x ≡ None → waiting_mask n.parts.kflow x.dst ≡ None
      → IsChoice n.parts.weights (graph_of n.fixed.topology n.parts.weights) n.fixed.me x.dst x.paths (Mask mask)
      → IsTrue (arts.is_good (krel_body n x (mask_from mask)))
  kgood mask e w is =
      subst (λ (o : Option masks.Mask). IsTrue (arts.is_good (krel_body n x (mask_for o (Mask mask))))) w
      (krel_good arts (sizes_of (λ k. IsTrue (is_signed arts n.fixed k)) n) n x (Mask mask) arts_fit short
      (ap (λ (r : Option SendRefused). or_else r (no_mask (waiting_mask n.parts.kflow x.dst) (Mask mask))) e
      ∙ ap (λ (o : Option masks.Mask). no_mask o (Mask mask)) w)
      (λ _ _. is) kept)

  kby_choice : krel_refusal n x ≡ None → waiting_mask n.parts.kflow x.dst ≡ None → (c d : Choice)
      → IsChoice n.parts.weights (graph_of n.fixed.topology n.parts.weights) n.fixed.me x.dst x.paths c
      → IsChoice n.parts.weights (graph_of n.fixed.topology n.parts.weights) n.fixed.me x.dst x.paths d
      → o ≡ koutput_by arts n x c None None → o ≡ koutput_by arts n x d None None → one ≡ kstep_by arts n x c None None → two ≡ kstep_by arts n x d None None
      → one ≡ two
  kby_choice e w (OnlyPaths f) (OnlyPaths g) is also o1 o2 n1 n2 = n1 ∙ sym n2
  kby_choice e w (OnlyPaths f) (Mask l) is also o1 o2 n1 n2 =
      absurd (let same : false ≡ true = ap (λ (q : Output). was_accepted q.reply) (sym o1 ∙ o2) in cc)
  kby_choice e w (Mask k) (OnlyPaths g) is also o1 o2 n1 n2 =
      absurd (let same : true ≡ false = ap (λ (q : Output). was_accepted q.reply) (sym o1 ∙ o2) in cc)
  kby_choice e w (Mask k) (Mask l) is also o1 o2 n1 n2 =
      let bytes : arts.spell (krel_body n x (mask_from k)) ≡ arts.spell (krel_body n x (mask_from l)) =
      ap (λ (q : Output). first_signed q.effects) (sym o1 ∙ o2) in
      let body = no_other_is_spelled_so arts reads (krel_body n x (mask_from k)) (krel_body n x (mask_from l)) (kgood k e w is) (kgood l e w also) bytes in
      let mask : k ≡ l = sym (bits_from k) ∙ ap mask_of body ∙ bits_from l in
      n1 ∙ (ap (λ (m : ℕ). kstep_by arts n x (Mask m) None None) mask ∙ sym n2)

  kby_waiting : (r : Option SendRefused) → krel_refusal n x ≡ r → (w : Option masks.Mask) → waiting_mask n.parts.kflow x.dst ≡ w → (c d : Choice)
      → KChoice n x c → KChoice n x d → o ≡ koutput_by arts n x c r w → o ≡ koutput_by arts n x d r w → one ≡ kstep_by arts n x c r w
      → two ≡ kstep_by arts n x d r w → one ≡ two
  kby_waiting (Some f) e w waits c d is also o1 o2 n1 n2 = n1 ∙ sym n2
  kby_waiting None e (Some mask) waits c d is also o1 o2 n1 n2 = n1 ∙ sym n2
  kby_waiting None e None waits c d is also o1 o2 n1 n2 = kby_choice e waits c d (is e waits) (also e waits) o1 o2 n1 n2

pub steps_are_determined : StepsAreDetermined
steps_are_determined arts n (Poll v) o one two reads arts_fit fits kept s t = s.1 ∙ sym t.1
steps_are_determined arts n (Datagram v bytes) o one two reads arts_fit fits kept s t = s.1 ∙ sym t.1
steps_are_determined arts n (Tick now) o one two reads arts_fit fits kept s t = s.1 ∙ sym t.1
steps_are_determined arts n (SendRel dst payload) o one two reads arts_fit fits kept s t = s.1 ∙ sym t.1
steps_are_determined arts n (SendPrio x) o one two reads arts_fit fits kept s t =
    by_refusal arts n x o one two reads arts_fit fits kept (prio_refusal n x) refl s.choice t.choice s.is_choice t.is_choice s.output_is t.output_is s.new_is
    t.new_is
steps_are_determined arts n (SetWeight v weight) o one two reads arts_fit fits kept s t = s.1 ∙ sym t.1
steps_are_determined arts n (TakeRel src) o one two reads arts_fit fits kept s t = s.1 ∙ sym t.1
steps_are_determined arts n (SendKrel x) o one two reads arts_fit fits kept s t =
    kby_waiting arts n x o one two reads arts_fit fits kept (krel_refusal n x) refl (waiting_mask n.parts.kflow x.dst) refl s.choice t.choice s.is_choice
    t.is_choice s.output_is t.output_is s.new_is t.new_is
steps_are_determined arts n (TakeKrel src) o one two reads arts_fit fits kept s t = s.1 ∙ sym t.1
steps_are_determined arts n TakePrio o one two reads arts_fit fits kept s t = s.1 ∙ sym t.1
steps_are_determined arts n (Publish document) o one two reads arts_fit fits kept s t = s.1 ∙ sym t.1
