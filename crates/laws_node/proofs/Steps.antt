-- What each step of a node keeps: one lemma for each case.
use Rattle.std.proofs.Common.{◌≡◌, ◌≤◌, ℕ, ◌+◌, ◌==◌, not, Bool, true, false, List, [], ◌∷◌, Option, Some, None, refl, sym, ap, ◌∙◌}
use Rattle.std.proofs.Common.{subst, arith, cond}
use Rattle.std.specs.Prelude.{IsTrue}
use Rattle.std.proofs.lemmas.Bool.Decides.{nat_tests}
use Rattle.sp_base.specs.declared.id.NodeId.{NodeId}
use Rattle.sp_msg.specs.declared.kept.Kept.{Kept}
use Rattle.sp_msg.specs.declared.effect.Effect.{Effect}
use Rattle.sp_msg.specs.declared.effect.Effect.TheVariants.{Signed}
use Rattle.sp_msg.specs.declared.refused.SendRefused.{SendRefused}
use Rattle.sp_msg.specs.Bodies.{payload_of}
use Rattle.sp_msg.specs.declared.body.Body.{Body}
use Rattle.sp_rules.specs.Arrivals.{arrival_at, parts_met, pieces_in, pieces_where, reply_at, sections_in}
use Rattle.sp_rules.specs.Arts.{Arts}
use Rattle.sp_rules.specs.Node.{NodeState, call_refusal, is_neighbour, kept_or}
use Rattle.sp_rules.specs.KflowSends.{krel_number, krel_sends, krel_sent, send_krel_refusal}
use Rattle.sp_rules.specs.Parts.{Fixed, is_signed, nodes_of}
use Rattle.sp_rules.specs.Handle.{weight_effects}
use Rattle.sp_rules.specs.Prio.{prio_effects}
use Rattle.sp_rules.specs.Sends.{mask_in, no_paths, own_prio, prio_body, prio_refusal, prio_sent, rel_body, rel_number, rel_refusal, rel_sent}
use Rattle.sp_rules.specs.Sends.{send_prio_refusal, weight_body, weight_number, weight_refusal, weight_sent}
use Rattle.sp_rules.specs.Steps.{Input, NodeStep, Output, accepted, arrived, refused_call, refused_send, Poll, Datagram, Tick, SendRel, SendPrio}
use Rattle.sp_rules.specs.Steps.{SetWeight, TakeRel, TakePrio, SendKrel, TakeKrel, Publish}
use Rattle.sp_rules.specs.declared.kflow.FlowKind.TheVariants.{Plain, Paths}
use Rattle.sp_rules.specs.declared.node.NodeRefused.{NodeRefused}
use Rattle.sp_rules.specs.declared.node.NodeRefused.TheVariants as refusals
use Rattle.sp_rules.specs.declared.node.TheConstants.{MAX_CALLS}
use Rattle.laws_node.specs.Inputs.{ArtsFit, InputFits}
use Rattle.laws_node.specs.Laws.{EachStepKeeps, ExtendKeeps}
use Rattle.laws_node.specs.Nodes.{NodeHolds, sizes_of}
use Rattle.laws_node.specs.Shapes.{Shape}
use Rattle.laws_node.specs.Sizes.{Sizes, ids_after, numbers_after}
use Rattle.laws_node.specs.Asked.{NewKeep, OwnKeep, WhatIsNewIsKept, at_index, payload_in}
use Rattle.laws_node.proofs.AskedLemmas.{none_new}
use Rattle.laws_node.proofs.Handles.{new_is_signed}
use Rattle.laws_node.proofs.Own.{either, fits_at, left, own_is_signed}
use Rattle.laws_node.proofs.Priority.{taken_holds}
use Rattle.laws_node.proofs.Reliable.{took_holds}
use Rattle.laws_node.proofs.Shapes.{shapes_stay}
use Rattle.laws_node.proofs.Versions.{publish_holds}
use Rattle.laws_node.proofs.Calls.{arrival_keeps, poll_keeps}
use Rattle.laws_node.proofs.Signing.{Owns, krel_sent_keeps, prio_sent_keeps, rel_sent_keeps, weight_sent_keeps}
use Rattle.laws_node.proofs.Ticking.{tick_holds}

-- ---- the sizes of a node are those of the one before

-- what is asked of a node with these bounds
abbrev sizes_with : (Kept → Type 0) → Fixed → (buffer store : ℕ) → Sizes
sizes_with P f buffer store = record {
  me = f.me;
  format = f.topology.format;
  nodes = nodes_of f.topology;
  edges = f.topology.edges;
  signature_len = f.signature_len;
  buffer = buffer;
  store = store;
  keeps = P;
}

-- the same sizes are read off what was kept
renamed : (P : Kept → Type 0) (f : Fixed) (buffer store : ℕ) (n : NodeState) → n.fixed ≡ f → NodeHolds (sizes_with P f buffer store) n
    → NodeHolds (sizes_of P n) n
renamed P f buffer store n same h =
    subst (λ (c : ℕ). NodeHolds (sizes_with P n.fixed n.parts.rel.bound c) n) (sym h.parts.prio.capacity)
    (subst (λ (b : ℕ). NodeHolds (sizes_with P n.fixed b store) n) (sym h.parts.rel.bound)
    (subst (λ (g : Fixed). NodeHolds (sizes_with P g buffer store) n) (sym same) h))

-- ---- refusals

if_none : (t : Bool) (x : NodeRefused) (o : Option NodeRefused) → cond t (Some x) o ≡ None → (t ≡ false) × (o ≡ None)
if_none true x o e = absurd (cc)
if_none false x o e = (refl, e)

not_worn : (n : NodeState) (v : NodeId) → call_refusal n v ≡ None → n.calls ≤ MAX_CALLS → n.calls + 1 ≤ MAX_CALLS
not_worn n v e most =
    let one = if_none (not (is_neighbour n v)) refusals.NotNeighbour _ e in
    let two = if_none (n.calls == MAX_CALLS) refusals.Worn None one.1 in
    grind (arith, nat_tests, two.0, most)

-- ---- all cases, whatever is asked of messages that are new or own

or_holds : {R : Type 0} (P : NodeState → Type 0) (old done : NodeState) (r : Option R) → P old → (r ≡ None → P done) → P (kept_or r old done)
or_holds P old done (Some x) h new = h
or_holds P old done None h new = new refl

-- the message that was signed first
first_own : (k : Sizes) (arts : Arts) (n : NodeState) (input : Input) (output : Output) (body : Body) (after : List Effect)
    → payload_of body ≡ payload_in input → output.effects ≡ Signed (arts.spell body) ∷ after → OwnKeep arts k.keeps n input output.effects → Owns k arts n body
first_own k arts n input output body after payload told own mine fields about left =
    own n.signer.index body
    (record { mine = mine; fields = fields; about = about; payload = payload; left = left; before = []; after = after; told = told; place = omega arith })

-- a step of a node within its bounds leaves it so, and what it keeps is what its answers say
pub step_holds : (k : Sizes) (arts : Arts) (n : NodeState) (input : Input) (output : Output) (new : NodeState) → ArtsFit arts n.fixed n.signer → InputFits input
    → NewKeep k.keeps output.answered → OwnKeep arts k.keeps n input output.effects → NodeStep arts n input output new → NodeHolds k n → NodeHolds k new
step_holds k arts n (Poll v) output new fits input news own s h =
    subst (NodeHolds k) (sym s.1) (or_holds (NodeHolds k) n _ (call_refusal n v) h (λ e. poll_keeps k n v (not_worn n v e h.calls) h))
step_holds k arts n (Datagram v bytes) output new fits input news own s h =
    subst (NodeHolds k) (sym s.1) (or_holds (NodeHolds k) n _ (call_refusal n v) h
    (λ e. arrival_keeps k arts n v bytes fits input
    (subst (λ (r : Option NodeRefused). NewKeep k.keeps (refused_call r (arrived arts n v bytes)).answered) e
    (subst (λ (o : Output). NewKeep k.keeps o.answered) s.0 news))
    (not_worn n v e h.calls) h))
step_holds k arts n (Tick now) output new fits input news own s h = subst (NodeHolds k) (sym s.1) (tick_holds k arts n now output s.0 own fits input h)
step_holds k arts n (SendRel dst payload) output new fits input news own s h =
    subst (NodeHolds k) (sym s.1) (or_holds (NodeHolds k) n _ (rel_refusal n dst) h
    (λ e. rel_sent_keeps k arts n dst payload fits input
    (first_own k arts n (SendRel dst payload) output (rel_body n dst payload) [] refl
    (ap (λ (o : Output). o.effects) s.0
    ∙ ap (λ (r : Option SendRefused). (refused_send r (accepted (rel_number n dst) (rel_sent arts n dst payload))).effects) e) own) e h))
step_holds k arts n (SendPrio m) output new fits input news own s h =
    subst (NodeHolds k) (sym s.new_is) (or_holds (NodeHolds k) n _ (send_prio_refusal n m s.choice) h
    (λ e. prio_sent_keeps k arts n m s.choice fits input
    (first_own k arts n (SendPrio m) output (prio_body n m (mask_in s.choice)) (prio_effects n.parts.prio (own_prio arts n m s.choice) None) refl
    (ap (λ (o : Output). o.effects) s.output_is
    ∙ ap (λ (r : Option SendRefused). (refused_send r (accepted n.parts.prio.next (prio_sent arts n m s.choice))).effects) e) own)
    e (s.is_choice (either (prio_refusal n m) (no_paths s.choice) e).0) h))
step_holds k arts n (SetWeight v weight) output new fits input news own s h =
    subst (NodeHolds k) (sym s.1) (or_holds (NodeHolds k) n _ (weight_refusal n v weight) h
    (λ e. weight_sent_keeps k arts n v weight fits input.0 input.1
    (first_own k arts n (SetWeight v weight) output (weight_body n v weight) (weight_effects (weight_body n v weight)) refl
    (ap (λ (o : Output). o.effects) s.0
    ∙ ap (λ (r : Option SendRefused). (refused_send r (accepted (weight_number n v) (weight_sent arts n v weight))).effects) e) own) e h))
step_holds k arts n (SendKrel m) output new fits input news own s h =
    subst (NodeHolds k) (sym s.new_is) (or_holds (NodeHolds k) n _ (send_krel_refusal n m s.choice) h
    (λ e. krel_sent_keeps k arts n m s.choice fits input
    (first_own k arts n (SendKrel m) output (krel_sends n m s.choice) [] refl
    (ap (λ (o : Output). o.effects) s.output_is
    ∙ ap (λ (r : Option SendRefused). (refused_send r (accepted (krel_number n m.dst) (krel_sent arts n m s.choice))).effects) e) own)
    e s.is_choice h))
step_holds k arts n (TakeKrel src) output new fits input news own s h =
    subst (NodeHolds k) (sym s.1) (record {
      fixed = h.fixed;
      live = h.live;
      now = h.now;
      calls = h.calls;
      links = h.links;
      signer = h.signer;
      parts = record {
        weights = h.parts.weights;
        prio = h.parts.prio;
        rel = h.parts.rel;
        kflow = took_holds Paths k n.signer.index n.parts.kflow.flows src h.parts.kflow;
        lives = h.parts.lives;
        origins = h.parts.origins;
      };
    })
step_holds k arts n (TakeRel src) output new fits input news own s h =
    subst (NodeHolds k) (sym s.1) (record {
      fixed = h.fixed;
      live = h.live;
      now = h.now;
      calls = h.calls;
      links = h.links;
      signer = h.signer;
      parts = record {
        weights = h.parts.weights;
        prio = h.parts.prio;
        rel = took_holds Plain k n.signer.index n.parts.rel src h.parts.rel;
        kflow = h.parts.kflow;
        lives = h.parts.lives;
        origins = h.parts.origins;
      };
    })
step_holds k arts n TakePrio output new fits input news own s h =
    subst (NodeHolds k) (sym s.1) (record {
      fixed = h.fixed;
      live = h.live;
      now = h.now;
      calls = h.calls;
      links = h.links;
      signer = h.signer;
      parts = record {
        weights = h.parts.weights;
        prio = taken_holds k (numbers_after n.calls) (ids_after n.calls n.signer.index) n.signer.index n.parts.prio h.parts.prio;
        rel = h.parts.rel;
        kflow = h.parts.kflow;
        lives = h.parts.lives;
        origins = h.parts.origins;
      };
    })
step_holds k arts n (Publish document) output new fits input news own s h =
    subst (NodeHolds k) (sym s.1) (publish_holds k arts n document input (λ d reads. fits.documents document d input.0 reads) h)

-- ---- with the own signatures valid

-- a call that is refused answers no object where it would answer none
pub none_called : (o : Output) (r : Option NodeRefused) → o.answered ≡ [] → (refused_call r o).answered ≡ []
none_called o None e = e
none_called o (Some refused) e = refl

-- a send that is refused answers no object where it would answer none
pub none_sent : (o : Output) (r : Option SendRefused) → o.answered ≡ [] → (refused_send r o).answered ≡ []
none_sent o None e = e
none_sent o (Some refused) e = refl

called_new : (P : Kept → Type 0) (o : Output) (r : Option NodeRefused) → NewKeep P o.answered → NewKeep P (refused_call r o).answered
called_new P o None new = new
called_new P o (Some refused) new = tt

-- what is new in a step is signed
pub step_new : (arts : Arts) (n : NodeState) (input : Input) (output : Output) (new : NodeState) → NodeStep arts n input output new
    → NewKeep (λ o. IsTrue (is_signed arts n.fixed o)) output.answered
step_new arts n (Poll v) output new s = none_new _ output.answered (ap (λ (o : Output). o.answered) s.0 ∙ none_called _ (call_refusal n v) refl)
step_new arts n (Datagram v bytes) output new s =
    subst (λ (o : Output). NewKeep (λ x. IsTrue (is_signed arts n.fixed x)) o.answered) (sym s.0)
    (called_new (λ x. IsTrue (is_signed arts n.fixed x)) (arrived arts n v bytes) (call_refusal n v)
    (new_is_signed arts (arrival_at n v) (parts_met arts n v bytes)
    (pieces_where (reply_at arts n v bytes) (pieces_in n.fixed (sections_in arts n.fixed bytes)))))
step_new arts n (Tick now) output new s = none_new _ output.answered (ap (λ (o : Output). o.answered) s.0)
step_new arts n (SendRel dst payload) output new s = none_new _ output.answered (ap (λ (o : Output). o.answered) s.0 ∙ none_sent _ (rel_refusal n dst) refl)
step_new arts n (SendPrio m) output new s =
    none_new _ output.answered (ap (λ (o : Output). o.answered) s.output_is ∙ none_sent _ (send_prio_refusal n m s.choice) refl)
step_new arts n (SetWeight v weight) output new s =
    none_new _ output.answered (ap (λ (o : Output). o.answered) s.0 ∙ none_sent _ (weight_refusal n v weight) refl)
step_new arts n (TakeRel src) output new s = none_new _ output.answered (ap (λ (o : Output). o.answered) s.0)
step_new arts n (SendKrel m) output new s =
    none_new _ output.answered (ap (λ (o : Output). o.answered) s.output_is ∙ none_sent _ (send_krel_refusal n m s.choice) refl)
step_new arts n (TakeKrel src) output new s = none_new _ output.answered (ap (λ (o : Output). o.answered) s.0)
step_new arts n TakePrio output new s = none_new _ output.answered (ap (λ (o : Output). o.answered) s.0)
step_new arts n (Publish document) output new s = none_new _ output.answered (ap (λ (o : Output). o.answered) s.0)

step_fixed : (arts : Arts) (n : NodeState) (input : Input) (output : Output) (new : NodeState) → NodeStep arts n input output new → new.fixed ≡ n.fixed
step_fixed arts n input output new s = ap (λ (x : Shape). x.fixed) (shapes_stay arts n input output new s)

-- whatever is asked of messages
step_keeps : (P : Kept → Type 0) (arts : Arts) (n : NodeState) (input : Input) (output : Output) (new : NodeState) → ArtsFit arts n.fixed n.signer
    → InputFits input → NodeStep arts n input output new → NewKeep P output.answered → OwnKeep arts P n input output.effects → NodeHolds (sizes_of P n) n
    → NodeHolds (sizes_of P new) new
step_keeps P arts n input output new fits input_fits s news own h =
    renamed P n.fixed n.parts.rel.bound n.parts.prio.inbox.capacity new (step_fixed arts n input output new s)
    (step_holds (sizes_of P n) arts n input output new fits input_fits news own s h)

pub what_is_new_is_kept : WhatIsNewIsKept
what_is_new_is_kept keeps = step_keeps (λ o. IsTrue (keeps o))

pub each_step_keeps : EachStepKeeps
each_step_keeps arts n input output new fits input_fits s h =
    subst (λ (f : Fixed). NodeHolds (sizes_of (λ o. IsTrue (is_signed arts f o)) new) new) (sym (step_fixed arts n input output new s))
    (step_keeps (λ o. IsTrue (is_signed arts n.fixed o)) arts n input output new fits input_fits s (step_new arts n input output new s)
    (λ index body own. own_is_signed arts (at_index n index) body (fits_at arts n.fixed n.signer index fits) own.left own.mine) h)

pub extend_keeps : ExtendKeeps
extend_keeps arts n upto above within h = record {
  fixed = h.fixed;
  live = h.live;
  now = h.now;
  calls = h.calls;
  links = h.links;
  signer = record { index = omega (arith, above, h.signer.index); bound = within; total = h.signer.total };
  parts = h.parts;
}
