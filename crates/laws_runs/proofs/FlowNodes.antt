-- What each step of a node keeps of a flow between its ends, whatever it is: the cases without a tick and a client's message.
use Rattle.std.proofs.Common.{◌≡◌, ◌<◌, ◌≤◌, ℕ, max, Bool, true, false, List, [], ◌∷◌, ◌++◌, length, Option, Some, None, refl, sym, ap, subst, ◌∙◌, arith, inl}
use Rattle.std.proofs.Common.{inr, ◌+◌}
use Rattle.std.specs.Prelude.{IsTrue}
use Rattle.std.specs.List.{flat_map}
use Rattle.std.proofs.lemmas.List.{append-nil}
use Rattle.std.proofs.lemmas.List.Concat.{flat_map-append}
use Rattle.sp_base.specs.Lists.{IsPrefix}
use Rattle.sp_base.specs.declared.id.NodeId.{NodeId}
use Rattle.sp_msg.specs.Bodies.{payload_of}
use Rattle.sp_msg.specs.declared.body.Body.{Body}
use Rattle.sp_msg.specs.declared.body.Prio.{Prio}
use Rattle.sp_msg.specs.declared.body.WeightBody.{WeightBody}
use Rattle.sp_msg.specs.declared.body.Body.TheVariants as bodies
use Rattle.sp_msg.specs.declared.effect.Effect.{Effect}
use Rattle.sp_msg.specs.declared.effect.Effect.TheVariants.{Signed}
use Rattle.sp_msg.specs.declared.effect.Why.TheVariants.{Taken}
use Rattle.sp_msg.specs.declared.kept.Kept.{Kept}
use Rattle.sp_msg.specs.declared.refused.SendRefused.{SendRefused}
use Rattle.sp_rules.specs.Arrivals.{arrival_at, greeted, handled, has_risen, link_after, parts_met, pieces_in, reply_at, sections_in, before_document}
use Rattle.sp_rules.specs.Arrivals.{document_at, read_by}
use Rattle.sp_rules.specs.Arts.{Arts, Document}
use Rattle.sp_rules.specs.Handle.{weight_effects}
use Rattle.sp_rules.specs.Link.{advanced}
use Rattle.sp_rules.specs.Lives.{held_boot}
use Rattle.sp_rules.specs.Node.{NodeState, call_refusal, called, kept_or, link_in, signed_now, signed_once, with_link}
use Rattle.sp_rules.specs.Parts.{Fixed, Parts, flows_of, nodes_of, with_flows}
use Rattle.sp_rules.specs.Polls.{frame_to, polled, is_served, parts_after}
use Rattle.sp_rules.specs.Prio.{admit_prio, prio_effects}
use Rattle.sp_rules.specs.PrioPeer.{gone}
use Rattle.sp_rules.specs.Rel.{took}
use Rattle.sp_rules.specs.Sends.{PrioSend, mask_in, no_paths, own_prio, prio_body, prio_refusal, prio_sent}
use Rattle.sp_rules.specs.Sends.{after_take_prio, send_prio_refusal, weight_body, weight_number, weight_refusal, weight_sent}
use Rattle.sp_rules.specs.Steps as steps
use Rattle.sp_rules.specs.Steps.{NodeStep, Output, accepted, arrived, refused_call, refused_send, replied, document_effects}
use Rattle.sp_rules.specs.Store.{oldest}
use Rattle.sp_rules.specs.declared.kflow.FlowKind.{FlowKind}
use Rattle.sp_rules.specs.declared.kflow.FlowKind.TheVariants.{Plain, Paths}
use Rattle.sp_rules.specs.Weights.{held}
use Rattle.sp_rules.specs.declared.lives.Life.{Life}
use Rattle.sp_rules.specs.declared.node.NodeRefused.{NodeRefused}
use Rattle.sp_rules.specs.Documents.{after_publish, publish_effects, under_topology}
use Rattle.sp_rules.specs.Flow.{boots_said, flow_said, number_said}
use Rattle.sp_rules.specs.Topologies.{removed_of, weights_in}
use Rattle.laws_node.specs.Inputs.{InputFits, ReadsBack}
use Rattle.laws_node.specs.Asked.{NewKeep}
use Rattle.laws_node.specs.Flows.{IsRelOf}
use Rattle.laws_node.proofs.About.{prio_good, weight_good}
use Rattle.laws_node.proofs.Arrived.{sections_fit, where_fits}
use Rattle.laws_node.proofs.FlowKinds.{lives_beside}
use Rattle.laws_node.proofs.Own.{either}
use Rattle.laws_node.specs.Withdrawals.{Obeys}
use Rattle.laws_node.proofs.Adopting.{IsAdopted, publishing, reading}
use Rattle.laws_node.proofs.Withdrawing.{left_obeys}
use Rattle.laws_node.proofs.Tables.{cond_either}
use Rattle.sp_runs.specs.Forgery.{is_among}
use Rattle.sp_runs.specs.Settings.{Setting, SettingFits}
use Rattle.sp_runs.specs.Told.{Message, signed_by}
use Rattle.laws_runs.specs.Flows.{IsIn, AreNumbered}
use Rattle.laws_runs.specs.Signs.{NodeIs, sizes_at}
use Rattle.laws_runs.proofs.Acks.{still_gone}
use Rattle.laws_runs.proofs.FlowAcks.{IsNoAck, acked_ever, acked_here, acked_none, acked_same, acked_ever_same}
use Rattle.laws_runs.proofs.FlowFacts.{RelIs, same_rows_is, closed_is, flow_of}
use Rattle.laws_runs.proofs.FlowFrames.{Arrived, all_arrived}
use Rattle.laws_runs.proofs.FlowPieces.{Holding, Vouched, told_here, told_both, told_quiet}
use Rattle.laws_runs.proofs.KindFacts.{cases_kind, closed_flows, flows_apart, flows_own, flows_same, polled_flows, unheard_rows}
use Rattle.laws_runs.proofs.FlowStarts.{EndsUp, Same, New_source, New_end}
use Rattle.laws_runs.proofs.Foreign.{Foreign, foreign_both, foreign_quiet, foreign_signed}
use Rattle.laws_runs.proofs.FlowSteps.{Stepped, served_step, silent, took_step}
use Rattle.laws_runs.proofs.Goods.{arts_fit}
use Rattle.laws_runs.proofs.NoStarts.{pieces_at}
use Rattle.laws_runs.proofs.Quiet.{quiet_gone, quiet_none, quiet_prio, quiet_weight, Quiet, quiet_document, quiet_publish}
use Rattle.laws_runs.proofs.StartPieces.{greeted_lives, last_where}
use Rattle.laws_runs.proofs.StepSigns.{unsigned_all}

-- a step of the acting node from n to after, which says T of what was sent
pub record StepIs (kind : FlowKind) (arts : Arts) (C : Type 0) (s d : NodeId) (bs bd : ℕ) (S T D : List Message) (c : ℕ) (SF DF : ℕ → ℕ → List Message)
    (cF : ℕ → ℕ → ℕ)
    (u : NodeId) (es : List Effect) (n after : NodeState) : Type 0 where
  pub ends : EndsUp C s d bs bd (S ++ T) (D ++ told_here kind u s d es) (max c (acked_here kind arts bs bd u s d es)) SF DF cF u after.parts.lives
      (flows_of kind after.parts)
  pub prefix : C → IsPrefix (D ++ told_here kind u s d es) (S ++ T)
  pub low : max c (acked_here kind arts bs bd u s d es) ≤ length (D ++ told_here kind u s d es)
  pub no_t : (u ≡ s → ⊥) → T ≡ []
  pub numbers : C → AreNumbered (length S) T
  pub messages : C → u ≡ s → (m : Body) → IsRelOf kind m → IsTrue (arts.is_good m) → flow_said m ≡ flow_of s d
      → is_among (arts.spell m) (flat_map signed_by es) ≡ true → (boots_said m ≡ (bs, bd)) × IsIn (S ++ T) (number_said m) (payload_of m)
  pub elsewhere : (x y : ℕ) → ((x ≡ bs) × (y ≡ bd) → ⊥) → acked_here kind arts x y u s d es ≡ 0
  pub ever : acked_ever kind arts u s d es ≡ acked_here kind arts bs bd u s d es

-- priority messages and weights are of no flow
prio_no_ack : (kind : FlowKind) (p : Prio) → IsNoAck kind (bodies.Prio p)
prio_no_ack Plain p = tt
prio_no_ack Paths p = tt

prio_no_rel : (kind : FlowKind) (p : Prio) → IsRelOf kind (bodies.Prio p) → ⊥
prio_no_rel Plain p is = is
prio_no_rel Paths p is = is

weight_no_ack : (kind : FlowKind) (w : WeightBody) → IsNoAck kind (bodies.Weight w)
weight_no_ack Plain w = tt
weight_no_ack Paths w = tt

weight_no_rel : (kind : FlowKind) (w : WeightBody) → IsRelOf kind (bodies.Weight w) → ⊥
weight_no_rel Plain w is = is
weight_no_rel Paths w is = is

-- the node before the step: it is of the setting, holds these boots, and the flow is at these
pub record Before (kind : FlowKind) (C : Type 0) (x : Setting) (P : Kept → Type 0) (s d : NodeId) (bs bd : ℕ) (S D : List Message) (c : ℕ) (u : NodeId)
    (n : NodeState) : Type 0 where
  pub is : NodeIs x P u n
  pub holding : Holding s d bs bd n.parts.lives
  pub rel : RelIs C s d S D c u (flows_of kind n.parts)
  pub prefix : C → IsPrefix D S
  pub low : c ≤ length D

module _ (kind : FlowKind) (C : Type 0) (x : Setting) (P : Kept → Type 0) (arts : Arts) (s d : NodeId) (bs bd : ℕ) (S D : List Message) (c : ℕ)
    (SF DF : ℕ → ℕ → List Message)
    (cF : ℕ → ℕ → ℕ) (u : NodeId) (different : s ≡ d → ⊥) (fresh_source : C → u ≡ s → (y : ℕ) → bd < y → SF bs y ≡ [])
    (fresh_end : u ≡ d → (x : ℕ) → bs < x → (DF x bd ≡ []) × (cF x bd ≡ 0)) (fits : SettingFits arts x) (reads : ReadsBack arts) where
  -- of a step that is told with these effects
  abbrev Done : List Message → List Effect → NodeState → NodeState → Type 0
  Done T es n after = StepIs kind arts C s d bs bd S T D c SF DF cF u es n after

  -- a step that changes no held boot
  pub of_stepped : (T : List Message) (es : List Effect) (n after : NodeState) → Before kind C x P s d bs bd S D c u n → after.parts.lives ≡ n.parts.lives
      → Stepped kind arts C s d bs bd S T D c u es (flows_of kind after.parts) → Done T es n after
  of_stepped T es n after b lives h =
      let same : (v : NodeId) → held_boot after.parts.lives v ≡ held_boot n.parts.lives v = λ v. ap (λ (ls : List Life). held_boot ls v) lives in
      record {
        ends = Same (same s ∙ b.holding.src) (same d ∙ b.holding.dst) h.rel;
        prefix = h.prefix;
        low = h.low;
        no_t = h.no_t;
        numbers = h.numbers;
        messages = h.messages;
        elsewhere = h.elsewhere;
        ever = h.ever;
      }

  of_arrived : (es : List Effect) (n after : NodeState) (p : Parts) → flat_map signed_by es ≡ [] → Arrived kind C s d bs bd S D c SF DF cF u p after.parts es
      → Done [] es n after
  of_arrived es n after p unsigned h =
      let zeros = acked_none kind arts u s d es unsigned in
      let zero = zeros.under bs bd in
      let same_c : max c (acked_here kind arts bs bd u s d es) ≡ c = omega (arith, zero) in
      record {
        ends = subst (λ q. EndsUp C s d bs bd (S ++ []) (D ++ told_here kind u s d es) q SF DF cF u after.parts.lives (flows_of kind after.parts)) (sym same_c)
            (subst (λ X. EndsUp C s d bs bd X (D ++ told_here kind u s d es) c SF DF cF u after.parts.lives (flows_of kind after.parts)) (sym (append-nil S))
            h.ends);
        prefix = subst (λ X. C → IsPrefix (D ++ told_here kind u s d es) X) (sym (append-nil S)) h.prefix;
        low = let low = h.low in omega (arith, zero, low);
        no_t = λ never. refl;
        numbers = λ y. tt;
        messages = λ k z m is good said among. absurd (let f : false ≡ true = rw unsigned at among in cc);
        elsewhere = λ x y never. zeros.under x y;
        ever = let all = zeros.ever in omega (arith, all, zero);
      }

  -- a step that leaves the flows, and tells nothing of them
  pub kept_done : (es : List Effect) (n after : NodeState) → Foreign kind arts u s d es → after.parts.lives ≡ n.parts.lives
      → flows_of kind after.parts ≡ flows_of kind n.parts → Before kind C x P s d bs bd S D c u n → Done [] es n after
  kept_done es n after foreign lives same b =
      of_stepped [] es n after b lives (silent kind arts reads C s d bs bd S D c u different es (flows_of kind after.parts) foreign
      (subst (RelIs C s d S D c u) (sym same) b.rel) b.prefix b.low)

  pub quietly : (n : NodeState) → Before kind C x P s d bs bd S D c u n → Done [] [] n n
  quietly n b = kept_done [] n n (foreign_quiet kind arts u s d [] quiet_none) refl refl b

  -- effects of a step that leaves the rows of flows as they are
  same_done : (es : List Effect) (n after : NodeState) → Quiet es → after.parts.lives ≡ n.parts.lives → after.parts.rel ≡ n.parts.rel
      → after.parts.kflow ≡ n.parts.kflow → Before kind C x P s d bs bd S D c u n → Done [] es n after
  same_done es n after quiet lives plain paths b =
      kept_done es n after (foreign_quiet kind arts u s d es quiet) lives (flows_same kind n.parts after.parts plain paths) b

  -- ---- another version of the topology

  -- a version closes flows of removed ends
  abbrev Closes : NodeState → NodeState → Type 0
  Closes n m = (m.parts.lives ≡ n.parts.lives)
      × ((S' D' : List Message) (c' : ℕ) → RelIs C s d S' D' c' u (flows_of kind n.parts) → RelIs C s d S' D' c' u (flows_of kind m.parts))

  version_closes : (n : NodeState) (bytes : List ℕ) (t : Document) → IsAdopted arts n t → Obeys n → Closes n (under_topology n bytes t.topology)
  version_closes n bytes document by obeys = (
    refl,
    λ S' D' c' h.
        let gone = removed_of (nodes_of document.topology) document.topology.edges in
        subst (RelIs C s d S' D' c' u) (sym (closed_flows kind n.parts (weights_in document.topology.edges) gone))
        (closed_is C s d S' D' c' u (flows_of kind n.parts) gone (still_gone arts n document by obeys kind) h),
  )

  read_closes : (n : NodeState) (document : Option (List ℕ)) → Obeys n → Closes n (read_by arts n document)
  read_closes n document obeys =
      reading arts n document (λ m told. Closes n m) (refl, λ S' D' c' h. h) (λ bytes t is reads by. version_closes n bytes t by obeys)

  publish_closes : (n : NodeState) (document : List ℕ) → Obeys n → Closes n (after_publish arts n document)
  publish_closes n document obeys =
      publishing arts n document (λ m told. Closes n m) (refl, λ S' D' c' h. h) (λ t reads by. version_closes n document t by obeys)

  -- and tells nothing of what was sent, delivered and signed
  then_closed : (n left done : NodeState) (es more : List Effect) → Quiet more → Closes left done → Done [] es n left → Done [] (es ++ more) n done
  then_closed n left done es more quiet closes h =
      let told : told_here kind u s d (es ++ more) ≡ told_here kind u s d es =
      told_both kind u s d es more ∙ ap (λ t. told_here kind u s d es ++ t) (told_quiet kind u s d more quiet) ∙ append-nil (told_here kind u s d es) in
      let signs : flat_map signed_by (es ++ more) ≡ flat_map signed_by es =
      flat_map-append signed_by es more ∙ ap (λ t. flat_map signed_by es ++ t) quiet.no_signature ∙ append-nil (flat_map signed_by es) in
      let acked : (x y : ℕ) → acked_here kind arts x y u s d (es ++ more) ≡ acked_here kind arts x y u s d es =
      λ x y. acked_same kind arts x y u s d (es ++ more) es signs in
      record {
        ends = subst
            (λ t. EndsUp C s d bs bd (S ++ []) (D ++ t) (max c (acked_here kind arts bs bd u s d (es ++ more))) SF DF cF u done.parts.lives
            (flows_of kind done.parts))
            (sym told) (subst
            (λ k. EndsUp C s d bs bd (S ++ []) (D ++ told_here kind u s d es) (max c k) SF DF cF u done.parts.lives (flows_of kind done.parts))
            (sym (acked bs bd)) (go _ _ _ h.ends));
        prefix = subst (λ t. C → IsPrefix (D ++ t) (S ++ [])) (sym told) h.prefix;
        low = subst (λ (t : List Message). max c (acked_here kind arts bs bd u s d (es ++ more)) ≤ length (D ++ t)) (sym told)
            (subst (λ (k : ℕ). max c k ≤ length (D ++ told_here kind u s d es)) (sym (acked bs bd)) h.low);
        no_t = h.no_t;
        numbers = h.numbers;
        messages = λ k z m is good said among. h.messages k z m is good said (subst (λ xs. is_among (arts.spell m) xs ≡ true) signs among);
        elsewhere = λ x y never. acked x y ∙ h.elsewhere x y never;
        ever = acked_ever_same kind arts u s d (es ++ more) es signs ∙ h.ever ∙ sym (acked bs bd);
      }
    where
      same : (v : NodeId) → held_boot done.parts.lives v ≡ held_boot left.parts.lives v
      same v = ap (λ (ls : List Life). held_boot ls v) closes.0

      go : (S' D' : List Message) (c' : ℕ) → EndsUp C s d bs bd S' D' c' SF DF cF u left.parts.lives (flows_of kind left.parts)
          → EndsUp C s d bs bd S' D' c' SF DF cF u done.parts.lives (flows_of kind done.parts)
      go S' D' c' (Same e f r) = Same (same s ∙ e) (same d ∙ f) (closes.1 S' D' c' r)
      go S' D' c' (New_source x lt e f r) = New_source x lt (same s ∙ e) (same d ∙ f) (closes.1 (SF x bd) (DF x bd) (cF x bd) r)
      go S' D' c' (New_end y lt e f r) = New_end y lt (same s ∙ e) (same d ∙ f) (closes.1 (SF bs y) (DF bs y) (cF bs y) r)

  pub publish_done : (n : NodeState) (document : List ℕ) (output : Output) (after : NodeState) → NodeStep arts n (steps.Publish document) output after
      → Before kind C x P s d bs bd S D c u n → Done [] output.effects n after
  publish_done n document output after step b =
      subst (λ es. Done [] es n after) (sym (ap (λ (o : Output). o.effects) step.0))
      (subst (λ (m : NodeState). Done [] (publish_effects arts n document) n m) (sym step.1)
      (then_closed n n (after_publish arts n document) [] (publish_effects arts n document) (quiet_publish arts n document)
      (publish_closes n document b.is.obeys) (quietly n b)))

  -- ---- the others

  -- what was forgotten of a neighbour that lives anew changes no flow
  met_rel : (e t : Bool) (v : NodeId) (p : Parts) → RelIs C s d S D c u (flows_of kind p) → RelIs C s d S D c u (flows_of kind (greeted e t v p))
  met_rel true true v p h =
      let same = unheard_rows kind v p in
      same_rows_is C s d S D c u (flows_of kind p) (flows_of kind (greeted true true v p)) same.0 same.1 same.2 h
  met_rel true false v p h = h
  met_rel false t v p h = h

  pub datagram_done : (n : NodeState) (v : NodeId) (bytes : List ℕ) (output : Output) (after : NodeState)
      → NodeStep arts n (steps.Datagram v bytes) output after → InputFits (steps.Datagram v bytes)
      → NewKeep (Vouched kind C s d bs bd S c) output.answered → Before kind C x P s d bs bd S D c u n → Done [] output.effects n after
  datagram_done n v bytes output after step input new b =
      go (call_refusal n v) (subst (λ (o : Output). NewKeep (Vouched kind C s d bs bd S c) o.answered) step.0 new) (ap (λ (o : Output). o.effects) step.0)
      step.1
    where
      go : (r : Option NodeRefused) → NewKeep (Vouched kind C s d bs bd S c) (refused_call r (arrived arts n v bytes)).answered
          → output.effects ≡ (refused_call r (arrived arts n v bytes)).effects
          → after ≡ kept_or r n (read_by arts (before_document arts n v bytes) (document_at arts n v bytes)) → Done [] output.effects n after
      go None new e f =
          let q : Parts = parts_met arts n v bytes in
          let t = has_risen (link_in n v) (link_after arts n v bytes) in
          let same : q.lives ≡ n.parts.lives = greeted_lives n.fixed.epochs t v n.parts in
          let here : Holding s d bs bd q.lives = record {
            src = ap (λ (x : List Life). held_boot x s) same ∙ b.holding.src;
            dst = ap (λ (x : List Life). held_boot x d) same ∙ b.holding.dst;
          } in
          let k = sizes_at x P u in
          let few = where_fits k (pieces_in n.fixed (sections_in arts n.fixed bytes)) (reply_at arts n v bytes)
          (sections_fit k arts n.fixed n.signer bytes (arts_fit arts x P u n fits b.is) input b.is.holds.fixed.format b.is.holds.fixed.signature_len
          (sections_in arts n.fixed bytes) refl) in
          let done = all_arrived kind C s d bs bd S c SF DF cF u different fresh_source fresh_end D arts (arrival_at n v) q (pieces_at arts n v bytes) k few.fit
          (last_where (reply_at arts n v bytes) n.fixed (sections_in arts n.fixed bytes)) (ap (λ (g : Fixed). g.me) b.is.fixed) here new
          (met_rel n.fixed.epochs t v n.parts b.rel) b.prefix b.low in
          let left = before_document arts n v bytes in
          let document = document_at arts n v bytes in
          let first : Done [] (handled arts n v bytes).effects n left =
          of_arrived (handled arts n v bytes).effects n left q (unsigned_all arts (arrival_at n v) q (pieces_at arts n v bytes)) done in
          subst (λ es. Done [] es n after) (sym e)
          (subst (λ (m : NodeState). Done [] ((handled arts n v bytes).effects ++ document_effects arts left document) n m) (sym f)
          (then_closed n left (read_by arts left document) (handled arts n v bytes).effects (document_effects arts left document)
          (quiet_document arts left document) (read_closes left document (left_obeys arts n v bytes b.is.obeys)) first))
      go (Some refused) new e f = subst (λ es. Done [] es n after) (sym e) (subst (λ (m : NodeState). Done [] [] n m) (sym f) (quietly n b))

  pub poll_done : (n : NodeState) (v : NodeId) (output : Output) (after : NodeState) → NodeStep arts n (steps.Poll v) output after
      → Before kind C x P s d bs bd S D c u n
      → Done [] output.effects n after
  poll_done n v output after step b = go (call_refusal n v) (ap (λ (o : Output). o.effects) step.0) step.1
    where
      go : (r : Option NodeRefused) → output.effects ≡ (refused_call r (replied (steps.Frame (frame_to arts n v)))).effects
          → after ≡ kept_or r n (called n (with_link n v (advanced (link_in n v))) (parts_after n v)) → Done [] output.effects n after
      go None e f = subst (λ es. Done [] es n after) (sym e)
          (subst (λ (m : NodeState). Done [] [] n m) (sym f)
          (cond_either (λ (p : Parts). Done [] [] n (called n (with_link n v (advanced (link_in n v))) p)) (is_served n v) (polled n.fixed n.parts v) n.parts
          (of_stepped [] [] n (called n (with_link n v (advanced (link_in n v))) (polled n.fixed n.parts v)) b refl
          (silent kind arts reads C s d bs bd S D c u different [] (flows_of kind (polled n.fixed n.parts v)) (foreign_quiet kind arts u s d [] quiet_none)
          (subst (RelIs C s d S D c u) (sym (polled_flows kind n.fixed n.parts v))
          (served_step kind arts reads C s d bs bd S D c u different (flows_of kind n.parts) v b.rel)) b.prefix b.low))
          (same_done [] n (called n (with_link n v (advanced (link_in n v))) n.parts) quiet_none refl refl refl b)))
      go (Some refused) e f = subst (λ es. Done [] es n after) (sym e) (subst (λ (m : NodeState). Done [] [] n m) (sym f) (quietly n b))

  pub prio_done : (n : NodeState) (m : PrioSend) (output : Output) (after : NodeState) → NodeStep arts n (steps.SendPrio m) output after
      → InputFits (steps.SendPrio m) → Before kind C x P s d bs bd S D c u n → Done [] output.effects n after
  prio_done n m output after step sizes b = go (send_prio_refusal n m step.choice) refl (ap (λ (o : Output). o.effects) step.output_is) step.new_is
    where
      go : (r : Option SendRefused) → send_prio_refusal n m step.choice ≡ r
          → output.effects ≡ (refused_send r (accepted n.parts.prio.next (prio_sent arts n m step.choice))).effects
          → after ≡ kept_or r n (signed_once n (record n.parts { prio = admit_prio n.parts.prio (own_prio arts n m step.choice) None }))
          → Done [] output.effects n after
      go None free e f =
          let good = prio_good arts (sizes_at x P u) n m step.choice (arts_fit arts x P u n fits b.is) sizes free
          (step.is_choice (either (prio_refusal n m) (no_paths step.choice) free).0) b.is.holds in
          subst (λ es. Done [] es n after) (sym e)
          (subst (λ (y : NodeState). Done [] (prio_sent arts n m step.choice) n y) (sym f)
          (kept_done (prio_sent arts n m step.choice) n
          (signed_once n (record n.parts { prio = admit_prio n.parts.prio (own_prio arts n m step.choice) None }))
          (foreign_both kind arts u s d (Signed (arts.spell (prio_body n m (mask_in step.choice))) ∷ [])
          (prio_effects n.parts.prio (own_prio arts n m step.choice) None)
          (foreign_signed kind arts reads u s d (prio_body n m (mask_in step.choice)) (prio_no_ack kind _) (prio_no_rel kind _) good)
          (foreign_quiet kind arts u s d _ (quiet_prio n.parts.prio (own_prio arts n m step.choice) None))) refl
          (flows_same kind n.parts (record n.parts { prio = admit_prio n.parts.prio (own_prio arts n m step.choice) None }) refl refl) b))
      go (Some refused) free e f = subst (λ es. Done [] es n after) (sym e) (subst (λ (y : NodeState). Done [] [] n y) (sym f) (quietly n b))

  pub weight_done : (n : NodeState) (v : NodeId) (weight : ℕ) (output : Output) (after : NodeState) → NodeStep arts n (steps.SetWeight v weight) output after
      → InputFits (steps.SetWeight v weight) → Before kind C x P s d bs bd S D c u n → Done [] output.effects n after
  weight_done n v weight output after step sizes b = go (weight_refusal n v weight) refl (ap (λ (o : Output). o.effects) step.0) step.1
    where
      go : (r : Option SendRefused) → weight_refusal n v weight ≡ r
          → output.effects ≡ (refused_send r (accepted (weight_number n v) (weight_sent arts n v weight))).effects
          → after ≡ kept_or r n (signed_once n (record n.parts { weights = held n.parts.weights (signed_now arts n (weight_body n v weight)) }))
          → Done [] output.effects n after
      go None free e f =
          let good = weight_good arts (sizes_at x P u) n v weight (arts_fit arts x P u n fits b.is) sizes.0 sizes.1 free b.is.holds in
          subst (λ es. Done [] es n after) (sym e)
          (subst (λ (y : NodeState). Done [] (weight_sent arts n v weight) n y) (sym f)
          (kept_done (weight_sent arts n v weight) n
          (signed_once n (record n.parts { weights = held n.parts.weights (signed_now arts n (weight_body n v weight)) }))
          (foreign_both kind arts u s d (Signed (arts.spell (weight_body n v weight)) ∷ []) (weight_effects (weight_body n v weight))
          (foreign_signed kind arts reads u s d (weight_body n v weight) (weight_no_ack kind _) (weight_no_rel kind _) good)
          (foreign_quiet kind arts u s d _ (quiet_weight (weight_body n v weight)))) refl
          (flows_same kind n.parts (record n.parts { weights = held n.parts.weights (signed_now arts n (weight_body n v weight)) }) refl refl) b))
      go (Some refused) free e f = subst (λ es. Done [] es n after) (sym e) (subst (λ (y : NodeState). Done [] [] n y) (sym f) (quietly n b))

  -- a client takes a message of a kind
  took_from : (k : FlowKind) (n : NodeState) (src : NodeId) → Before kind C x P s d bs bd S D c u n
      → Done [] [] n (record n { parts = with_flows k (took (flows_of k n.parts) src) n.parts })
  took_from k n src b =
      let after = record n { parts = with_flows k (took (flows_of k n.parts) src) n.parts } in
      of_stepped [] [] n after b (lives_beside k (took (flows_of k n.parts) src) n.parts)
      (silent kind arts reads C s d bs bd S D c u different [] (flows_of kind after.parts) (foreign_quiet kind arts u s d [] quiet_none)
      (elim (cases_kind k kind) [
        | inl same ↦
            subst (λ (y : FlowKind). RelIs C s d S D c u (flows_of kind (with_flows y (took (flows_of y n.parts) src) n.parts))) (sym same)
            (subst (RelIs C s d S D c u) (sym (flows_own kind (took (flows_of kind n.parts) src) n.parts))
            (took_step kind arts reads C s d bs bd S D c u different (flows_of kind n.parts) src b.rel))
        | inr apart ↦ subst (RelIs C s d S D c u) (sym (flows_apart kind k (took (flows_of k n.parts) src) n.parts apart)) b.rel
      ]) b.prefix b.low)

  pub take_done : (n : NodeState) (src : NodeId) (output : Output) (after : NodeState) → NodeStep arts n (steps.TakeRel src) output after
      → Before kind C x P s d bs bd S D c u n
      → Done [] output.effects n after
  take_done n src output after step b =
      subst (λ es. Done [] es n after) (sym (ap (λ (o : Output). o.effects) step.0))
      (subst (λ (m : NodeState). Done [] [] n m) (sym step.1) (took_from Plain n src b))

  pub ktake_done : (n : NodeState) (src : NodeId) (output : Output) (after : NodeState) → NodeStep arts n (steps.TakeKrel src) output after
      → Before kind C x P s d bs bd S D c u n → Done [] output.effects n after
  ktake_done n src output after step b =
      subst (λ es. Done [] es n after) (sym (ap (λ (o : Output). o.effects) step.0))
      (subst (λ (m : NodeState). Done [] [] n m) (sym step.1) (took_from Paths n src b))

  pub takep_done : (n : NodeState) (output : Output) (after : NodeState) → NodeStep arts n steps.TakePrio output after
      → Before kind C x P s d bs bd S D c u n → Done [] output.effects n after
  takep_done n output after step b =
      subst (λ es. Done [] es n after) (sym (ap (λ (o : Output). o.effects) step.0))
      (subst (λ (m : NodeState). Done [] (gone 0 Taken (oldest n.parts.prio.inbox)) n m) (sym step.1)
      (same_done (gone 0 Taken (oldest n.parts.prio.inbox)) n (after_take_prio n) (quiet_gone 0 Taken (oldest n.parts.prio.inbox)) refl refl refl b))
