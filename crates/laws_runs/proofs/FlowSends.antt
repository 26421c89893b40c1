-- What a client's message makes of a flow between its ends, at its source: of the kind that it is of, or of the other one.
use Rattle.std.proofs.Common.{◌≡◌, ◌<◌, ℕ, false, cond, List, [], ◌∷◌, Option, Some, None, refl, sym, ap, subst, ◌∙◌, inl, inr, ◌+◌, Ok}
use Rattle.std.specs.Prelude.{◌&&◌, ◌==◌, IsTrue}
use Rattle.sp_base.specs.declared.id.NodeId.{NodeId}
use Rattle.sp_base.specs.declared.id.Flow.{Flow}
use Rattle.sp_msg.specs.Bodies.{payload_of}
use Rattle.sp_msg.specs.declared.effect.Effect.{Effect}
use Rattle.sp_msg.specs.declared.effect.Effect.TheVariants.{Signed}
use Rattle.sp_msg.specs.declared.kept.Kept.{Kept}
use Rattle.sp_msg.specs.declared.refused.SendRefused.{SendRefused}
use Rattle.sp_rules.specs.Arts.{Arts}
use Rattle.sp_rules.specs.Kflow.{pushed as pushed_paths}
use Rattle.sp_rules.specs.KflowSends.{KSend, krel_number, krel_sends, krel_sent, send_krel_refusal}
use Rattle.sp_rules.specs.Lives.{held_boot}
use Rattle.sp_rules.specs.Node.{NodeState, kept_or, signed_now, signed_once}
use Rattle.sp_rules.specs.Parts.{Fixed, flows_of}
use Rattle.sp_rules.specs.Rel.{flow_in, is_over, own_flow, pushed_in, room}
use Rattle.sp_rules.specs.Sends.{rel_body, rel_number, rel_refusal, rel_sent}
use Rattle.sp_rules.specs.Steps as steps
use Rattle.sp_rules.specs.Steps.{NodeStep, Output, accepted, refused_send}
use Rattle.sp_rules.specs.declared.kflow.FlowKind.{FlowKind}
use Rattle.sp_rules.specs.declared.kflow.FlowKind.TheVariants.{Plain, Paths}
use Rattle.sp_rules.specs.Flow.{boots_said, flow_said, number_said}
use Rattle.sp_rules.proofs.FlowJudged.{room_is}
use Rattle.laws_node.specs.Inputs.{InputFits, ReadsBack}
use Rattle.laws_node.specs.Flows.{IsRelOf}
use Rattle.laws_node.proofs.About.{krel_good, rel_good}
use Rattle.laws_node.proofs.Own.{rel_sent_fits}
use Rattle.laws_node.proofs.OwnPaths.{krel_sent_fits}
use Rattle.sp_runs.specs.Settings.{Setting, SettingFits}
use Rattle.sp_runs.specs.Told.{Message}
use Rattle.laws_runs.specs.Signs.{sizes_at}
use Rattle.laws_runs.proofs.FlowFacts.{flow_of}
use Rattle.laws_runs.proofs.KindFacts.{both_there, cases_kind, flows_apart, paths_apart}
use Rattle.laws_runs.proofs.Foreign.{foreign_signed, rel_apart, rel_apart_ack}
use Rattle.laws_runs.proofs.FlowSteps.{Stepped, sent_step}
use Rattle.laws_runs.proofs.Goods.{arts_fit}
use Rattle.laws_runs.proofs.FlowNodes.{Before, StepIs, kept_done, of_stepped, quietly}

-- messages of a kind, seen as of another
abbrev pub seen : FlowKind → FlowKind → List Message → List Message
seen Plain Plain sent = sent
seen Paths Paths sent = sent
seen kind k sent = []

seen_own : (kind : FlowKind) (sent : List Message) → seen kind kind sent ≡ sent
seen_own Plain sent = refl
seen_own Paths sent = refl

seen_apart : (kind k : FlowKind) (sent : List Message) → (k ≡ kind → ⊥) → seen kind k sent ≡ []
seen_apart Plain Plain sent apart = absurd (apart refl)
seen_apart Plain Paths sent apart = refl
seen_apart Paths Plain sent apart = refl
seen_apart Paths Paths sent apart = absurd (apart refl)

pub seen_none : (kind k : FlowKind) → seen kind k [] ≡ []
seen_none Plain Plain = refl
seen_none Plain Paths = refl
seen_none Paths Plain = refl
seen_none Paths Paths = refl

-- what a client sent at u under this number
abbrev pub sent_now : (s d u dst : NodeId) → ℕ → List ℕ → List Message
sent_now s d u dst number payload = cond (u.0 == s.0 && dst.0 == d.0) ((number, payload) ∷ []) []

-- where nothing refuses it
abbrev pub sent_if : (s d u : NodeId) → Option SendRefused → NodeId → ℕ → List ℕ → List Message
sent_if s d u None dst number payload = sent_now s d u dst number payload
sent_if s d u (Some refused) dst number payload = []

module _ (kind : FlowKind) (C : Type 0) (x : Setting) (P : Kept → Type 0) (arts : Arts) (s d : NodeId) (bs bd : ℕ) (S D : List Message) (c : ℕ)
    (SF DF : ℕ → ℕ → List Message)
    (cF : ℕ → ℕ → ℕ) (u : NodeId) (different : s ≡ d → ⊥) (fresh_source : C → u ≡ s → (y : ℕ) → bd < y → SF bs y ≡ [])
    (fresh_end : u ≡ d → (x : ℕ) → bs < x → (DF x bd ≡ []) × (cF x bd ≡ 0)) (fits : SettingFits arts x) (reads : ReadsBack arts) where
  -- of a step that is told with these effects
  abbrev Done : List Message → List Effect → NodeState → NodeState → Type 0
  Done T es n after = StepIs kind arts C s d bs bd S T D c SF DF cF u es n after

  -- a message of a client is signed and kept
  sends : (k : FlowKind) (n m : NodeState) (o : Kept) (dst : NodeId) (number : ℕ) → IsRelOf k o.body → flow_said o.body ≡ flow_of n.fixed.me dst
      → number_said o.body ≡ number → boots_said o.body ≡ (held_boot n.parts.lives n.fixed.me, held_boot n.parts.lives dst)
      → n.fixed.me ≡ (flows_of k n.parts).me → room (flows_of k n.parts) dst ≡ Ok number → IsTrue (arts.is_good o.body)
      → m.parts.lives ≡ n.parts.lives → flows_of k m.parts ≡ pushed_in (flows_of k n.parts) o
      → ((k ≡ kind → ⊥) → flows_of kind m.parts ≡ flows_of kind n.parts) → Before kind C x P s d bs bd S D c u n
      → Done (seen kind k (sent_now s d u dst number (payload_of o.body))) (Signed (arts.spell o.body) ∷ []) n m
  sends k n m o dst number is said numbered boots mine there good lives kept stays b = elim (cases_kind k kind) [
    | inl same ↦
        subst (λ (y : FlowKind). IsRelOf y o.body → n.fixed.me ≡ (flows_of y n.parts).me → room (flows_of y n.parts) dst ≡ Ok number
        → flows_of y m.parts ≡ pushed_in (flows_of y n.parts) o
        → Done (seen kind y (sent_now s d u dst number (payload_of o.body))) (Signed (arts.spell o.body) ∷ []) n m) (sym same) own is mine there kept
    | inr apart ↦
        subst (λ T. Done T (Signed (arts.spell o.body) ∷ []) n m) (sym (seen_apart kind k (sent_now s d u dst number (payload_of o.body)) apart))
        (kept_done kind C x P arts s d bs bd S D c SF DF cF u different fresh_source fresh_end fits reads (Signed (arts.spell o.body) ∷ []) n m
        (foreign_signed kind arts reads u s d o.body (rel_apart_ack kind k o.body is) (rel_apart kind k o.body is apart) good) lives (stays apart) b)
  ]
    where
      own : IsRelOf kind o.body → n.fixed.me ≡ (flows_of kind n.parts).me → room (flows_of kind n.parts) dst ≡ Ok number
          → flows_of kind m.parts ≡ pushed_in (flows_of kind n.parts) o
          → Done (seen kind kind (sent_now s d u dst number (payload_of o.body))) (Signed (arts.spell o.body) ∷ []) n m
      own is mine there kept =
          let r = flows_of kind n.parts in
          let me : n.fixed.me ≡ u = ap (λ (g : Fixed). g.me) b.is.fixed in
          let place = room_is r dst number there in
          let flow : flow_said o.body ≡ own_flow r dst = said ∙ ap (λ (v : NodeId). flow_of v dst) mine in
          let next : number_said o.body ≡ (flow_in r.flows (flow_said o.body)).at.have + 1 =
          numbered ∙ place.1 ∙ ap (λ (fl : Flow). (flow_in r.flows fl).at.have + 1) (sym flow) in
          let open_flow : is_over r.removed (flow_said o.body) ≡ false =
          subst (λ (fl : Flow). is_over r.removed fl ≡ false) (sym flow) (both_there r (own_flow r dst) r.me dst place.0) in
          let T : sent_now s d u dst (number_said o.body) (payload_of o.body) ≡ seen kind kind (sent_now s d u dst number (payload_of o.body)) =
          ap (λ (q : ℕ). sent_now s d u dst q (payload_of o.body)) numbered ∙ sym (seen_own kind (sent_now s d u dst number (payload_of o.body))) in
          subst (λ X. Done X (Signed (arts.spell o.body) ∷ []) n m) T
          (of_stepped kind C x P arts s d bs bd S D c SF DF cF u different fresh_source fresh_end fits reads
          (sent_now s d u dst (number_said o.body) (payload_of o.body)) (Signed (arts.spell o.body) ∷ []) n m b lives
          (subst (Stepped kind arts C s d bs bd S (sent_now s d u dst (number_said o.body) (payload_of o.body)) D c u (Signed (arts.spell o.body) ∷ []))
          (sym kept)
          (sent_step kind arts reads C s d bs bd S D c u different n.parts.lives r o dst is (said ∙ ap (λ (v : NodeId). flow_of v dst) me) next
          (boots ∙ ap (λ (v : NodeId). (held_boot n.parts.lives v, held_boot n.parts.lives dst)) me) open_flow good b.holding b.rel b.prefix b.low)))

  pub send_done : (n : NodeState) (dst : NodeId) (payload : List ℕ) (output : Output) (after : NodeState)
      → NodeStep arts n (steps.SendRel dst payload) output after
      → InputFits (steps.SendRel dst payload) → Before kind C x P s d bs bd S D c u n
      → Done (seen kind Plain (sent_if s d u (rel_refusal n dst) dst (rel_number n dst) payload)) output.effects n after
  send_done n dst payload output after step short b = go (rel_refusal n dst) refl (ap (λ (o : Output). o.effects) step.0) step.1
    where
      go : (r : Option SendRefused) → rel_refusal n dst ≡ r
          → output.effects ≡ (refused_send r (accepted (rel_number n dst) (rel_sent arts n dst payload))).effects
          → after ≡ kept_or r n (signed_once n (record n.parts { rel = pushed_in n.parts.rel (signed_now arts n (rel_body n dst payload)) }))
          → Done (seen kind Plain (sent_if s d u r dst (rel_number n dst) payload)) output.effects n after
      go None free e f =
          let good = rel_good arts (sizes_at x P u) n dst payload (arts_fit arts x P u n fits b.is) short free b.is.holds in
          let next = (rel_sent_fits (sizes_at x P u) n dst payload short free b.is.holds).next in
          let o = signed_now arts n (rel_body n dst payload) in
          let m = signed_once n (record n.parts { rel = pushed_in n.parts.rel o }) in
          let T = seen kind Plain (sent_now s d u dst (rel_number n dst) payload) in
          subst (λ es. Done T es n after) (sym e) (subst (λ (y : NodeState). Done T (rel_sent arts n dst payload) n y) (sym f)
          (sends Plain n m o dst (rel_number n dst) tt refl refl refl next.0 next.1 good refl refl
          (λ apart. flows_apart kind Plain (pushed_in n.parts.rel o) n.parts apart) b))
      go (Some refused) free e f =
          subst (λ T. Done T output.effects n after) (sym (seen_none kind Plain))
          (subst (λ es. Done [] es n after) (sym e)
          (subst (λ (m : NodeState). Done [] [] n m) (sym f)
          (quietly kind C x P arts s d bs bd S D c SF DF cF u different fresh_source fresh_end fits reads n b)))

  pub ksend_done : (n : NodeState) (m : KSend) (output : Output) (after : NodeState) (step : NodeStep arts n (steps.SendKrel m) output after)
      → InputFits (steps.SendKrel m) → Before kind C x P s d bs bd S D c u n
      → Done (seen kind Paths (sent_if s d u (send_krel_refusal n m step.choice) m.dst (krel_number n m.dst) m.payload)) output.effects n after
  ksend_done n m output after step short b = go (send_krel_refusal n m step.choice) refl (ap (λ (o : Output). o.effects) step.output_is) step.new_is
    where
      o : Kept
      o = signed_now arts n (krel_sends n m step.choice)

      sent : NodeState
      sent = signed_once n (record n.parts { kflow = pushed_paths n.parts.kflow o m.paths })

      go : (r : Option SendRefused) → send_krel_refusal n m step.choice ≡ r
          → output.effects ≡ (refused_send r (accepted (krel_number n m.dst) (krel_sent arts n m step.choice))).effects
          → after ≡ kept_or r n sent
          → Done (seen kind Paths (sent_if s d u r m.dst (krel_number n m.dst) m.payload)) output.effects n after
      go None free e f =
          let good = krel_good arts (sizes_at x P u) n m step.choice (arts_fit arts x P u n fits b.is) short free step.is_choice b.is.holds in
          let next = (krel_sent_fits (sizes_at x P u) n m step.choice short free step.is_choice b.is.holds).next in
          let T = seen kind Paths (sent_now s d u m.dst (krel_number n m.dst) m.payload) in
          subst (λ es. Done T es n after) (sym e) (subst (λ (y : NodeState). Done T (krel_sent arts n m step.choice) n y) (sym f)
          (sends Paths n sent o m.dst (krel_number n m.dst) tt refl refl refl next.0 next.1 good refl refl
          (paths_apart kind n.parts (pushed_paths n.parts.kflow o m.paths)) b))
      go (Some refused) free e f =
          subst (λ T. Done T output.effects n after) (sym (seen_none kind Paths))
          (subst (λ es. Done [] es n after) (sym e)
          (subst (λ (y : NodeState). Done [] [] n y) (sym f)
          (quietly kind C x P arts s d bs bd S D c SF DF cF u different fresh_source fresh_end fits reads n b)))
