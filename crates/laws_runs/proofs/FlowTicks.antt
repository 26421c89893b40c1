-- What a tick keeps of a flow between its ends: at most one acknowledgement of each kind is signed.
use Rattle.std.proofs.Common.{◌≡◌, ◌<◌, ℕ, Bool, true, false, List, [], ◌++◌, Option, Some, None, refl, sym, ap, subst, ◌∙◌, inl, inr, ◌+◌, append_assoc}
use Rattle.std.proofs.lemmas.List.{append-nil}
use Rattle.sp_base.specs.declared.id.NodeId.{NodeId}
use Rattle.sp_base.specs.declared.id.Flow.{Flow}
use Rattle.sp_msg.specs.declared.body.Ack.{Ack}
use Rattle.sp_msg.specs.declared.effect.Effect.{Effect}
use Rattle.sp_msg.specs.declared.kept.Kept.{Kept}
use Rattle.sp_msg.specs.declared.refused.SendRefused.{SendRefused}
use Rattle.sp_rules.specs.Arts.{Arts}
use Rattle.sp_rules.specs.Kflow.{ack_body}
use Rattle.sp_rules.specs.Node.{NodeState, signed_now}
use Rattle.sp_rules.specs.Parts.{flows_of}
use Rattle.sp_rules.specs.Prio.{expired_effects}
use Rattle.sp_rules.specs.Rel.{RelState, due, flow_in, is_over, settled}
use Rattle.sp_rules.specs.Sends.{signer_refusal}
use Rattle.sp_rules.specs.Steps as steps
use Rattle.sp_rules.specs.Steps.{NodeStep, Output}
use Rattle.sp_rules.specs.Ticks.{ack_effects, after_plain, after_tick, at_time, due_now, second_refusal, settled_by, tick_effects, time_after}
use Rattle.sp_rules.specs.declared.kflow.FlowKind.{FlowKind}
use Rattle.sp_rules.specs.declared.kflow.FlowKind.TheVariants.{Plain, Paths}
use Rattle.sp_rules.specs.Flow.{flow_said, is_flow, no_flow}
use Rattle.sp_rules.proofs.FlowJudged.{found_ends}
use Rattle.laws_node.specs.Inputs.{ReadsBack}
use Rattle.laws_node.proofs.About.{ack_good}
use Rattle.laws_node.proofs.Reliable.{dated_due, due_now_fits, due_now_active}
use Rattle.laws_node.specs.Withdrawals.{FlowObeys}
use Rattle.laws_node.proofs.Tables.{all_first}
use Rattle.sp_runs.specs.Settings.{Setting, SettingFits}
use Rattle.sp_runs.specs.Told.{Message}
use Rattle.laws_runs.specs.Signs.{NodeIs, sizes_at}
use Rattle.laws_runs.proofs.EachKind.{settled_lives}
use Rattle.laws_runs.proofs.FlowFacts.{RelIs}
use Rattle.laws_runs.proofs.KindFacts.{cases_kind, flows_own, flows_same, obeys_at, settled_apart}
use Rattle.laws_runs.proofs.Foreign.{Foreign, ack_apart, ack_no_rel, foreign_both, foreign_quiet, foreign_signed}
use Rattle.laws_runs.proofs.FlowSteps.{Stepped, around, settled_step, silent}
use Rattle.laws_runs.proofs.Goods.{arts_fit}
use Rattle.laws_runs.proofs.Quiet.{quiet_expired, quiet_none}
use Rattle.laws_runs.proofs.FlowNodes.{Before, StepIs, of_stepped}

module _ (kind : FlowKind) (C : Type 0) (x : Setting) (P : Kept → Type 0) (arts : Arts) (s d : NodeId) (bs bd : ℕ) (S D : List Message) (c : ℕ)
    (SF DF : ℕ → ℕ → List Message)
    (cF : ℕ → ℕ → ℕ) (u : NodeId) (different : s ≡ d → ⊥) (fresh_source : C → u ≡ s → (y : ℕ) → bd < y → SF bs y ≡ [])
    (fresh_end : u ≡ d → (x : ℕ) → bs < x → (DF x bd ≡ []) × (cF x bd ≡ 0)) (fits : SettingFits arts x) (reads : ReadsBack arts) where
  -- of a step that is told with these effects
  abbrev Done : List Message → List Effect → NodeState → NodeState → Type 0
  Done T es n after = StepIs kind arts C s d bs bd S T D c SF DF cF u es n after

  -- a flow that is due hasn't ended
  due_open : (k : FlowKind) (n : NodeState) (ack : Ack) → due_now k n ≡ Some ack → NodeIs x P u n
      → is_over (flows_of k n.parts).removed (flow_said (ack_body k ack)) ≡ false
  due_open k n ack is_due is =
      let r = flows_of k n.parts in
      let flow = flow_said (ack_body k ack) in
      let active : (flow_in r.flows flow).active ≡ true = due_now_active k (sizes_at x P u) n ack is_due is.holds.parts in
      let ok : FlowObeys r.removed (flow_in r.flows flow) =
      all_first (FlowObeys r.removed) (is_flow flow) (no_flow flow) r.flows (obeys_at k n is.obeys) (λ over. refl) in
      go (is_over r.removed flow) refl (flow_in r.flows flow).active active
      (subst (λ (fl : Flow). is_over r.removed fl ≡ true → (flow_in r.flows flow).active ≡ false) (found_ends r.flows flow) ok)
    where
      over : Bool
      over = is_over (flows_of k n.parts).removed (flow_said (ack_body k ack))

      go : (t : Bool) → over ≡ t → (on : Bool) → on ≡ true → (over ≡ true → on ≡ false) → over ≡ false
      go false is on active off = is
      go true is on active off = absurd (let wrong : true ≡ false = sym active ∙ off is in cc)

  -- a tick: the acknowledgement of this kind is of this flow or of none, that of the other kind says nothing of it
  pub tick_done : (n : NodeState) (now : ℕ) (output : Output) (after : NodeState) → NodeStep arts n (steps.Tick now) output after
      → Before kind C x P s d bs bd S D c u n
      → Done [] output.effects n after
  tick_done n now output after step b =
      subst (λ es. Done [] es n after) (sym (ap (λ (o : Output). o.effects) step.0))
      (subst (λ (m : NodeState). Done [] (tick_effects arts n now) n m) (sym step.1)
      (of_stepped kind C x P arts s d bs bd S D c SF DF cF u different fresh_source fresh_end fits reads [] (tick_effects arts n now) n
      (after_tick arts n now) b lives (elim (cases_kind Plain kind) [
        | inl plain ↦ first plain
        | inr not_plain ↦ elim (cases_kind Paths kind) [
          | inl paths ↦ second paths
          | inr not_paths ↦ absurd (neither kind not_plain not_paths)
        ]
      ])))
    where
      neither : (k : FlowKind) → (Plain ≡ k → ⊥) → (Paths ≡ k → ⊥) → ⊥
      neither Plain one two = one refl
      neither Paths one two = two refl

      expired : List Effect
      expired = expired_effects n.parts.prio (time_after n now)

      plain_told : List Effect
      plain_told = ack_effects arts Plain (due_now Plain n) (signer_refusal n.signer)

      paths_told : List Effect
      paths_told = ack_effects arts Paths (due_now Paths n) (second_refusal arts n now)

      lives : (after_tick arts n now).parts.lives ≡ n.parts.lives
      lives =
          settled_lives arts Paths (after_plain arts n now) (due_now Paths n) (second_refusal arts n now)
          ∙ settled_lives arts Plain (at_time n now) (due_now Plain n) (signer_refusal n.signer)

      -- what leaves is none of a flow
      gone_foreign : Foreign kind arts u s d expired
      gone_foreign = foreign_quiet kind arts u s d expired (quiet_expired n.parts.prio (time_after n now))

      -- the acknowledgement of the other kind
      other_ack : (k : FlowKind) → (k ≡ kind → ⊥) → (o : Option Ack) → due_now k n ≡ o → (r : Option SendRefused)
          → Foreign kind arts u s d (ack_effects arts k o r)
      other_ack k apart None is_due r = foreign_quiet kind arts u s d [] quiet_none
      other_ack k apart (Some ack) is_due (Some refusal) = foreign_quiet kind arts u s d [] quiet_none
      other_ack k apart (Some ack) is_due None =
          foreign_signed kind arts reads u s d (ack_body k ack) (ack_apart kind k ack apart) (ack_no_rel kind k ack)
          (ack_good k arts (sizes_at x P u) n ack (arts_fit arts x P u n fits b.is) is_due b.is.holds)

      -- that of this kind, where the flows are those of before
      own_ack : (m : NodeState) (o : Option Ack) → due_now kind n ≡ o → (r : Option SendRefused) → flows_of kind m.parts ≡ flows_of kind n.parts
          → Stepped kind arts C s d bs bd S [] D c u (ack_effects arts kind o r) (flows_of kind (settled_by arts kind m o r).parts)
      own_ack m None is_due r same =
          silent kind arts reads C s d bs bd S D c u different [] (flows_of kind m.parts) (foreign_quiet kind arts u s d [] quiet_none)
          (subst (RelIs C s d S D c u) (sym same) b.rel) b.prefix b.low
      own_ack m (Some ack) is_due (Some refusal) same =
          silent kind arts reads C s d bs bd S D c u different [] (flows_of kind m.parts) (foreign_quiet kind arts u s d [] quiet_none)
          (subst (RelIs C s d S D c u) (sym same) b.rel) b.prefix b.low
      own_ack m (Some ack) is_due None same =
          let facts = due_now_fits kind (sizes_at x P u) n ack is_due b.is.holds.parts in
          let d_now = dated_due kind n ack is_due in
          let r = flows_of kind m.parts in
          let o = signed_now arts m (ack_body kind ack) in
          subst (Stepped kind arts C s d bs bd S [] D c u (ack_effects arts kind (Some ack) None)) (sym (flows_own kind (settled r o) m.parts))
          (settled_step kind arts reads C s d bs bd S D c u different n.parts.lives r d_now.raw ack o b.holding
          (subst (λ (y : RelState). due y ≡ Some d_now.raw) (sym same) d_now.is_due) d_now.is refl facts.mine
          (subst (λ (y : RelState). is_over y.removed (flow_said (ack_body kind ack)) ≡ false) (sym same) (due_open kind n ack is_due b.is))
          (ack_good kind arts (sizes_at x P u) n ack (arts_fit arts x P u n fits b.is) is_due b.is.holds)
          (subst (RelIs C s d S D c u) (sym same) b.rel) b.prefix b.low)

      timed : flows_of kind (at_time n now).parts ≡ flows_of kind n.parts
      timed = flows_same kind n.parts (at_time n now).parts refl refl

      first : Plain ≡ kind → Stepped kind arts C s d bs bd S [] D c u (tick_effects arts n now) (flows_of kind (after_tick arts n now).parts)
      first plain =
          let apart : Paths ≡ kind → ⊥ = λ same. (let wrong : Plain ≡ Paths = plain ∙ sym same in cc) in
          let here = subst (λ (k : FlowKind). Stepped kind arts C s d bs bd S [] D c u (ack_effects arts k (due_now k n) (signer_refusal n.signer))
          (flows_of kind (settled_by arts k (at_time n now) (due_now k n) (signer_refusal n.signer)).parts)) (sym plain)
          (own_ack (at_time n now) (due_now kind n) refl (signer_refusal n.signer) timed) in
          let stays = settled_apart arts kind Paths (after_plain arts n now) (due_now Paths n) (second_refusal arts n now) apart in
          subst (Stepped kind arts C s d bs bd S [] D c u (tick_effects arts n now)) (sym stays)
          (around kind arts reads C s d bs bd S D c u different [] expired plain_told paths_told (flows_of kind (after_plain arts n now).parts) gone_foreign
          (other_ack Paths apart (due_now Paths n) refl (second_refusal arts n now)) here)

      second : Paths ≡ kind → Stepped kind arts C s d bs bd S [] D c u (tick_effects arts n now) (flows_of kind (after_tick arts n now).parts)
      second paths =
          let apart : Plain ≡ kind → ⊥ = λ same. (let wrong : Paths ≡ Plain = paths ∙ sym same in cc) in
          let stays = settled_apart arts kind Plain (at_time n now) (due_now Plain n) (signer_refusal n.signer) apart ∙ timed in
          let here = subst (λ (k : FlowKind). Stepped kind arts C s d bs bd S [] D c u (ack_effects arts k (due_now k n) (second_refusal arts n now))
          (flows_of kind (settled_by arts k (after_plain arts n now) (due_now k n) (second_refusal arts n now)).parts)) (sym paths)
          (own_ack (after_plain arts n now) (due_now kind n) refl (second_refusal arts n now) stays) in
          let before = foreign_both kind arts u s d expired plain_told gone_foreign (other_ack Plain apart (due_now Plain n) refl (signer_refusal n.signer)) in
          let all = around kind arts reads C s d bs bd S D c u different [] (expired ++ plain_told) paths_told [] (flows_of kind (after_tick arts n now).parts)
          before (foreign_quiet kind arts u s d [] quiet_none) here in
          let same : (expired ++ plain_told) ++ (paths_told ++ []) ≡ tick_effects arts n now =
          ap (λ (es : List Effect). (expired ++ plain_told) ++ es) (append-nil paths_told) ∙ append_assoc expired plain_told paths_told in
          subst (λ (es : List Effect). Stepped kind arts C s d bs bd S [] D c u es (flows_of kind (after_tick arts n now).parts)) same all
