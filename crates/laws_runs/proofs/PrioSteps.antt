-- What each step of a node tells and keeps of priority messages, and what it signs of them.
use Rattle.std.proofs.Common.{◌≡◌, ℕ, ◌==◌, Bool, true, false, cond, List, [], ◌∷◌, ◌++◌, Option, Some, None, refl, sym, ap, ap₂, subst, ◌∙◌, inl, inr, arith}
use Rattle.std.proofs.Common.{map, ◌<◌}
use Rattle.std.specs.Prelude.{◌&&◌, ◌||◌, not, IsTrue}
use Rattle.std.specs.List.{Contains, flat_map, All}
use Rattle.std.proofs.lemmas.Bool.{eq-eqb}
use Rattle.std.proofs.lemmas.List.{append-nil}
use Rattle.std.proofs.lemmas.List.Concat.{flat_map-append}
use Rattle.sp_base.specs.declared.id.NodeId.{NodeId}
use Rattle.sp_msg.specs.declared.body.Ack.{Ack}
use Rattle.sp_msg.specs.declared.body.Body.{Body}
use Rattle.sp_msg.specs.declared.body.Body.TheVariants as bodies
use Rattle.sp_msg.specs.declared.body.Prio.{Prio}
use Rattle.sp_msg.specs.declared.effect.Effect.{Effect}
use Rattle.sp_msg.specs.declared.effect.Why.TheVariants.{Taken}
use Rattle.sp_msg.specs.declared.kept.Kept.{Kept}
use Rattle.sp_msg.specs.declared.refused.SendRefused.{SendRefused}
use Rattle.sp_msg.specs.declared.refused.SendRefused.TheVariants as refusals
use Rattle.sp_rules.specs.Arrivals.{arrival_at, greeted, handled, has_risen, link_after, parts_met, reply_at, sections_in, before_document, document_at}
use Rattle.sp_rules.specs.Arrivals.{read_by}
use Rattle.sp_rules.specs.Arts.{Arts}
use Rattle.sp_rules.specs.Documents.{publish_effects, under_topology, version_effects}
use Rattle.sp_rules.specs.Handle.{weight_effects}
use Rattle.sp_topology.specs.declared.topology.Topology.{Topology}
use Rattle.sp_rules.specs.Kflow.{ack_body, pushed}
use Rattle.sp_rules.specs.KflowSends.{krel_number, krel_sends, krel_sent, send_krel_refusal}
use Rattle.sp_rules.specs.Lives.{held_boot}
use Rattle.sp_rules.specs.Link.{advanced}
use Rattle.sp_rules.specs.Masks.{Choice}
use Rattle.sp_rules.specs.Node.{NodeState, call_refusal, called, kept_or, link_in, signed_now, signed_once, with_link}
use Rattle.sp_rules.specs.Parts.{Fixed, Parts}
use Rattle.sp_rules.specs.Polls.{frame_to, polled, is_served, parts_after}
use Rattle.sp_rules.specs.Prio as prio
use Rattle.sp_rules.specs.Prio.{PrioState, admit_prio, expired_effects, is_here, marked, prio_effects}
use Rattle.sp_rules.specs.PrioPeer.{gone}
use Rattle.sp_rules.specs.Rel.{pushed_in}
use Rattle.sp_rules.specs.Sends.{PrioSend, is_unmet, mask_in, no_paths, own_prio, prio_body, prio_refusal, prio_sent as prio_told, rel_body, rel_number}
use Rattle.sp_rules.specs.Sends.{rel_refusal, rel_sent, send_prio_refusal, signer_refusal, weight_body, weight_number, weight_refusal, weight_sent}
use Rattle.sp_rules.specs.Steps as steps
use Rattle.sp_rules.specs.Steps.{Input, NodeStep, Output, accepted, arrived, refused_call, refused_send, replied, document_effects}
use Rattle.sp_rules.specs.Store.{oldest, said}
use Rattle.sp_rules.specs.Ticks.{ack_effects, after_plain, after_tick, at_time, due_now, second_refusal, tick_effects, time_after}
use Rattle.sp_rules.specs.Weights.{held}
use Rattle.sp_rules.specs.declared.kflow.FlowKind.{FlowKind}
use Rattle.sp_rules.specs.declared.kflow.FlowKind.TheVariants.{Plain, Paths}
use Rattle.sp_rules.specs.declared.lives.Life.{Life}
use Rattle.sp_rules.specs.declared.node.NodeRefused.{NodeRefused}
use Rattle.laws_node.specs.Asked.{NewKeep}
use Rattle.laws_node.specs.Inputs.{InputFits, ReadsBack}
use Rattle.laws_node.proofs.About.{prio_good}
use Rattle.laws_node.proofs.Own.{either}
use Rattle.laws_node.proofs.Spellings.{no_other_is_spelled_so}
use Rattle.laws_node.proofs.Adopting.{publishing, reading}
use Rattle.laws_node.proofs.Tables.{cond_either}
use Rattle.sp_node_words.specs.Words.{refused_word}
use Rattle.sp_runs.specs.Forgery.{is_among}
use Rattle.sp_runs.specs.Journals.{Says, reply_word}
use Rattle.sp_runs.specs.Settings.{Setting, SettingFits}
use Rattle.sp_runs.specs.Told.{Message, prio_accepted_in, signed_by, prio_by}
use Rattle.sp_journal.specs.declared.entry.Entry.{Entry}
use Rattle.sp_journal.specs.declared.entry.Reply.{Reply}
use Rattle.sp_journal.specs.declared.entry.Reply.TheVariants as replies
use Rattle.sp_schedule_events.specs.declared.event.Event.TheVariants as events
use Rattle.laws_runs.specs.Signs.{NodeIs, sizes_at}
use Rattle.laws_runs.proofs.EachKind.{settled_lives, settled_prio}
use Rattle.laws_runs.proofs.Goods.{arts_fit}
use Rattle.laws_runs.proofs.Lists.{among_cons}
use Rattle.laws_runs.proofs.NoStarts.{pieces_at}
use Rattle.laws_runs.proofs.PrioFacts.{Mute, PrioIs, marks, mute_append, mute_expired, mute_gone, mute_none, mute_own, mute_signed, mute_weight, same_windows}
use Rattle.laws_runs.proofs.PrioFacts.{spread_same, mute_version}
use Rattle.laws_runs.proofs.PrioPieces.{PrioCame, VouchedPrio, all_came, came_same, muted, PrioEnds, Same_life, Next_life}
use Rattle.laws_runs.proofs.Quiet.{quiet_prio}
use Rattle.laws_runs.proofs.StartPieces.{greeted_lives, last_where}
use Rattle.laws_runs.specs.Priority.{AreOnce}

-- ---- steps that bring nothing, and send no priority message

-- nothing is delivered, and no window and no boot that is held changes
pub record Calm (n after : NodeState) (es : List Effect) : Type 0 where
  pub mute : Mute es
  pub lives : after.parts.lives ≡ n.parts.lives
  pub me : after.parts.prio.me ≡ n.parts.prio.me
  pub nodes : after.parts.prio.nodes ≡ n.parts.prio.nodes
  pub windows : after.parts.prio.windows ≡ n.parts.prio.windows

abbrev pub IsCalm : Input → Type 0
IsCalm (steps.Datagram v bytes) = ⊥
IsCalm (steps.SendPrio m) = ⊥
IsCalm _ = Unit {0}

calm_none : (n : NodeState) → Calm n n []
calm_none n = record { mute = mute_none; lives = refl; me = refl; nodes = refl; windows = refl }

calm_as : (n done after : NodeState) (es told : List Effect) → told ≡ es → after ≡ done → Calm n done es → Calm n after told
calm_as n done after es told e f calm = subst (Calm n after) (sym e) (subst (λ (m : NodeState). Calm n m es) (sym f) calm)

-- another version of the topology
version_calm : (n : NodeState) (bytes : List ℕ) (t : Topology) → Calm n (under_topology n bytes t) (version_effects n t)
version_calm n bytes t = record { mute = mute_version n t; lives = refl; me = refl; nodes = refl; windows = refl }

document_calm : (arts : Arts) (n : NodeState) (document : Option (List ℕ)) → Calm n (read_by arts n document) (document_effects arts n document)
document_calm arts n document = reading arts n document (λ m told. Calm n m told) (calm_none n) (λ bytes d is reads by. version_calm n bytes d.topology)

calm_step : (arts : Arts) (n : NodeState) (i : Input) (output : Output) (after : NodeState) → IsCalm i → NodeStep arts n i output after
    → Calm n after output.effects
calm_step arts n (steps.Poll v) output after is step = go (call_refusal n v) (ap (λ (o : Output). o.effects) step.0) step.1
  where
    go : (r : Option NodeRefused) → output.effects ≡ (refused_call r (replied (steps.Frame (frame_to arts n v)))).effects
        → after ≡ kept_or r n (called n (with_link n v (advanced (link_in n v))) (parts_after n v)) → Calm n after output.effects
    go None e f =
        calm_as n (called n (with_link n v (advanced (link_in n v))) (parts_after n v)) after [] output.effects e f
        (cond_either (λ (p : Parts). Calm n (called n (with_link n v (advanced (link_in n v))) p) []) (is_served n v) (polled n.fixed n.parts v) n.parts
        (record { mute = mute_none; lives = refl; me = refl; nodes = refl; windows = refl })
        (record { mute = mute_none; lives = refl; me = refl; nodes = refl; windows = refl }))
    go (Some refused) e f = calm_as n n after [] output.effects e f (calm_none n)
calm_step arts n (steps.Tick now) output after is step =
    calm_as n (after_tick arts n now) after (tick_effects arts n now) output.effects (ap (λ (o : Output). o.effects) step.0) step.1 (record {
      mute = mute_append (expired_effects n.parts.prio (time_after n now)) _ (mute_expired n.parts.prio (time_after n now))
          (mute_append (ack_effects arts Plain (due_now Plain n) (signer_refusal n.signer))
          (ack_effects arts Paths (due_now Paths n) (second_refusal arts n now))
          (one Plain (due_now Plain n) (signer_refusal n.signer)) (one Paths (due_now Paths n) (second_refusal arts n now)));
      lives = settled_lives arts Paths (after_plain arts n now) (due_now Paths n) (second_refusal arts n now)
          ∙ settled_lives arts Plain (at_time n now) (due_now Plain n) (signer_refusal n.signer);
      me = ap (λ (p : PrioState). p.me) same;
      nodes = ap (λ (p : PrioState). p.nodes) same;
      windows = ap (λ (p : PrioState). p.windows) same;
    })
  where
    one : (kind : FlowKind) (o : Option Ack) (r : Option SendRefused) → Mute (ack_effects arts kind o r)
    one kind None r = mute_none
    one kind (Some ack) (Some refusal) = mute_none
    one kind (Some ack) None = mute_signed (arts.spell (ack_body kind ack)) [] mute_none

    same : (after_tick arts n now).parts.prio ≡ prio.expired n.parts.prio (time_after n now)
    same =
        settled_prio arts Paths (after_plain arts n now) (due_now Paths n) (second_refusal arts n now)
        ∙ settled_prio arts Plain (at_time n now) (due_now Plain n) (signer_refusal n.signer)
calm_step arts n (steps.SendRel dst payload) output after is step = go (rel_refusal n dst) (ap (λ (o : Output). o.effects) step.0) step.1
  where
    go : (r : Option SendRefused) → output.effects ≡ (refused_send r (accepted (rel_number n dst) (rel_sent arts n dst payload))).effects
        → after ≡ kept_or r n (signed_once n (record n.parts { rel = pushed_in n.parts.rel (signed_now arts n (rel_body n dst payload)) }))
        → Calm n after output.effects
    go None e f =
        calm_as n (signed_once n (record n.parts { rel = pushed_in n.parts.rel (signed_now arts n (rel_body n dst payload)) })) after
        (rel_sent arts n dst payload) output.effects e f
        (record { mute = mute_signed (arts.spell (rel_body n dst payload)) [] mute_none; lives = refl; me = refl; nodes = refl; windows = refl })
    go (Some refused) e f = calm_as n n after [] output.effects e f (calm_none n)
calm_step arts n (steps.SetWeight v weight) output after is step = go (weight_refusal n v weight) (ap (λ (o : Output). o.effects) step.0) step.1
  where
    body : Body
    body = weight_body n v weight

    go : (r : Option SendRefused) → output.effects ≡ (refused_send r (accepted (weight_number n v) (weight_sent arts n v weight))).effects
        → after ≡ kept_or r n (signed_once n (record n.parts { weights = held n.parts.weights (signed_now arts n (weight_body n v weight)) }))
        → Calm n after output.effects
    go None e f =
        calm_as n (signed_once n (record n.parts { weights = held n.parts.weights (signed_now arts n (weight_body n v weight)) })) after
        (weight_sent arts n v weight) output.effects e f
        (record {
          mute = mute_signed (arts.spell (weight_body n v weight)) (weight_effects (weight_body n v weight)) (mute_weight (weight_body n v weight));
          lives = refl;
          me = refl;
          nodes = refl;
          windows = refl;
        })
    go (Some refused) e f = calm_as n n after [] output.effects e f (calm_none n)
calm_step arts n (steps.SendKrel m) output after is step = go (send_krel_refusal n m step.choice) (ap (λ (o : Output). o.effects) step.output_is) step.new_is
  where
    sent : NodeState
    sent = signed_once n (record n.parts { kflow = pushed n.parts.kflow (signed_now arts n (krel_sends n m step.choice)) m.paths })

    go : (r : Option SendRefused) → output.effects ≡ (refused_send r (accepted (krel_number n m.dst) (krel_sent arts n m step.choice))).effects
        → after ≡ kept_or r n sent → Calm n after output.effects
    go None e f =
        calm_as n sent after (krel_sent arts n m step.choice) output.effects e f
        (record { mute = mute_signed (arts.spell (krel_sends n m step.choice)) [] mute_none; lives = refl; me = refl; nodes = refl; windows = refl })
    go (Some refused) e f = calm_as n n after [] output.effects e f (calm_none n)
calm_step arts n (steps.TakeKrel src) output after is step =
    calm_as n _ after [] output.effects (ap (λ (o : Output). o.effects) step.0) step.1
    (record { mute = mute_none; lives = refl; me = refl; nodes = refl; windows = refl })
calm_step arts n (steps.TakeRel src) output after is step =
    calm_as n _ after [] output.effects (ap (λ (o : Output). o.effects) step.0) step.1
    (record { mute = mute_none; lives = refl; me = refl; nodes = refl; windows = refl })
calm_step arts n steps.TakePrio output after is step =
    calm_as n _ after (gone 0 Taken (oldest n.parts.prio.inbox)) output.effects (ap (λ (o : Output). o.effects) step.0) step.1
    (record { mute = mute_gone 0 Taken (oldest n.parts.prio.inbox); lives = refl; me = refl; nodes = refl; windows = refl })
calm_step arts n (steps.Publish document) output after is step =
    calm_as n _ after (publish_effects arts n document) output.effects (ap (λ (o : Output). o.effects) step.0) step.1
    (publishing arts n document (λ m told. Calm n m told) (calm_none n) (λ d reads by. version_calm n document d.topology))
calm_step arts n (steps.Datagram v bytes) output after is step = absurd is
calm_step arts n (steps.SendPrio m) output after is step = absurd is

-- ---- each step at d

module _ (C : Type 0) (s d : NodeId) (boot : ℕ) (S : List Message) (told : List ℕ) (arts : Arts) (n : NodeState) (output : Output) (after : NodeState)
    (holding : held_boot n.parts.lives s ≡ boot) (h : PrioIs s d told n.parts.prio) where
  abbrev Came : NodeState → List Effect → Type 0
  Came m es = PrioCame C s d boot S told m.parts.lives m.parts.prio es

  same_came : (es : List Effect) → Mute es → after.parts.lives ≡ n.parts.lives → PrioIs s d told after.parts.prio → Came after es
  same_came es mute lives is =
      came_same C s d boot S told after.parts.lives after.parts.prio es (ap (λ (ls : List Life). held_boot ls s) lives ∙ holding)
      (muted C s d boot S told after.parts.prio es mute is)

  came_as : (done : NodeState) (es : List Effect) → output.effects ≡ es → after ≡ done → Came done es → Came after output.effects
  came_as done es e f came = subst (Came after) (sym e) (subst (λ (m : NodeState). Came m es) (sym f) came)

  calm_came : (i : Input) → IsCalm i → NodeStep arts n i output after → Came after output.effects
  calm_came i is step =
      let calm = calm_step arts n i output after is step in
      same_came output.effects calm.mute calm.lives (same_windows s d told n.parts.prio after.parts.prio calm.me calm.nodes calm.windows h)

  -- nothing more is told
  came_on : (left done : NodeState) (es more : List Effect) → Calm left done more → Came left es → Came done (es ++ more)
  came_on left done es more calm came =
      let same : flat_map (prio_by s) (es ++ more) ≡ flat_map (prio_by s) es =
      flat_map-append (prio_by s) es more ∙ ap (λ t. flat_map (prio_by s) es ++ t) (calm.mute.none s) ∙ append-nil (flat_map (prio_by s) es) in
      record {
        ends = subst (λ (ms : List Message). PrioEnds s d boot (told_and ms) done.parts.lives done.parts.prio) (sym same) (go _ came.ends);
        once = subst (λ (ms : List Message). AreOnce (told_and ms)) (sym same) came.once;
        sent = λ k. subst (All (Contains S)) (sym same) (came.sent k);
      }
    where
      told_and : List Message → List ℕ
      told_and ms = told ++ map (λ (m : Message). m.0) ms

      go : (t : List ℕ) → PrioEnds s d boot t left.parts.lives left.parts.prio → PrioEnds s d boot t done.parts.lives done.parts.prio
      go t (Same_life held is) =
          Same_life (ap (λ (ls : List Life). held_boot ls s) calm.lives ∙ held)
          (same_windows s d t left.parts.prio done.parts.prio calm.me calm.nodes calm.windows is)
      go t (Next_life above is) =
          Next_life (subst (λ (ls : List Life). boot < held_boot ls s) (sym calm.lives) above)
          (same_windows s d [] left.parts.prio done.parts.prio calm.me calm.nodes calm.windows is)

  greeted_is : (epochs risen : Bool) (v : NodeId) → PrioIs s d told (greeted epochs risen v n.parts).prio
  greeted_is true true v = same_windows s d told n.parts.prio _ refl refl refl h
  greeted_is true false v = h
  greeted_is false risen v = h

  datagram_came : (v : NodeId) (bytes : List ℕ) → NodeStep arts n (steps.Datagram v bytes) output after → NewKeep (VouchedPrio C s d boot S) output.answered
      → Came after output.effects
  datagram_came v bytes step new =
      go (call_refusal n v) (subst (λ (o : Output). NewKeep (VouchedPrio C s d boot S) o.answered) step.0 new) (ap (λ (o : Output). o.effects) step.0) step.1
    where
      risen : Bool
      risen = has_risen (link_in n v) (link_after arts n v bytes)

      go : (r : Option NodeRefused) → NewKeep (VouchedPrio C s d boot S) (refused_call r (arrived arts n v bytes)).answered
          → output.effects ≡ (refused_call r (arrived arts n v bytes)).effects
          → after ≡ kept_or r n (read_by arts (before_document arts n v bytes) (document_at arts n v bytes)) → Came after output.effects
      go None new e f =
          let left = before_document arts n v bytes in
          let document = document_at arts n v bytes in
          came_as (read_by arts left document) ((handled arts n v bytes).effects ++ document_effects arts left document) e f
          (came_on left (read_by arts left document) (handled arts n v bytes).effects (document_effects arts left document) (document_calm arts left document)
          (all_came C s d boot S told arts (arrival_at n v) (parts_met arts n v bytes) (pieces_at arts n v bytes)
          (last_where (reply_at arts n v bytes) n.fixed (sections_in arts n.fixed bytes))
          (ap (λ (ls : List Life). held_boot ls s) (greeted_lives n.fixed.epochs (has_risen (link_in n v) (link_after arts n v bytes)) v n.parts) ∙ holding) new
          (greeted_is n.fixed.epochs (has_risen (link_in n v) (link_after arts n v bytes)) v)))
      go (Some refused) new e f =
          came_as n [] e f (came_same C s d boot S told n.parts.lives n.parts.prio [] holding (muted C s d boot S told n.parts.prio [] mute_none h))

  first_false : (a b c e : Bool) (q : SendRefused) (o : Option SendRefused) → cond (a || b || c || e) (Some q) o ≡ None → a ≡ false
  first_false true b c e q o none = absurd (cc)
  first_false false b c e q o none = refl

  -- an own message is for another node
  prio_came : (m : PrioSend) → NodeStep arts n (steps.SendPrio m) output after → n.fixed.me ≡ d → Came after output.effects
  prio_came m step me = go (send_prio_refusal n m step.choice) refl (ap (λ (o : Output). o.effects) step.output_is) step.new_is
    where
      go : (r : Option SendRefused) → send_prio_refusal n m step.choice ≡ r
          → output.effects ≡ (refused_send r (accepted n.parts.prio.next (prio_told arts n m step.choice))).effects
          → after ≡ kept_or r n (signed_once n (record n.parts { prio = admit_prio n.parts.prio (own_prio arts n m step.choice) None }))
          → Came after output.effects
      go None free e f =
          let p = n.parts.prio in
          let o = own_prio arts n m step.choice in
          let other : (m.dst.0 == n.fixed.me.0) ≡ false =
          first_false (m.dst.0 == n.fixed.me.0) (not (prio.is_there n.parts.prio m.dst.0)) (not (prio.is_there n.parts.prio n.fixed.me.0)) (is_unmet n m.dst) _
          _
          (either (prio_refusal n m) (no_paths step.choice) free).0 in
          let away : is_here p o.body ≡ false = ap (λ k. m.dst.0 == k) (h.me ∙ ap (λ (v : NodeId). v.0) (sym me)) ∙ other in
          let mute : Mute (prio_told arts n m step.choice) = mute_signed (arts.spell o.body) (prio_effects p o None) (mute_own p o away) in
          let same = spread_same (marked p o.body None) o None in
          came_as (signed_once n (record n.parts { prio = admit_prio n.parts.prio (own_prio arts n m step.choice) None })) (prio_told arts n m step.choice) e f
          (came_same C s d boot S told n.parts.lives (admit_prio p o None) (prio_told arts n m step.choice) holding
          (muted C s d boot S told (admit_prio p o None) (prio_told arts n m step.choice) mute
          (marks s d told p (admit_prio p o None) n.fixed.me.0 p.next same.0 same.1 same.2 h)))
      go (Some refused) free e f =
          came_as n [] e f (came_same C s d boot S told n.parts.lives n.parts.prio [] holding (muted C s d boot S told n.parts.prio [] mute_none h))

  pub step_came : (i : Input) → NodeStep arts n i output after → NewKeep (VouchedPrio C s d boot S) output.answered → n.fixed.me ≡ d → Came after output.effects
  step_came (steps.Datagram v bytes) step new me = datagram_came v bytes step new
  step_came (steps.SendPrio m) step new me = prio_came m step me
  step_came (steps.Poll v) step new me = calm_came (steps.Poll v) tt step
  step_came (steps.Tick now) step new me = calm_came (steps.Tick now) tt step
  step_came (steps.SendRel dst payload) step new me = calm_came (steps.SendRel dst payload) tt step
  step_came (steps.SetWeight v weight) step new me = calm_came (steps.SetWeight v weight) tt step
  step_came (steps.TakeRel src) step new me = calm_came (steps.TakeRel src) tt step
  step_came (steps.SendKrel m) step new me = calm_came (steps.SendKrel m) tt step
  step_came (steps.TakeKrel src) step new me = calm_came (steps.TakeKrel src) tt step
  step_came steps.TakePrio step new me = calm_came steps.TakePrio tt step
  step_came (steps.Publish document) step new me = calm_came (steps.Publish document) tt step

-- ---- a client's priority message

-- what is sent, where it isn't refused
abbrev pub sent_if : (s d u : NodeId) → Option SendRefused → NodeState → PrioSend → List Message
sent_if s d u None n m = cond (u.0 == s.0 && m.dst.0 == d.0) ((n.parts.prio.next, m.payload) ∷ []) []
sent_if s d u (Some refused) n m = []

-- its source signs it under the boot that it holds of itself
pub prio_is_sent : (arts : Arts) (x : Setting) (P : Kept → Type 0) → ReadsBack arts → SettingFits arts x
    → (s d : NodeId) (n : NodeState) (m : PrioSend) (output : Output)
    (after : NodeState) (step : NodeStep arts n (steps.SendPrio m) output after) → InputFits (steps.SendPrio m) → NodeIs x P s n
    → (b : Prio) → IsTrue (arts.is_good (bodies.Prio b)) → b.dst ≡ d → is_among (arts.spell (bodies.Prio b)) (flat_map signed_by output.effects) ≡ true
    → (held_boot n.parts.lives s ≡ b.sboot) × Contains (sent_if s d s (send_prio_refusal n m step.choice) n m) (b.seq, b.payload)
prio_is_sent arts x P reads fits s d n m output after step sizes is b good_b dst among =
    go (send_prio_refusal n m step.choice) refl
    (subst (λ (es : List Effect). is_among (arts.spell (bodies.Prio b)) (flat_map signed_by es) ≡ true) (ap (λ (o : Output). o.effects) step.output_is) among)
  where
    go : (r : Option SendRefused) → send_prio_refusal n m step.choice ≡ r
        → is_among (arts.spell (bodies.Prio b))
        (flat_map signed_by (refused_send r (accepted n.parts.prio.next (prio_told arts n m step.choice))).effects) ≡ true
        → (held_boot n.parts.lives s ≡ b.sboot) × Contains (sent_if s d s r n m) (b.seq, b.payload)
    go None free there =
        let good = prio_good arts (sizes_at x P s) n m step.choice (arts_fit arts x P s n fits is) sizes free
        (step.is_choice (either (prio_refusal n m) (no_paths step.choice) free).0) is.holds in
        let p = n.parts.prio in
        let o = own_prio arts n m step.choice in
        let body = prio_body n m (mask_in step.choice) in
        let one : flat_map signed_by (prio_told arts n m step.choice) ≡ arts.spell body ∷ [] = ap (λ t. arts.spell body ∷ t)
        (quiet_prio p o None).no_signature in
        elim (among_cons (arts.spell (bodies.Prio b)) (arts.spell body) [] (subst (λ xs. is_among (arts.spell (bodies.Prio b)) xs ≡ true) one there)) [
          | inl same ↦
              let bodies_are : body ≡ bodies.Prio b = no_other_is_spelled_so arts reads body (bodies.Prio b) good good_b same in
              let me : n.fixed.me ≡ s = ap (λ (f : Fixed). f.me) is.fixed in
              let boot : held_boot n.parts.lives n.fixed.me ≡ b.sboot = ap (said (λ r. r.sboot)) bodies_are in
              let number : p.next ≡ b.seq = ap (said (λ r. r.seq)) bodies_are in
              let to : m.dst.0 ≡ b.dst.0 = ap (said (λ r. r.dst.0)) bodies_are in
              let payload : m.payload ≡ b.payload = cc in
              let now : sent_if s d s None n m ≡ (p.next, m.payload) ∷ [] = rw
              (eq-eqb s.0 s.0 refl, eq-eqb m.dst.0 d.0 (to ∙ ap (λ (v : NodeId). v.0) dst)) refl in (
                ap (held_boot n.parts.lives) (sym me) ∙ boot,
                subst (λ t. Contains t (b.seq, b.payload)) (sym now) (0, omega arith, ap₂ (λ (q : ℕ) (y : List ℕ). (q, y)) number payload),
              )
          | inr q ↦ absurd (let y : false ≡ true = q in cc)
        ]
    go (Some refused) free there = absurd (let y : false ≡ true = there in cc)

-- ---- what a step tells of a client's message

not_accepted : (s d from to : NodeId) (a b c : ℕ) (payload : List ℕ) (refused : SendRefused) (reply : Reply) → refused_word refused ≡ Some reply
    → prio_accepted_in s d (events.Prio from to a b c payload) reply ≡ []
not_accepted s d from to a b c payload (refusals.Full base have) reply e = let is : replies.Full base have ≡ reply = cc in subst
    (λ r. prio_accepted_in s d (events.Prio from to a b c payload) r ≡ []) is refl
not_accepted s d from to a b c payload (refusals.Expired now) reply e = let is : replies.Expired now ≡ reply = cc in subst
    (λ r. prio_accepted_in s d (events.Prio from to a b c payload) r ≡ []) is refl
not_accepted s d from to a b c payload (refusals.NoPaths found) reply e = let is : replies.NoPaths found ≡ reply = cc in subst
    (λ r. prio_accepted_in s d (events.Prio from to a b c payload) r ≡ []) is refl
not_accepted s d from to a b c payload (refusals.Low least) reply e = let is : replies.Low least ≡ reply = cc in subst
    (λ r. prio_accepted_in s d (events.Prio from to a b c payload) r ≡ []) is refl
not_accepted s d from to a b c payload (refusals.Spent index) reply e = let is : replies.Spent index ≡ reply = cc in subst
    (λ r. prio_accepted_in s d (events.Prio from to a b c payload) r ≡ []) is refl
not_accepted s d from to a b c payload (refusals.Busy other) reply e = let is : replies.Busy other ≡ reply = cc in subst
    (λ r. prio_accepted_in s d (events.Prio from to a b c payload) r ≡ []) is refl
not_accepted s d from to a b c payload refusals.BadEnd reply e = let is : replies.BadEnd ≡ reply = cc in subst
    (λ r. prio_accepted_in s d (events.Prio from to a b c payload) r ≡ []) is refl
not_accepted s d from to a b c payload (refusals.NotReserved bound) reply e = absurd (cc)
not_accepted s d from to a b c payload refusals.Memory reply e = absurd (cc)

pub accepted_is : (x : Setting) (arts : Arts) (s d from : NodeId) (number : ℕ) (m : PrioSend) (n : NodeState) (choice : Choice) (output : Output) (j : Entry)
    (r : Option SendRefused) → Says x number output j → output ≡ refused_send r (accepted n.parts.prio.next (prio_told arts n m choice))
    → prio_accepted_in s d (events.Prio from m.dst m.prio m.expiry m.paths m.payload) j.reply ≡ sent_if s d from r n m
accepted_is x arts s d from number m n choice output j None says e =
    let word : Some (replies.Accepted n.parts.prio.next) ≡ Some j.reply = sym (ap (λ (o : Output). reply_word x number o.reply) e) ∙ says.reply in
    let is : replies.Accepted n.parts.prio.next ≡ j.reply = cc in
    subst (λ q. prio_accepted_in s d (events.Prio from m.dst m.prio m.expiry m.paths m.payload) q ≡ cond (from.0 == s.0 && m.dst.0 == d.0)
    ((n.parts.prio.next, m.payload) ∷ []) [])
    is refl
accepted_is x arts s d from number m n choice output j (Some refused) says e =
    not_accepted s d from m.dst m.prio m.expiry m.paths m.payload refused j.reply (sym (ap (λ (o : Output). reply_word x number o.reply) e) ∙ says.reply)
