-- What each step tells of each place of the node.
use Rattle.laws_runs.specs.Places.{PlacesAre}
use Rattle.std.proofs.Common.{◌≡◌, ◌&&◌, List, [], ◌++◌, Option, Some, None, refl, sym, ap, subst, ◌∙◌}
use Rattle.sp_base.specs.declared.id.NodeId.{NodeId}
use Rattle.sp_msg.specs.Bodies.{HasGoodFieldsIn}
use Rattle.sp_msg.specs.declared.body.Ack.{Ack}
use Rattle.sp_msg.specs.declared.effect.Effect.{Effect}
use Rattle.sp_msg.specs.declared.effect.Effect.TheVariants as effects
use Rattle.sp_msg.specs.declared.effect.Why.TheVariants as whys
use Rattle.sp_msg.specs.declared.kept.Kept.{Kept}
use Rattle.sp_msg.specs.declared.refused.SendRefused.{SendRefused}
use Rattle.sp_rules.specs.Arrivals.{arrival_at, handled, has_risen, link_after, parts_met, before_document, document_at, read_by}
use Rattle.sp_rules.specs.Arts.{Arts}
use Rattle.sp_rules.specs.Documents.{after_publish, publish_effects}
use Rattle.sp_rules.specs.Handle.{weight_effects}
use Rattle.sp_rules.specs.Kflow.{pushed}
use Rattle.sp_rules.specs.KflowSends.{after_take_krel, krel_number, krel_sends, krel_sent, send_krel_refusal}
use Rattle.sp_rules.specs.Link.{advanced}
use Rattle.sp_rules.specs.Node.{NodeState, call_refusal, called, kept_or, link_in, signed_now, signed_once, with_link}
use Rattle.sp_rules.specs.Parts.{Parts}
use Rattle.sp_rules.specs.Polls.{frame_to, polled, is_served, parts_after}
use Rattle.sp_rules.specs.Prio as prio
use Rattle.sp_rules.specs.Prio.{PrioState, admit_prio, prio_effects}
use Rattle.sp_rules.specs.PrioPeer as rows
use Rattle.sp_rules.specs.Rel as rel
use Rattle.sp_rules.specs.Rel.{pushed_in}
use Rattle.sp_rules.specs.declared.kflow.FlowKind.{FlowKind}
use Rattle.sp_rules.specs.declared.kflow.FlowKind.TheVariants.{Plain, Paths}
use Rattle.sp_rules.specs.Sends.{after_take_prio, after_take_rel, mask_in, no_paths, own_prio, prio_body, prio_refusal, prio_sent, rel_body, rel_number}
use Rattle.sp_rules.specs.Sends.{rel_refusal, rel_sent, send_prio_refusal, signer_refusal, weight_body, weight_number, weight_refusal, weight_sent}
use Rattle.sp_rules.specs.Steps as steps
use Rattle.sp_rules.specs.Steps.{Input, NodeStep, Output, accepted, arrived, refused_call, refused_send, replied, document_effects}
use Rattle.sp_rules.specs.Store.{oldest}
use Rattle.sp_rules.specs.Ticks.{ack_effects, after_plain, after_tick, at_time, due_now, second_refusal, tick_effects, time_after}
use Rattle.sp_rules.specs.Weights.{held as held_weight}
use Rattle.sp_rules.specs.declared.node.NodeRefused.{NodeRefused}
use Rattle.laws_node.specs.Inputs.{InputFits}
use Rattle.laws_node.specs.Asked.{NewKeep}
use Rattle.laws_node.proofs.Carried.{pieces_new}
use Rattle.laws_node.proofs.Own.{either, prio_sent_fits}
use Rattle.laws_node.proofs.Arrived.{step_fields}
use Rattle.laws_node.proofs.Tables.{cond_either}
use Rattle.sp_runs.specs.Settings.{Setting, SettingFits}
use Rattle.laws_runs.specs.Signs.{NodeIs, sizes_at}
use Rattle.laws_runs.proofs.PlaceFacts.{AllAway, Turns, admitted_turns, turns_on, turns_same}
use Rattle.laws_runs.proofs.EachKind.{settled_prio}
use Rattle.laws_runs.proofs.Goods.{arts_fit}
use Rattle.laws_runs.proofs.NoStarts.{pieces_at}
use Rattle.laws_runs.proofs.StoreEffects.{Signs_it}
use Rattle.laws_runs.proofs.StoreEffects.{away_both}
use Rattle.laws_runs.proofs.PlaceTurns.{weight_away, none_away, small_of, greeted_turns, all_turns, carried_turns, expired_turns, taken_turns, publish_turns}
use Rattle.laws_runs.proofs.PlaceTurns.{read_turns, signed_turns}

-- ---- all cases

module _ (x : Setting) (arts : Arts) (fits : SettingFits arts x) (P : Kept → Type 0) (u : NodeId) where
  abbrev Done : NodeState → Output → NodeState → Type 0
  Done n output after = Turns x.store n.parts.prio output.effects after.parts.prio

  by : (n : NodeState) (output : Output) (after m : NodeState) (es : List Effect) → output.effects ≡ es → after ≡ m → Turns x.store n.parts.prio es m.parts.prio
      → Done n output after
  by n output after m es e f turns =
      subst (λ xs. Turns x.store n.parts.prio xs after.parts.prio) (sym e) (subst (λ (y : NodeState). Turns x.store n.parts.prio es y.parts.prio) (sym f) turns)

  still : (n : NodeState) → PlacesAre x.store n.parts.prio → Turns x.store n.parts.prio [] n.parts.prio
  still n h = turns_same x.store n.parts.prio n.parts.prio [] none_away refl refl h

  pub turned : (n : NodeState) (i : Input) (output : Output) (after : NodeState) → NodeStep arts n i output after → InputFits i → NodeIs x P u n
      → PlacesAre x.store n.parts.prio → Done n output after
  turned n (steps.Poll v) output after step input is h = go (call_refusal n v) (ap (λ (o : Output). o.effects) step.0) step.1
    where
      go : (r : Option NodeRefused) → output.effects ≡ (refused_call r (replied (steps.Frame (frame_to arts n v)))).effects
          → after ≡ kept_or r n (called n (with_link n v (advanced (link_in n v))) (parts_after n v)) → Done n output after
      go None e f =
          by n output after (called n (with_link n v (advanced (link_in n v))) (parts_after n v)) [] e f
          (cond_either (λ (p : Parts). Turns x.store n.parts.prio [] p.prio) (is_served n v) (polled n.fixed n.parts v) n.parts
          (carried_turns x.store x.topology.format n.parts.prio v.0 h) (still n h))
      go (Some refused) e f = by n output after n [] e f (still n h)
  turned n (steps.Datagram v bytes) output after step input is h = go (call_refusal n v) (ap (λ (o : Output). o.effects) step.0) step.1
    where
      news : NewKeep (λ o. HasGoodFieldsIn x.topology.format o.body) (handled arts n v bytes).answered
      news = pieces_new (λ y. HasGoodFieldsIn x.topology.format y.body) arts (arrival_at n v) (parts_met arts n v bytes) (pieces_at arts n v bytes)
          (step_fields (sizes_at x P u) arts n v bytes (arts_fit arts x P u n fits is) input is.holds)

      go : (r : Option NodeRefused) → output.effects ≡ (refused_call r (arrived arts n v bytes)).effects
          → after ≡ kept_or r n (read_by arts (before_document arts n v bytes) (document_at arts n v bytes)) → Done n output after
      go None e f =
          let left = before_document arts n v bytes in
          let document = document_at arts n v bytes in
          let first = greeted_turns x.store x.topology.format (n.fixed.epochs && has_risen (link_in n v) (link_after arts n v bytes)) v n.parts h in
          let one =
          turns_on x.store n.parts.prio (parts_met arts n v bytes).prio (handled arts n v bytes).parts.prio [] (handled arts n v bytes).effects first
          (all_turns x.store x.topology.format arts (arrival_at n v) (parts_met arts n v bytes) (pieces_at arts n v bytes) news first.are) in
          by n output after (read_by arts left document) ((handled arts n v bytes).effects ++ document_effects arts left document) e f
          (turns_on x.store n.parts.prio left.parts.prio (read_by arts left document).parts.prio (handled arts n v bytes).effects
          (document_effects arts left document) one (read_turns x.store x.topology.format arts left document one.are))
      go (Some refused) e f = by n output after n [] e f (still n h)
  turned n (steps.Tick now) output after step input is h =
      let t = expired_turns x.store x.topology.format n.parts.prio (time_after n now) h in
      by n output after (after_tick arts n now) (tick_effects arts n now) (ap (λ (o : Output). o.effects) step.0) step.1
      (turns_on x.store n.parts.prio (prio.expired n.parts.prio (time_after n now)) (after_tick arts n now).parts.prio
      (prio.expired_effects n.parts.prio (time_after n now)) _ t
      (turns_same x.store (prio.expired n.parts.prio (time_after n now)) (after_tick arts n now).parts.prio _ signs_away
      (ap (λ (p : PrioState). p.inbox) same) (ap (λ (p : PrioState). p.peers) same) t.are))
    where
      one : (kind : FlowKind) (o : Option Ack) (r : Option SendRefused) → AllAway (ack_effects arts kind o r)
      one kind None r = λ place. tt
      one kind (Some ack) (Some refusal) = λ place. tt
      one kind (Some ack) None = λ place. (Signs_it, tt)

      signs_away : AllAway
          (ack_effects arts Plain (due_now Plain n) (signer_refusal n.signer) ++ ack_effects arts Paths (due_now Paths n) (second_refusal arts n now))
      signs_away =
          λ place. away_both place (ack_effects arts Plain (due_now Plain n) (signer_refusal n.signer)) _
          (one Plain (due_now Plain n) (signer_refusal n.signer) place)
          (one Paths (due_now Paths n) (second_refusal arts n now) place)

      same : (after_tick arts n now).parts.prio ≡ prio.expired n.parts.prio (time_after n now)
      same =
          settled_prio arts Paths (after_plain arts n now) (due_now Paths n) (second_refusal arts n now)
          ∙ settled_prio arts Plain (at_time n now) (due_now Plain n) (signer_refusal n.signer)
  turned n (steps.SendRel dst payload) output after step input is h = go (rel_refusal n dst) (ap (λ (o : Output). o.effects) step.0) step.1
    where
      go : (r : Option SendRefused) → output.effects ≡ (refused_send r (accepted (rel_number n dst) (rel_sent arts n dst payload))).effects
          → after ≡ kept_or r n (signed_once n (record n.parts { rel = pushed_in n.parts.rel (signed_now arts n (rel_body n dst payload)) }))
          → Done n output after
      go None e f =
          by n output after (signed_once n (record n.parts { rel = pushed_in n.parts.rel (signed_now arts n (rel_body n dst payload)) }))
          (rel_sent arts n dst payload) e f
          (turns_same x.store n.parts.prio n.parts.prio (rel_sent arts n dst payload) (λ place. (Signs_it, tt)) refl refl h)
      go (Some refused) e f = by n output after n [] e f (still n h)
  turned n (steps.SendPrio m) output after step input is h =
      go (send_prio_refusal n m step.choice) refl (ap (λ (o : Output). o.effects) step.output_is) step.new_is
    where
      go : (r : Option SendRefused) → send_prio_refusal n m step.choice ≡ r
          → output.effects ≡ (refused_send r (accepted n.parts.prio.next (prio_sent arts n m step.choice))).effects
          → after ≡ kept_or r n (signed_once n (record n.parts { prio = admit_prio n.parts.prio (own_prio arts n m step.choice) None })) → Done n output after
      go None free e f =
          let facts =
          prio_sent_fits (sizes_at x P u) n m step.choice input free (step.is_choice (either (prio_refusal n m) (no_paths step.choice) free).0) is.holds in
          let body = prio_body n m (mask_in step.choice) in
          let o = own_prio arts n m step.choice in
          by n output after (signed_once n (record n.parts { prio = admit_prio n.parts.prio o None })) (prio_sent arts n m step.choice) e f
          (signed_turns x.store x.topology.format n.parts.prio (admit_prio n.parts.prio o None) (arts.spell body) (prio_effects n.parts.prio o None) h
          (admitted_turns x.store n.parts.prio o None tt (small_of x.topology.format body tt facts.fields) h))
      go (Some refused) free e f = by n output after n [] e f (still n h)
  turned n (steps.SetWeight v weight) output after step input is h = go (weight_refusal n v weight) (ap (λ (o : Output). o.effects) step.0) step.1
    where
      go : (r : Option SendRefused) → output.effects ≡ (refused_send r (accepted (weight_number n v) (weight_sent arts n v weight))).effects
          → after ≡ kept_or r n (signed_once n (record n.parts { weights = held_weight n.parts.weights (signed_now arts n (weight_body n v weight)) }))
          → Done n output after
      go None e f =
          by n output after (signed_once n (record n.parts { weights = held_weight n.parts.weights (signed_now arts n (weight_body n v weight)) }))
          (weight_sent arts n v weight) e f
          (signed_turns x.store x.topology.format n.parts.prio n.parts.prio (arts.spell (weight_body n v weight)) (weight_effects (weight_body n v weight)) h
          (turns_same x.store n.parts.prio n.parts.prio (weight_effects (weight_body n v weight)) (weight_away (weight_body n v weight)) refl refl h))
      go (Some refused) e f = by n output after n [] e f (still n h)
  turned n (steps.SendKrel m) output after step input is h = go (send_krel_refusal n m step.choice) (ap (λ (o : Output). o.effects) step.output_is) step.new_is
    where
      sent : NodeState
      sent = signed_once n (record n.parts { kflow = pushed n.parts.kflow (signed_now arts n (krel_sends n m step.choice)) m.paths })

      go : (r : Option SendRefused) → output.effects ≡ (refused_send r (accepted (krel_number n m.dst) (krel_sent arts n m step.choice))).effects
          → after ≡ kept_or r n sent → Done n output after
      go None e f =
          by n output after sent (krel_sent arts n m step.choice) e f
          (turns_same x.store n.parts.prio n.parts.prio (krel_sent arts n m step.choice) (λ place. (Signs_it, tt)) refl refl h)
      go (Some refused) e f = by n output after n [] e f (still n h)
  turned n (steps.TakeRel src) output after step input is h =
      by n output after (after_take_rel n src) [] (ap (λ (o : Output). o.effects) step.0) step.1 (still n h)
  turned n (steps.TakeKrel src) output after step input is h =
      by n output after (after_take_krel n src) [] (ap (λ (o : Output). o.effects) step.0) step.1 (still n h)
  turned n steps.TakePrio output after step input is h =
      by n output after (after_take_prio n) (rows.gone 0 whys.Taken (oldest n.parts.prio.inbox)) (ap (λ (o : Output). o.effects) step.0) step.1
      (taken_turns x.store x.topology.format n.parts.prio h)
  turned n (steps.Publish document) output after step input is h =
      by n output after (after_publish arts n document) (publish_effects arts n document) (ap (λ (o : Output). o.effects) step.0) step.1
      (publish_turns x.store x.topology.format arts n document h)
