-- What each step tells and keeps of weights.
use Rattle.std.proofs.Common.{◌≡◌, ℕ, Bool, true, false, cond, List, [], ◌∷◌, ◌++◌, Option, Some, None, refl, sym, ap, subst, ◌∙◌, inl, inr, arith, filter, map}
use Rattle.std.specs.Prelude.{◌&&◌}
use Rattle.std.proofs.lemmas.Bool.{cases_Bool}
use Rattle.sp_base.specs.declared.id.NodeId.{NodeId}
use Rattle.sp_msg.specs.declared.body.Ack.{Ack}
use Rattle.sp_msg.specs.declared.body.Body.TheVariants as bodies
use Rattle.sp_msg.specs.declared.body.WeightBody.{WeightBody}
use Rattle.sp_msg.specs.declared.effect.Effect.{Effect}
use Rattle.sp_msg.specs.declared.effect.Effect.TheVariants as effects
use Rattle.sp_msg.specs.declared.effect.Why.TheVariants as whys
use Rattle.sp_msg.specs.declared.kept.Kept.{Kept}
use Rattle.sp_msg.specs.declared.refused.SendRefused.{SendRefused}
use Rattle.sp_rules.specs.Answers.{ack_answer, epoch_answer, is_new, prio_answer, weight_answer}
use Rattle.sp_rules.specs.Arrivals.{arrival_at, handled, has_risen, link_after, parts_met, before_document, document_at, read_by, unheard}
use Rattle.sp_rules.specs.Arts.{Arts}
use Rattle.sp_rules.specs.Documents.{after_publish, publish_effects, under_topology, version_effects}
use Rattle.sp_rules.specs.Flow.{ends, flow_said}
use Rattle.sp_rules.specs.Parts as parts
use Rattle.sp_rules.specs.Topologies.{is_shut, removed_of, weights_in}
use Rattle.sp_rules.specs.declared.store.Entry.{Entry}
use Rattle.sp_topology.specs.declared.topology.Topology.{Topology}
use Rattle.sp_rules.specs.Handle.{Arrival, ack_item, handle, handle_all, heard_where, met, met_effects, offer_to, rel_answer_to, rel_item, weight_effects}
use Rattle.sp_rules.specs.Kflow.{ack_body, pushed}
use Rattle.sp_rules.specs.KflowSends.{after_take_krel, krel_number, krel_sends, krel_sent, send_krel_refusal}
use Rattle.sp_rules.specs.Link.{advanced}
use Rattle.sp_rules.specs.Lives.{are_held, is_dated, judge_epoch, origin_said}
use Rattle.sp_rules.specs.Node.{NodeState, call_refusal, called, kept_or, link_in, signed_now, signed_once, with_link}
use Rattle.sp_rules.specs.Parts.{Fixed, Parts, flows_of, is_signed, nodes_of, with_flows}
use Rattle.sp_rules.specs.Pieces.{Piece, WeightPiece, PrioAckPiece, PrioPiece, ReportPiece, AckPiece, RelPiece, EpochPiece}
use Rattle.sp_rules.specs.Polls.{frame_to, polled, is_served, parts_after}
use Rattle.sp_rules.specs.Prio as prio
use Rattle.sp_rules.specs.Prio.{admit_prio, judge_prio, prio_effects}
use Rattle.sp_rules.specs.PrioPeer as rows
use Rattle.sp_rules.specs.Rel as rel
use Rattle.sp_rules.specs.Rel.{RelState, admit_ack, admit_rel, is_to, judge_ack_of, judge_rel_of, pushed_in, rel_effects, reported, restart_effects, settled}
use Rattle.sp_rules.specs.Sends.{after_take_prio, after_take_rel, mask_in, own_prio, prio_body, prio_sent, rel_body, rel_number, rel_refusal, rel_sent}
use Rattle.sp_rules.specs.Sends.{send_prio_refusal, signer_refusal, weight_body, weight_number, weight_refusal, weight_sent}
use Rattle.sp_rules.specs.Steps as steps
use Rattle.sp_rules.specs.Steps.{Input, NodeStep, Output, accepted, arrived, refused_call, refused_send, replied, document_effects}
use Rattle.sp_rules.specs.Store.{oldest}
use Rattle.sp_rules.specs.Ticks.{ack_effects, after_plain, after_tick, at_time, due_now, second_refusal, settled_by, tick_effects, time_after}
use Rattle.sp_rules.specs.Weights.{WeightState, held, row_for, replaced}
use Rattle.sp_rules.specs.declared.kflow.FlowKind.{FlowKind}
use Rattle.sp_rules.specs.declared.kflow.FlowKind.TheVariants.{Plain, Paths}
use Rattle.sp_rules.specs.declared.answers.Item.TheVariants as items
use Rattle.sp_rules.specs.declared.answers.PrioAnswer.{PrioAnswer}
use Rattle.sp_rules.specs.declared.answers.PrioAnswer.TheVariants as prios
use Rattle.sp_rules.specs.declared.node.NodeRefused.{NodeRefused}
use Rattle.sp_topology.specs.declared.topology.Edge.{Edge}
use Rattle.laws_node.specs.About.{HasNode}
use Rattle.laws_node.specs.Inputs.{InputFits}
use Rattle.laws_node.specs.Asked.{IsOwn, NewKeep}
use Rattle.laws_node.proofs.AskedLemmas.{new_left, new_right}
use Rattle.laws_node.proofs.FlowKinds.{weights_beside}
use Rattle.laws_node.proofs.Handles as judged
use Rattle.laws_node.proofs.About.{weight_about}
use Rattle.laws_node.proofs.Own.{in_own_format, left, weight_sent_fits}
use Rattle.laws_node.proofs.LastWeights.{HasRows, new_at}
use Rattle.laws_node.proofs.Adopting.{publishing, reading}
use Rattle.laws_node.proofs.Tables.{cond_either}
use Rattle.sp_runs.specs.Settings.{Setting}
use Rattle.laws_runs.specs.Signs.{NodeIs, sizes_at}
use Rattle.laws_runs.proofs.Lists.{both}
use Rattle.laws_runs.proofs.NoStarts.{pieces_at}
use Rattle.laws_runs.proofs.WeightFacts.{NoUpdates, no_acked, no_both, no_either, no_expired, no_gone, no_none, no_prio}
use Rattle.laws_runs.proofs.WeightFacts.{no_ending, no_rel, no_restart, no_signed, no_flat}
use Rattle.laws_runs.proofs.WeightTurns.{WTurns, w_same, w_on, held_turns, offered, own_at}

-- ---- pieces

w_either : (t : Bool) (x p : Parts) → x.weights ≡ p.weights → (cond t x p).weights ≡ p.weights
w_either true x p e = e
w_either false x p e = refl

w_heard : (answer : PrioAnswer) (v : NodeId) (number : ℕ) (p : Parts) → (heard_where answer v number p).weights ≡ p.weights
w_heard prios.New v number p = refl
w_heard prios.Seen v number p = refl
w_heard prios.BadEnd v number p = refl
w_heard prios.Expired v number p = refl
w_heard prios.BadSig v number p = refl
w_heard prios.Epoch v number p = refl

-- the frame of another life of its neighbour changes no weight
w_greeted : (t : Bool) (v : NodeId) (p : Parts) → (cond t (unheard v p) p).weights ≡ p.weights
w_greeted t v p = w_either t (unheard v p) p refl

module _ (P : WeightBody → Type 0) where
  still : (p : Parts) (w : WeightState) (es : List Effect) → NoUpdates es → w ≡ p.weights → HasRows p.weights → WTurns P p.weights es w
  still p w es none e h = w_same P p.weights w es none (ap (λ (s : WeightState). s.edges) e) (ap (λ (s : WeightState). s.rows) e) h

  one_turns : (arts : Arts) (at : Arrival) (p : Parts) (piece : Piece)
      → NewKeep (λ o. (u : WeightBody) → o.body ≡ bodies.Weight u → P u) (handle arts at p piece).answered → HasRows p.weights
      → WTurns P p.weights (handle arts at p piece).effects (handle arts at p piece).parts.weights
  one_turns arts at p (WeightPiece o) new h =
      elim (cases_Bool (is_new (items.Weight (weight_answer (is_signed arts at.fixed o) (offer_to at.fixed.me p.weights o.body))))) [
        | inl t ↦
            let is = judged.new_weight (is_signed arts at.fixed o) (offer_to at.fixed.me p.weights o.body) t in
            let done = held_turns P p.weights o (new_at p.weights o.body (offered at.fixed.me p.weights o.body is.1)) (new.0 t) h in
            rw t done
        | inr t ↦ let same = still p p.weights [] no_none refl h in rw t same
      ]
  one_turns arts at p (PrioAckPiece number) new h =
      still p p.weights (prio.acked_effects p.prio at.from.0 number) (no_acked p.prio at.from.0 number) refl h
  one_turns arts at p (PrioPiece number o) new h =
      let answer = prio_answer (is_signed arts at.fixed o) (is_dated p.lives o.body) (judge_prio p.prio o.body at.now) in
      let t = is_new (items.Prio answer) in
      let admitted = record p { prio = admit_prio p.prio o (Some at.from) } in
      still p (heard_where answer at.from number (cond t admitted p)).weights (cond t (prio_effects p.prio o (Some at.from)) [])
      (no_either t (prio_effects p.prio o (Some at.from)) (no_prio p.prio o (Some at.from)))
      (w_heard answer at.from number (cond t admitted p) ∙ w_either t admitted p refl) h
  one_turns arts at p (ReportPiece kind flow sboot dboot base have) new h =
      let r = reported (flows_of kind p) at.from flow base have in
      still p (handle arts at p (ReportPiece kind flow sboot dboot base have)).parts.weights [] no_none
      (w_either (are_held p.lives flow sboot dboot) (with_flows kind r p) p (weights_beside kind r p)) h
  one_turns arts at p (AckPiece kind flow o) new h =
      let r = flows_of kind p in
      let t = is_new (ack_item kind (ack_answer (is_signed arts at.fixed o) (is_dated p.lives o.body) (judge_ack_of r flow o.body))) in
      still p (cond t (with_flows kind (admit_ack r o) p) p).weights (cond t [] []) (no_either t [] no_none)
      (w_either t (with_flows kind (admit_ack r o) p) p (weights_beside kind (admit_ack r o) p)) h
  one_turns arts at p (RelPiece kind flow o) new h =
      let r = flows_of kind p in
      let t = is_new (rel_item kind (rel_answer_to arts at p (judge_rel_of r flow o.body) o)) in
      still p (cond t (with_flows kind (admit_rel r o) p) p).weights (cond t (rel_effects r o) [])
      (no_either t (rel_effects r o) (no_rel (is_to r (flow_said o.body)) o.body))
      (w_either t (with_flows kind (admit_rel r o) p) p (weights_beside kind (admit_rel r o) p)) h
  one_turns arts at p (EpochPiece o) new h =
      let t = is_new (items.Epoch (epoch_answer (is_signed arts at.fixed o) (judge_epoch at.fixed.me p.lives o.body))) in
      let v = origin_said o.body in
      let ended = restart_effects Plain p.rel v in
      let paths = restart_effects Paths p.kflow.flows v in
      still p (cond t (met p o) p).weights (cond t (met_effects p v) [])
      (no_either t (met_effects p v) (no_both ended paths (no_restart Plain p.rel v) (no_restart Paths p.kflow.flows v))) (w_either t (met p o) p refl) h

  all_turns : (arts : Arts) (at : Arrival) (p : Parts) (pieces : List Piece)
      → NewKeep (λ o. (u : WeightBody) → o.body ≡ bodies.Weight u → P u) (handle_all arts at p pieces).answered → HasRows p.weights
      → WTurns P p.weights (handle_all arts at p pieces).effects (handle_all arts at p pieces).parts.weights
  all_turns arts at p [] new h = still p p.weights [] no_none refl h
  all_turns arts at p (piece ∷ pieces) new h =
      let first = handle arts at p piece in
      let others = handle_all arts at first.parts pieces in
      let one = one_turns arts at p piece (new_left (λ o. (u : WeightBody) → o.body ≡ bodies.Weight u → P u) first.answered others.answered new) h in
      let rest =
      all_turns arts at first.parts pieces (new_right (λ o. (u : WeightBody) → o.body ≡ bodies.Weight u → P u) first.answered others.answered new) one.rows in
      w_on P p.weights first.parts.weights others.parts.weights first.effects others.effects one rest

-- ---- another version of the topology

no_leaving : (place : ℕ) (es : List Entry) → NoUpdates (map (λ e. effects.Gone place e.id whys.Withdrawn) es)
no_leaving place [] = no_none
no_leaving place (e ∷ es) = let rest = no_leaving place es in record { last = λ edge end w. rest.last edge end w; each = λ P. rest.each P }

no_ended : (kind : FlowKind) (gone : List NodeId) (r : RelState) → NoUpdates (rel.closed_effects kind r gone)
no_ended kind gone r =
    no_flat (rel.ended_effect kind gone)
    (λ f. no_either (f.active && rel.is_over gone (ends f)) (rel.ending kind (ends f) ∷ []) (no_ending kind (ends f))) r.flows

no_closed : (p : Parts) (least : List ℕ) (gone : List NodeId) → NoUpdates (parts.closed_effects p least gone)
no_closed p least gone =
    let plain = rel.closed_effects Plain p.rel gone in
    let paths = rel.closed_effects Paths p.kflow.flows gone in
    no_both (prio.closed_effects p.prio least gone) (plain ++ paths)
    (no_flat (rows.closed_effects least gone) (λ q. no_leaving q.peer (filter (rows.leaves (is_shut least q.edge) gone) q.store.entries)) p.prio.peers)
    (no_both plain paths (no_ended Plain gone p.rel) (no_ended Paths gone p.kflow.flows))

version_turns : (P : WeightBody → Type 0) (n : NodeState) (bytes : List ℕ) (t : Topology) → HasRows n.parts.weights
    → WTurns P n.parts.weights (version_effects n t) (under_topology n bytes t).parts.weights
version_turns P n bytes t h =
    let least = weights_in t.edges in
    let gone = removed_of (nodes_of t) t.edges in
    let none = no_closed n.parts least gone in
    w_same P n.parts.weights (replaced n.parts.weights least) (version_effects n t)
    (record { last = λ edge end w. none.last edge end w; each = λ Q. none.each Q }) refl refl h

publish_turns : (P : WeightBody → Type 0) (arts : Arts) (n : NodeState) (bytes : List ℕ) → HasRows n.parts.weights
    → WTurns P n.parts.weights (publish_effects arts n bytes) (after_publish arts n bytes).parts.weights
publish_turns P arts n bytes h =
    publishing arts n bytes (λ m told. WTurns P n.parts.weights told m.parts.weights)
    (w_same P n.parts.weights n.parts.weights [] no_none refl refl h) (λ d reads by. version_turns P n bytes d.topology h)

read_turns : (P : WeightBody → Type 0) (arts : Arts) (n : NodeState) (document : Option (List ℕ)) → HasRows n.parts.weights
    → WTurns P n.parts.weights (document_effects arts n document) (read_by arts n document).parts.weights
read_turns P arts n document h =
    reading arts n document (λ m told. WTurns P n.parts.weights told m.parts.weights)
    (w_same P n.parts.weights n.parts.weights [] no_none refl refl h) (λ bytes d is reads by. version_turns P n bytes d.topology h)

-- ---- all cases

module _ (x : Setting) (arts : Arts) (K : Kept → Type 0) (P : WeightBody → Type 0) (u : NodeId) where
  abbrev Done : NodeState → Output → NodeState → Type 0
  Done n output after = WTurns P n.parts.weights output.effects after.parts.weights

  by : (n : NodeState) (output : Output) (after m : NodeState) (es : List Effect) → output.effects ≡ es → after ≡ m
      → WTurns P n.parts.weights es m.parts.weights → Done n output after
  by n output after m es e f turns =
      subst (λ xs. WTurns P n.parts.weights xs after.parts.weights) (sym e)
      (subst (λ (y : NodeState). WTurns P n.parts.weights es y.parts.weights) (sym f) turns)

  plain : (n : NodeState) (es : List Effect) → NoUpdates es → HasRows n.parts.weights → WTurns P n.parts.weights es n.parts.weights
  plain n es none h = w_same P n.parts.weights n.parts.weights es none refl refl h

  pub turned : (n : NodeState) (i : Input) (output : Output) (after : NodeState) → NodeStep arts n i output after → InputFits i → NodeIs x K u n
      → NewKeep (λ o. (v : WeightBody) → o.body ≡ bodies.Weight v → P v) output.answered
      → ((index : ℕ) (v : WeightBody) → IsOwn arts n i output.effects index (bodies.Weight v) → P v) → HasRows n.parts.weights → Done n output after
  turned n (steps.Poll v) output after step input is new own h = go (call_refusal n v) (ap (λ (o : Output). o.effects) step.0) step.1
    where
      go : (r : Option NodeRefused) → output.effects ≡ (refused_call r (replied (steps.Frame (frame_to arts n v)))).effects
          → after ≡ kept_or r n (called n (with_link n v (advanced (link_in n v))) (parts_after n v)) → Done n output after
      go None e f =
          by n output after (called n (with_link n v (advanced (link_in n v))) (parts_after n v)) [] e f
          (cond_either (λ (p : Parts). WTurns P n.parts.weights [] p.weights) (is_served n v) (polled n.fixed n.parts v) n.parts
          (w_same P n.parts.weights (polled n.fixed n.parts v).weights [] no_none refl refl h) (plain n [] no_none h))
      go (Some refused) e f = by n output after n [] e f (plain n [] no_none h)
  turned n (steps.Datagram v bytes) output after step input is new own h =
      go (call_refusal n v) (subst (λ (o : Output). NewKeep (λ y. (w : WeightBody) → y.body ≡ bodies.Weight w → P w) o.answered) step.0 new)
      (ap (λ (o : Output). o.effects) step.0) step.1
    where
      go : (r : Option NodeRefused) → NewKeep (λ y. (w : WeightBody) → y.body ≡ bodies.Weight w → P w) (refused_call r (arrived arts n v bytes)).answered
          → output.effects ≡ (refused_call r (arrived arts n v bytes)).effects
          → after ≡ kept_or r n (read_by arts (before_document arts n v bytes) (document_at arts n v bytes)) → Done n output after
      go None new e f =
          let left = before_document arts n v bytes in
          let document = document_at arts n v bytes in
          let met = w_greeted (n.fixed.epochs && has_risen (link_in n v) (link_after arts n v bytes)) v n.parts in
          let one : WTurns P n.parts.weights (handled arts n v bytes).effects (handled arts n v bytes).parts.weights =
          subst (λ (s : WeightState). WTurns P s (handled arts n v bytes).effects (handled arts n v bytes).parts.weights) met
          (all_turns P arts (arrival_at n v) (parts_met arts n v bytes) (pieces_at arts n v bytes) new (subst HasRows (sym met) h)) in
          by n output after (read_by arts left document) ((handled arts n v bytes).effects ++ document_effects arts left document) e f
          (w_on P n.parts.weights left.parts.weights (read_by arts left document).parts.weights (handled arts n v bytes).effects
          (document_effects arts left document) one (read_turns P arts left document one.rows))
      go (Some refused) new e f = by n output after n [] e f (plain n [] no_none h)
  turned n (steps.Tick now) output after step input is new own h =
      by n output after (after_tick arts n now) (tick_effects arts n now) (ap (λ (o : Output). o.effects) step.0) step.1
      (w_same P n.parts.weights (after_tick arts n now).parts.weights (tick_effects arts n now) silent (ap (λ (s : WeightState). s.edges) same)
      (ap (λ (s : WeightState). s.rows) same) h)
    where
      none : (kind : FlowKind) (o : Option Ack) (r : Option SendRefused) → NoUpdates (ack_effects arts kind o r)
      none kind None r = no_none
      none kind (Some ack) (Some refusal) = no_none
      none kind (Some ack) None = no_signed (arts.spell (ack_body kind ack)) [] no_none

      silent : NoUpdates (tick_effects arts n now)
      silent =
          no_both (prio.expired_effects n.parts.prio (time_after n now)) _ (no_expired n.parts.prio (time_after n now))
          (no_both _ _ (none Plain (due_now Plain n) (signer_refusal n.signer)) (none Paths (due_now Paths n) (second_refusal arts n now)))

      settled_weights : (kind : FlowKind) (m : NodeState) (o : Option Ack) (r : Option SendRefused)
          → (settled_by arts kind m o r).parts.weights ≡ m.parts.weights
      settled_weights kind m None r = refl
      settled_weights kind m (Some ack) (Some refusal) = refl
      settled_weights kind m (Some ack) None = weights_beside kind (settled (flows_of kind m.parts) (signed_now arts m (ack_body kind ack))) m.parts

      same : (after_tick arts n now).parts.weights ≡ n.parts.weights
      same =
          settled_weights Paths (after_plain arts n now) (due_now Paths n) (second_refusal arts n now)
          ∙ settled_weights Plain (at_time n now) (due_now Plain n) (signer_refusal n.signer)
  turned n (steps.SendRel dst payload) output after step input is new own h = go (rel_refusal n dst) (ap (λ (o : Output). o.effects) step.0) step.1
    where
      go : (r : Option SendRefused) → output.effects ≡ (refused_send r (accepted (rel_number n dst) (rel_sent arts n dst payload))).effects
          → after ≡ kept_or r n (signed_once n (record n.parts { rel = pushed_in n.parts.rel (signed_now arts n (rel_body n dst payload)) }))
          → Done n output after
      go None e f =
          by n output after (signed_once n (record n.parts { rel = pushed_in n.parts.rel (signed_now arts n (rel_body n dst payload)) }))
          (rel_sent arts n dst payload) e f
          (w_same P n.parts.weights n.parts.weights (rel_sent arts n dst payload) (no_signed (arts.spell (rel_body n dst payload)) [] no_none) refl refl h)
      go (Some refused) e f = by n output after n [] e f (plain n [] no_none h)
  turned n (steps.SendPrio m) output after step input is new own h =
      go (send_prio_refusal n m step.choice) (ap (λ (o : Output). o.effects) step.output_is) step.new_is
    where
      go : (r : Option SendRefused) → output.effects ≡ (refused_send r (accepted n.parts.prio.next (prio_sent arts n m step.choice))).effects
          → after ≡ kept_or r n (signed_once n (record n.parts { prio = admit_prio n.parts.prio (own_prio arts n m step.choice) None })) → Done n output after
      go None e f =
          by n output after (signed_once n (record n.parts { prio = admit_prio n.parts.prio (own_prio arts n m step.choice) None }))
          (prio_sent arts n m step.choice) e f
          (w_same P n.parts.weights n.parts.weights (prio_sent arts n m step.choice)
          (no_signed (arts.spell (prio_body n m (mask_in step.choice))) (prio_effects n.parts.prio (own_prio arts n m step.choice) None)
          (no_prio n.parts.prio (own_prio arts n m step.choice) None)) refl refl h)
      go (Some refused) e f = by n output after n [] e f (plain n [] no_none h)
  turned n (steps.SetWeight v weight) output after step input is new own h = go (weight_refusal n v weight) refl (ap (λ (o : Output). o.effects) step.0) step.1
    where
      go : (r : Option SendRefused) → weight_refusal n v weight ≡ r
          → output.effects ≡ (refused_send r (accepted (weight_number n v) (weight_sent arts n v weight))).effects
          → after ≡ kept_or r n (signed_once n (record n.parts { weights = held n.parts.weights (signed_now arts n (weight_body n v weight)) }))
          → Done n output after
      go None free e f =
          let facts = weight_sent_fits (sizes_at x K u) n v weight input.0 input.1 free is.holds in
          let me : HasNode n.fixed.topology n.fixed.me = subst (λ (f : Fixed). HasNode f.topology f.me) (sym is.fixed) (both _ _ is.correct).0 in
          let body = weight_body n v weight in
          let o = signed_now arts n body in
          let row : row_for n.parts.weights.edges body ≡ Some facts.row = ap (λ (es : List Edge). row_for es body) is.holds.parts.weights.edges ∙ facts.place in
          let mine : (w : WeightBody) → body ≡ bodies.Weight w → P w = λ w same. own n.signer.index w
          (subst (IsOwn arts n (steps.SetWeight v weight) output.effects n.signer.index) same
          (record {
            mine = refl;
            fields = in_own_format (sizes_at x K u) n body is.holds facts.fields;
            about = weight_about n v weight me free;
            payload = refl;
            left = left n.signer is.holds.signer facts.free;
            before = [];
            after = weight_effects body;
            told = e;
            place = omega arith;
          })) in
          by n output after (signed_once n (record n.parts { weights = held n.parts.weights o })) (weight_sent arts n v weight) e f
          (w_on P n.parts.weights n.parts.weights (held n.parts.weights o) (effects.Signed (arts.spell body) ∷ []) (weight_effects body)
          (plain n (effects.Signed (arts.spell body) ∷ []) (no_signed (arts.spell body) [] no_none) h)
          (held_turns P n.parts.weights o (own_at n.parts.weights _ facts.row row) mine h))
      go (Some refused) free e f = by n output after n [] e f (plain n [] no_none h)
  turned n (steps.SendKrel m) output after step input is new own h =
      go (send_krel_refusal n m step.choice) (ap (λ (o : Output). o.effects) step.output_is) step.new_is
    where
      sent : NodeState
      sent = signed_once n (record n.parts { kflow = pushed n.parts.kflow (signed_now arts n (krel_sends n m step.choice)) m.paths })

      go : (r : Option SendRefused) → output.effects ≡ (refused_send r (accepted (krel_number n m.dst) (krel_sent arts n m step.choice))).effects
          → after ≡ kept_or r n sent → Done n output after
      go None e f =
          by n output after sent (krel_sent arts n m step.choice) e f
          (w_same P n.parts.weights n.parts.weights (krel_sent arts n m step.choice) (no_signed (arts.spell (krel_sends n m step.choice)) [] no_none) refl refl
          h)
      go (Some refused) e f = by n output after n [] e f (plain n [] no_none h)
  turned n (steps.TakeRel src) output after step input is new own h =
      by n output after (after_take_rel n src) [] (ap (λ (o : Output). o.effects) step.0) step.1 (plain n [] no_none h)
  turned n (steps.TakeKrel src) output after step input is new own h =
      by n output after (after_take_krel n src) [] (ap (λ (o : Output). o.effects) step.0) step.1 (plain n [] no_none h)
  turned n steps.TakePrio output after step input is new own h =
      by n output after (after_take_prio n) (rows.gone 0 whys.Taken (oldest n.parts.prio.inbox)) (ap (λ (o : Output). o.effects) step.0) step.1
      (w_same P n.parts.weights n.parts.weights (rows.gone 0 whys.Taken (oldest n.parts.prio.inbox))
      (no_gone 0 whys.Taken (oldest n.parts.prio.inbox)) refl refl h)
  turned n (steps.Publish document) output after step input is new own h =
      by n output after (after_publish arts n document) (publish_effects arts n document) (ap (λ (o : Output). o.effects) step.0) step.1
      (publish_turns P arts n document h)
