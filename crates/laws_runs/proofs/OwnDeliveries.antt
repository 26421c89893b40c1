-- No node delivers a message of its own: the source of a flow takes none of it from others.
use Rattle.std.proofs.Common.{◌≡◌, ℕ, Bool, true, false, cond, List, [], ◌∷◌, ◌++◌, Option, Some, None, refl, sym, ap, subst, ◌∙◌, inl, inr}
use Rattle.std.specs.Prelude.{◌==◌}
use Rattle.std.specs.List.{flat_map}
use Rattle.std.proofs.lemmas.Bool.{cases_Bool, eq-eqb, eqb-true, ne_eqb}
use Rattle.std.proofs.lemmas.List.Concat.{flat_map-append}
use Rattle.sp_base.specs.declared.id.Flow.{Flow}
use Rattle.sp_base.specs.declared.id.NodeId.{NodeId}
use Rattle.sp_msg.specs.declared.body.Ack.{Ack}
use Rattle.sp_msg.specs.declared.body.Body.{Body}
use Rattle.sp_msg.specs.declared.body.Body.TheVariants as bodies
use Rattle.sp_msg.specs.declared.effect.Effect.{Effect}
use Rattle.sp_msg.specs.declared.effect.Effect.TheVariants.{Signed}
use Rattle.sp_msg.specs.declared.effect.Why.TheVariants.{Taken}
use Rattle.sp_msg.specs.declared.refused.SendRefused.{SendRefused}
use Rattle.sp_rules.proofs.FlowJudged.{new_rel, same_flow}
use Rattle.sp_rules.specs.Answers.{ack_answer, is_new, prio_answer, rel_answer, weight_answer}
use Rattle.sp_rules.specs.Arrivals.{arrival_at, parts_met, before_document, document_at, handled}
use Rattle.sp_rules.specs.Arts.{Arts}
use Rattle.sp_rules.specs.Flow.{flow_said}
use Rattle.sp_rules.specs.Handle.{Arrival, ack_item, handle, handle_all, heard_where, offer_to, rel_item, weight_effects}
use Rattle.sp_rules.specs.Kflow.{ack_body, came_over}
use Rattle.sp_rules.specs.KflowSends.{krel_number, krel_sends, krel_sent, send_krel_refusal}
use Rattle.sp_rules.specs.declared.kflow.FlowKind.{FlowKind}
use Rattle.sp_rules.specs.declared.kflow.FlowKind.TheVariants as kinds
use Rattle.sp_rules.specs.Lives.{are_held, is_dated}
use Rattle.sp_rules.specs.Node.{NodeState, call_refusal}
use Rattle.sp_rules.specs.Parts.{Parts, flows_of, is_signed, with_flows}
use Rattle.sp_rules.specs.Pieces.{Piece, WeightPiece, PrioAckPiece, PrioPiece, ReportPiece, AckPiece, RelPiece, EpochPiece}
use Rattle.sp_rules.specs.Polls.{frame_to}
use Rattle.sp_rules.specs.Prio.{admit_prio, expired_effects, judge_prio, prio_effects}
use Rattle.sp_rules.specs.Rel.{RelState, admit_ack, admit_rel, delivery, flow_in, is_from, is_to, judge_ack_of, judge_rel, judge_rel_of, peer_in, rel_effects}
use Rattle.sp_rules.specs.Rel.{reported, told, with_peer}
use Rattle.sp_rules.specs.Sends.{mask_in, own_prio, prio_body, prio_sent, rel_body, rel_number, rel_refusal, rel_sent, send_prio_refusal, signer_refusal}
use Rattle.sp_rules.specs.Sends.{weight_body, weight_number, weight_refusal, weight_sent}
use Rattle.sp_rules.specs.Steps as steps
use Rattle.sp_rules.specs.Steps.{Input, NodeStep, Output, accepted, refused_call, refused_send}
use Rattle.sp_rules.specs.Store.{oldest}
use Rattle.sp_rules.specs.Ticks.{ack_effects, due_now, second_refusal, time_after}
use Rattle.sp_rules.specs.Weights.{held}
use Rattle.sp_rules.specs.declared.answers.Item.{Item}
use Rattle.sp_rules.specs.declared.answers.Item.TheVariants as items
use Rattle.sp_rules.specs.declared.answers.PrioAnswer.{PrioAnswer}
use Rattle.sp_rules.specs.declared.answers.PrioAnswer.TheVariants as prios
use Rattle.sp_rules.specs.declared.node.NodeRefused.{NodeRefused}
use Rattle.sp_rules.specs.declared.rel.RelJudged.TheVariants as rels
use Rattle.laws_node.proofs.Handles as judged
use Rattle.sp_runs.specs.Inputs.{acting}
use Rattle.sp_runs.specs.Runs.{Clean, Starts, Turned}
use Rattle.sp_runs.specs.Settings.{Setting, StaysUp}
use Rattle.sp_runs.specs.Told.{Message, delivered, delivered_by, told_at}
use Rattle.sp_runs.specs.Worlds.{World}
use Rattle.sp_journal.specs.declared.entry.Entry.{Entry}
use Rattle.sp_schedule_events.specs.declared.event.Event.{Event}
use Rattle.laws_runs.specs.Signs.{Good, Signs}
use Rattle.laws_runs.specs.Premises.{Carries}
use Rattle.laws_runs.proofs.EachKind.{of_both, of_one}
use Rattle.laws_runs.proofs.NoStarts.{NoStart, NoStarts, met_as_it_was, no_starts_at, pieces_at, without}
use Rattle.laws_runs.proofs.FlowFacts.{flow_of}
use Rattle.laws_runs.proofs.Quiet.{quiet_acked, quiet_expired, quiet_gone, quiet_prio, quiet_weight, quiet_document, quiet_publish}
use Rattle.laws_runs.proofs.Lists.{here_is, nothing_told, told_more}
use Rattle.laws_runs.proofs.Plain.{Goes, Plain, Rests, plain_turn}
use Rattle.laws_runs.proofs.Signed.{signs}
use Rattle.laws_runs.proofs.Tables.{same_node}

module _ (kind : FlowKind) (u : NodeId) where
  -- these effects deliver nothing of u
  abbrev Unheard : List Effect → Type 0
  Unheard es = flat_map (delivered_by kind u) es ≡ []

  -- and u stays the node of these parts
  abbrev Mine : Parts → Type 0
  Mine p = (k : FlowKind) → (flows_of k p).me ≡ u

  abbrev Keeps : Parts → List Effect → Type 0
  Keeps p es = Mine p × Unheard es

  mine_of : (p : Parts) → p.rel.me ≡ u → p.kflow.flows.me ≡ u → Mine p
  mine_of = of_both (λ k r. r.me ≡ u)

  mine_with : (k : FlowKind) (r : RelState) (p : Parts) → r.me ≡ u → Mine p → Mine (with_flows k r p)
  mine_with = of_one (λ k r. r.me ≡ u)

  none_both : (a b : List Effect) → Unheard a → Unheard b → Unheard (a ++ b)
  none_both a b x y = flat_map-append (delivered_by kind u) a b ∙ rw (x, y) refl

  -- ---- arrivals

  chosen : (answer : Item) (new old : Parts) (es : List Effect) → (is_new answer ≡ true → Keeps new es) → Mine old
      → Keeps (cond (is_new answer) new old) (cond (is_new answer) es [])
  chosen answer new old es here stays = elim (cases_Bool (is_new answer)) [
    | inl t ↦ rw t (here t)
    | inr t ↦ rw t (stays, refl)
  ]

  heard_mine : (answer : PrioAnswer) (v : NodeId) (number : ℕ) (p : Parts) → Mine p → Mine (heard_where answer v number p)
  heard_mine prios.New v number p me = mine_of (heard_where prios.New v number p) (me kinds.Plain) (me kinds.Paths)
  heard_mine prios.Seen v number p me = mine_of (heard_where prios.Seen v number p) (me kinds.Plain) (me kinds.Paths)
  heard_mine prios.BadEnd v number p me = me
  heard_mine prios.Expired v number p me = me
  heard_mine prios.BadSig v number p me = me
  heard_mine prios.Epoch v number p me = me

  either_me : (t : Bool) (r s : RelState) → s.me ≡ r.me → (cond t s r).me ≡ r.me
  either_me true r s same = same
  either_me false r s same = refl

  where_mine : (t : Bool) (q p : Parts) → Mine q → Mine p → Mine (cond t q p)
  where_mine true q p one two = one
  where_mine false q p one two = two

  other_end : (r : RelState) (flow : Flow) (src dst : NodeId) (seq : ℕ) → r.me ≡ u → judge_rel r flow src dst seq ≡ rels.New → (src.0 == u.0) ≡ false
  other_end r flow src dst seq me new =
      let facts = new_rel r flow src dst seq new in
      let same : flow ≡ flow_of src dst = same_flow r flow src dst facts.ends in
      let other : is_from r (flow_of src dst) ≡ false = subst (λ fl. is_from r fl ≡ false) same facts.other in
      ne_eqb src.0 u.0 (λ e.
      let yes : is_from r (flow_of src dst) ≡ true = eq-eqb r.me.0 src.0 (ap (λ (v : NodeId). v.0) me ∙ sym e) in
      let f : true ≡ false = sym yes ∙ other in absurd cc)

  -- a new message is of another source
  other_source : (r : RelState) (flow : Flow) (body : Body) → r.me ≡ u → judge_rel_of r flow body ≡ rels.New → ((flow_said body).src.0 == u.0) ≡ false
  other_source r flow (bodies.Rel m) me new = other_end r flow m.src m.dst m.seq me new
  other_source r flow (bodies.Krel m) me new = other_end r flow m.src m.dst m.seq me new
  other_source r flow (bodies.Ack b) me new = absurd (cc)
  other_source r flow (bodies.Prio b) me new = absurd (cc)
  other_source r flow (bodies.Weight b) me new = absurd (cc)
  other_source r flow (bodies.Kack b) me new = absurd (cc)
  other_source r flow (bodies.Epoch b) me new = absurd (cc)

  -- whatever kind it is of
  of_others : (k : FlowKind) (body : Body) → ((flow_said body).src.0 == u.0) ≡ false → delivered_by k u (delivery body) ≡ []
  of_others kinds.Plain (bodies.Prio m) other = rw other refl
  of_others kinds.Plain (bodies.Rel m) other = rw other refl
  of_others kinds.Plain (bodies.Ack m) other = rw other refl
  of_others kinds.Plain (bodies.Weight m) other = rw other refl
  of_others kinds.Plain (bodies.Krel m) other = refl
  of_others kinds.Plain (bodies.Kack m) other = rw other refl
  of_others kinds.Plain (bodies.Epoch m) other = rw other refl
  of_others kinds.Paths (bodies.Prio m) other = refl
  of_others kinds.Paths (bodies.Rel m) other = refl
  of_others kinds.Paths (bodies.Ack m) other = refl
  of_others kinds.Paths (bodies.Weight m) other = refl
  of_others kinds.Paths (bodies.Krel m) other = rw other refl
  of_others kinds.Paths (bodies.Kack m) other = refl
  of_others kinds.Paths (bodies.Epoch m) other = refl

  delivery_unheard : (t : Bool) (body : Body) → ((flow_said body).src.0 == u.0) ≡ false → Unheard (cond t (delivery body ∷ []) [])
  delivery_unheard true body other = rw (of_others kind body other) refl
  delivery_unheard false body other = refl

  piece_keeps : (arts : Arts) (at : Arrival) (p : Parts) (piece : Piece) → NoStart piece → Mine p
      → Keeps (handle arts at p piece).parts (handle arts at p piece).effects
  piece_keeps arts at p (WeightPiece o) none me =
      chosen (items.Weight (weight_answer (is_signed arts at.fixed o) (offer_to at.fixed.me p.weights o.body))) (record p { weights = held p.weights o }) p
      (weight_effects o.body)
      (λ t. (mine_of (record p { weights = held p.weights o }) (me kinds.Plain) (me kinds.Paths), (quiet_weight o.body).no_delivery kind u)) me
  piece_keeps arts at p (PrioAckPiece n) none me =
      (mine_of (handle arts at p (PrioAckPiece n)).parts (me kinds.Plain) (me kinds.Paths), (quiet_acked p.prio at.from.0 n).no_delivery kind u)
  piece_keeps arts at p (PrioPiece n o) none me =
      let answer = prio_answer (is_signed arts at.fixed o) (is_dated p.lives o.body) (judge_prio p.prio o.body at.now) in
      let admitted = record p { prio = admit_prio p.prio o (Some at.from) } in
      let done = chosen (items.Prio answer) admitted p (prio_effects p.prio o (Some at.from))
      (λ t. (mine_of admitted (me kinds.Plain) (me kinds.Paths), (quiet_prio p.prio o (Some at.from)).no_delivery kind u)) me in
      (heard_mine answer at.from n (cond (is_new (items.Prio answer)) admitted p) done.0, done.1)
  piece_keeps arts at p (ReportPiece k flow sboot dboot base have) none me =
      let r = flows_of k p in
      let reports = either_me (flow_in r.flows flow).active r (with_peer r at.from (told (peer_in r.peers at.from) flow base have)) refl in
      let after = with_flows k (reported r at.from flow base have) p in
      (where_mine (are_held p.lives flow sboot dboot) after p (mine_with k (reported r at.from flow base have) p (reports ∙ me k) me) me, refl)
  piece_keeps arts at p (AckPiece k flow o) none me =
      let r = flows_of k p in
      chosen (ack_item k (ack_answer (is_signed arts at.fixed o) (is_dated p.lives o.body) (judge_ack_of r flow o.body)))
      (with_flows k (admit_ack r o) p) p [] (λ t. (mine_with k (admit_ack r o) p (me k) me, refl)) me
  piece_keeps arts at p (RelPiece k flow o) none me =
      let r = flows_of k p in
      let over = came_over p.kflow at.from o.body in
      chosen (rel_item k (rel_answer (is_signed arts at.fixed o) (is_dated p.lives o.body) over (judge_rel_of r flow o.body)))
      (with_flows k (admit_rel r o) p) p (rel_effects r o)
      (λ t. (
        mine_with k (admit_rel r o) p (me k) me,
        delivery_unheard (is_to r (flow_said o.body)) o.body
            (other_source r flow o.body (me k) (judged.new_rel k (is_signed arts at.fixed o) (is_dated p.lives o.body) over (judge_rel_of r flow o.body) t).1),
      )) me
  piece_keeps arts at p (EpochPiece o) none me = absurd none

  all_keep : (arts : Arts) (at : Arrival) (p : Parts) (pieces : List Piece) → NoStarts pieces → Mine p
      → Keeps (handle_all arts at p pieces).parts (handle_all arts at p pieces).effects
  all_keep arts at p [] none me = (me, refl)
  all_keep arts at p (piece ∷ pieces) none me =
      let first = handle arts at p piece in
      let others = handle_all arts at first.parts pieces in
      let one = piece_keeps arts at p piece none.0 me in
      let rest = all_keep arts at first.parts pieces none.1 one.0 in
      (rest.0, none_both first.effects others.effects one.1 rest.1)

  -- ---- steps

  sent : (r : Option SendRefused) (seq : ℕ) (es : List Effect) → Unheard es → Unheard (refused_send r (accepted seq es)).effects
  sent (Some r) seq es none = refl
  sent None seq es none = none

  called : (r : Option NodeRefused) (o : Output) → Unheard o.effects → Unheard (refused_call r o).effects
  called (Some r) o none = refl
  called None o none = none

  unsaid : (k : FlowKind) (bytes : List ℕ) → flat_map (delivered_by k u) (Signed bytes ∷ []) ≡ []
  unsaid kinds.Plain bytes = refl
  unsaid kinds.Paths bytes = refl

  acks : (arts : Arts) (k : FlowKind) (a : Option Ack) (r : Option SendRefused) → Unheard (ack_effects arts k a r)
  acks arts k None r = refl
  acks arts k (Some a) (Some r) = refl
  acks arts k (Some a) None = unsaid kind (arts.spell (ack_body k a))

  step_unheard : (arts : Arts) (old new : NodeState) (input : Input) (output : Output) → NodeStep arts old input output new → old.fixed.epochs ≡ false
      → Mine old.parts → Unheard output.effects
  step_unheard arts old new (steps.Poll v) output step plain me =
      rw step.0 (called (call_refusal old v) (steps.replied (steps.Frame (frame_to arts old v))) refl)
  step_unheard arts old new (steps.Datagram v bytes) output step plain me =
      rw step.0 (called (call_refusal old v) (steps.arrived arts old v bytes)
      (none_both (handled arts old v bytes).effects (steps.document_effects arts (before_document arts old v bytes) (document_at arts old v bytes))
      (all_keep arts (arrival_at old v) (parts_met arts old v bytes) (pieces_at arts old v bytes) (no_starts_at arts old v bytes plain)
      (subst Mine (sym (met_as_it_was arts old v bytes plain)) me)).1
      ((quiet_document arts (before_document arts old v bytes) (document_at arts old v bytes)).no_delivery kind u)))
  step_unheard arts old new (steps.Tick now) output step plain me =
      let plain_told = ack_effects arts kinds.Plain (due_now kinds.Plain old) (signer_refusal old.signer) in
      let paths_told = ack_effects arts kinds.Paths (due_now kinds.Paths old) (second_refusal arts old now) in
      rw step.0 (none_both (expired_effects old.parts.prio (time_after old now)) (plain_told ++ paths_told)
      ((quiet_expired old.parts.prio (time_after old now)).no_delivery kind u)
      (none_both plain_told paths_told (acks arts kinds.Plain (due_now kinds.Plain old) (signer_refusal old.signer))
      (acks arts kinds.Paths (due_now kinds.Paths old) (second_refusal arts old now))))
  step_unheard arts old new (steps.SendRel d payload) output step plain me =
      rw step.0 (sent (rel_refusal old d) (rel_number old d) (rel_sent arts old d payload) (unsaid kind (arts.spell (rel_body old d payload))))
  step_unheard arts old new (steps.SendPrio m) output step plain me =
      rw step.output_is (sent (send_prio_refusal old m step.choice) old.parts.prio.next (prio_sent arts old m step.choice)
      (none_both (Signed (arts.spell (prio_body old m (mask_in step.choice))) ∷ []) (prio_effects old.parts.prio (own_prio arts old m step.choice) None)
      (unsaid kind (arts.spell (prio_body old m (mask_in step.choice))))
      ((quiet_prio old.parts.prio (own_prio arts old m step.choice) None).no_delivery kind u)))
  step_unheard arts old new (steps.SetWeight v weight) output step plain me =
      rw step.0 (sent (weight_refusal old v weight) (weight_number old v) (weight_sent arts old v weight)
      (none_both (Signed (arts.spell (weight_body old v weight)) ∷ []) (weight_effects (weight_body old v weight))
      (unsaid kind (arts.spell (weight_body old v weight))) ((quiet_weight (weight_body old v weight)).no_delivery kind u)))
  step_unheard arts old new (steps.SendKrel m) output step plain me =
      rw step.output_is (sent (send_krel_refusal old m step.choice) (krel_number old m.dst) (krel_sent arts old m step.choice)
      (unsaid kind (arts.spell (krel_sends old m step.choice))))
  step_unheard arts old new (steps.TakeRel v) output step plain me = rw step.0 refl
  step_unheard arts old new (steps.TakeKrel v) output step plain me = rw step.0 refl
  step_unheard arts old new (steps.Publish document) output step plain me = rw step.0 ((quiet_publish arts old document).no_delivery kind u)
  step_unheard arts old new steps.TakePrio output step plain me = rw step.0 ((quiet_gone 0 Taken (oldest old.parts.prio.inbox)).no_delivery kind u)

-- ---- a whole run

pub none_of_its_own : (kind : FlowKind) (arts : Arts) (x : Setting) (es : List Event) (js : List Entry) (w : World) → StaysUp arts x
    → Carries x.topology.format arts
    → Clean arts x es js w
    → (u : NodeId) → delivered kind es js u u ≡ []
none_of_its_own kind arts x es js w fits reads Starts u = refl
none_of_its_own kind arts x es js w fits reads (Turned {es = es'} {js = js'} {old = old} {e = e} {j = j} run range turn unforged) u =
    go (none_of_its_own kind arts x es' js' old fits reads run u) (plain_turn arts x es' js' old w e j fits.plain turn unforged)
  where
    are : Signs arts x es' js' old
    are = signs arts x es' js' old fits.fits reads run

    go : delivered kind es' js' u u ≡ [] → Plain arts x es' js' old e j w → delivered kind (es' ++ e ∷ []) (js' ++ j ∷ []) u u ≡ []
    go before (Goes m none) =
        let is = are.nodes (acting e) m.node m.is_there in
        told_more (told_at u (delivered_by kind u)) es' js' e j are.entries
        ∙ ap (λ (t : List Message). t ++ told_at u (delivered_by kind u) (e, j)) before
        ∙ here_is u (delivered_by kind u) e j m.output.effects m.journal.effects
        ∙ elim (cases_Bool ((acting e).0 == u.0)) [
          | inl t ↦
              let here = same_node (acting e) u (eqb-true (acting e).0 u.0 t) in
              let me = mine_of kind u m.node.parts (is.holds.parts.rel.me ∙ here) (is.holds.parts.kflow.me ∙ here) in
              rw t (step_unheard kind u arts m.node m.after m.input m.output m.step (without x (Good arts x es' js') (acting e) m.node fits.plain is) me)
          | inr t ↦ rw t refl
        ]
    go before (Rests s) = nothing_told u (delivered_by kind u) es' js' e j are.entries s.effects ∙ before
