-- A step delivers at most one message for each object that it answers, and one more.
use Rattle.sp_rules.specs.Rel as rel
use Rattle.sp_rules.specs.Prio as prio
use Rattle.sp_topology.specs.declared.topology.Topology.{Topology}
use Rattle.sp_rules.specs.Topologies.{is_shut, removed_of, weights_in}
use Rattle.sp_rules.specs.Documents.{publish_effects, version_effects}
use Rattle.laws_node.proofs.Adopting.{publishing, reading}
use Rattle.std.proofs.Common.{◌≡◌, ◌≤◌, ℕ, ◌+◌, Bool, true, false, cond, List, [], ◌∷◌, ◌++◌, length, length-append, map, filter, Option, Some, None, refl, ap}
use Rattle.std.proofs.Common.{◌∙◌, inl, inr, arith}
use Rattle.std.specs.List.{flat_map}
use Rattle.std.proofs.lemmas.Bool.{cases_Bool}
use Rattle.std.proofs.lemmas.List.Elements.{filter-append}
use Rattle.std.specs.Prelude.{◌&&◌}
use Rattle.sp_base.specs.declared.id.EdgeId.{EdgeId}
use Rattle.sp_base.specs.declared.id.Flow.{Flow}
use Rattle.sp_base.specs.declared.id.NodeId.{NodeId}
use Rattle.sp_msg.specs.declared.body.Ack.{Ack}
use Rattle.sp_msg.specs.declared.body.Body.{Body}
use Rattle.sp_msg.specs.declared.body.Body.TheVariants as bodies
use Rattle.sp_msg.specs.declared.effect.Effect.{Effect}
use Rattle.sp_msg.specs.declared.effect.Effect.TheVariants as effects
use Rattle.sp_msg.specs.declared.effect.Why.{Why}
use Rattle.sp_msg.specs.declared.effect.Why.TheVariants as whys
use Rattle.sp_msg.specs.declared.kept.Kept.{Kept}
use Rattle.sp_msg.specs.declared.refused.SendRefused.{SendRefused}
use Rattle.sp_rules.specs.Answers.{ack_answer, epoch_answer, is_new, prio_answer, weight_answer}
use Rattle.sp_rules.specs.Arts.{Arts}
use Rattle.sp_rules.specs.Arrivals.{arrival_at, parts_met, pieces_in, pieces_where, reply_at, sections_in, before_document, document_at, handled}
use Rattle.sp_rules.specs.Polls.{frame_to}
use Rattle.sp_rules.specs.Flow.{FlowState, ends, flow_said}
use Rattle.sp_rules.specs.Handle.{Arrival, ack_item, handle, handle_all, met, met_effects, offer_to, rel_answer_to, rel_item, where_new, weight_effects}
use Rattle.sp_rules.specs.KflowSends.{krel_number, krel_sends, krel_sent, send_krel_refusal}
use Rattle.sp_rules.specs.Lives.{is_dated, judge_epoch, origin_said}
use Rattle.sp_rules.specs.Node.{NodeState, call_refusal}
use Rattle.sp_rules.specs.Parts.{Parts, closed_effects, flows_of, is_signed, nodes_of, with_flows}
use Rattle.sp_rules.specs.Pieces.{Piece, WeightPiece, PrioAckPiece, PrioPiece, ReportPiece, AckPiece, RelPiece, EpochPiece}
use Rattle.sp_rules.specs.Prio.{PrioState, acked_effects, admit_prio, delivered, expired_effects, is_here, judge_prio, peer_in, prio_effects}
use Rattle.sp_rules.specs.PrioPeer as rows
use Rattle.sp_rules.specs.PrioPeer.{PrioPeer, gone, goes_to, put_effects, stored}
use Rattle.sp_rules.specs.Rel.{RelState, admit_ack, admit_rel, delivery, ended_by, ending, is_end, is_to, judge_ack_of, judge_rel_of, rel_effects}
use Rattle.sp_rules.specs.Rel.{restart_effects}
use Rattle.sp_rules.specs.Sends.{mask_in, own_prio, prio_body, prio_sent, rel_body, rel_number, rel_refusal, rel_sent, send_prio_refusal, signed_effect}
use Rattle.sp_rules.specs.Sends.{signer_refusal, weight_body, weight_number, weight_refusal, weight_sent}
use Rattle.sp_rules.specs.Steps as steps
use Rattle.sp_rules.specs.Steps.{Input, NodeStep, Output, accepted, refused_call, refused_send, document_effects}
use Rattle.sp_rules.specs.Store.{Store, entry_in, evicted, expired_entries, oldest, removed}
use Rattle.sp_rules.specs.Ticks.{ack_effects, due_now, second_refusal, tick_effects, time_after}
use Rattle.sp_rules.specs.Weights.{held}
use Rattle.sp_rules.specs.declared.answers.Item.{Item}
use Rattle.sp_rules.specs.declared.answers.Item.TheVariants as items
use Rattle.sp_rules.specs.declared.kflow.FlowKind.{FlowKind}
use Rattle.sp_rules.specs.declared.kflow.FlowKind.TheVariants as flows
use Rattle.sp_rules.specs.declared.node.NodeRefused.{NodeRefused}
use Rattle.sp_rules.specs.declared.store.Entry.{Entry}

-- a test that no other effect than a delivery passes
pub record TellsDeliveries (p : Effect → Bool) : Type 0 where
  pub signed : (bytes : List ℕ) → p (effects.Signed bytes) ≡ false
  pub stored : (place id : ℕ) (src : NodeId) (seq prio : ℕ) → p (effects.Stored place id src seq prio) ≡ false
  pub gone : (place id : ℕ) (why : Why) → p (effects.Gone place id why) ≡ false
  pub held : (origin : NodeId) (edge : EdgeId) (seq weight : ℕ) → p (effects.WeightHeld origin edge seq weight) ≡ false
  pub ended : (flow : Flow) → p (effects.Ended flow) ≡ false
  pub kended : (flow : Flow) → p (effects.Kended flow) ≡ false
  pub version : (version : ℕ) → p (effects.Version version) ≡ false

module _ (p : Effect → Bool) (tells : TellsDeliveries p) where
  -- how many of these pass it
  abbrev pub number : List Effect → ℕ
  number es = length (filter p es)

  both : (a b : List Effect) → number (a ++ b) ≡ number a + number b
  both a b = ap length (filter-append p a b) ∙ length-append (filter p a) (filter p b)

  none : (e : Effect) → p e ≡ false → number (e ∷ []) ≡ 0
  none e is = rw is refl

  one : (e : Effect) → number (e ∷ []) ≤ 1
  one e = elim (cases_Bool (p e)) [
    | inl t ↦ rw t (omega arith)
    | inr f ↦ rw f (omega arith)
  ]

  none_both : (a b : List Effect) → number a ≡ 0 → number b ≡ 0 → number (a ++ b) ≡ 0
  none_both a b x y = omega (arith, both a b, x, y)

  none_each : {X : Type 0} (f : X → List Effect) → ((x : X) → number (f x) ≡ 0) → (xs : List X) → number (flat_map f xs) ≡ 0
  none_each f each [] = refl
  none_each f each (x ∷ xs) = none_both (f x) (flat_map f xs) (each x) (none_each f each xs)

  gone_none : (place : ℕ) (why : Why) (o : Option Entry) → number (gone place why o) ≡ 0
  gone_none place why None = refl
  gone_none place why (Some e) = none (effects.Gone place e.id why) (tells.gone place e.id why)

  stored_none : (place id : ℕ) (b : Body) → number (stored place id b) ≡ 0
  stored_none place id (bodies.Prio q) = none (effects.Stored place id q.src q.seq q.prio) (tells.stored place id q.src q.seq q.prio)
  stored_none place id (bodies.Rel r) = refl
  stored_none place id (bodies.Ack a) = refl
  stored_none place id (bodies.Weight w) = refl
  stored_none place id (bodies.Krel w) = refl
  stored_none place id (bodies.Kack w) = refl
  stored_none place id (bodies.Epoch w) = refl

  put_none : (place : ℕ) (s : Store) (o : Kept) → number (put_effects place s o) ≡ 0
  put_none place s o =
      none_both (stored place (s.last + 1) o.body) (gone place whys.Evicted (evicted s o)) (stored_none place (s.last + 1) o.body)
      (gone_none place whys.Evicted (evicted s o))

  leaving_none : (place : ℕ) (why : Why) (es : List Entry) → number (map (λ (e : Entry). effects.Gone place e.id why) es) ≡ 0
  leaving_none place why [] = refl
  leaving_none place why (e ∷ es) = rw (tells.gone place e.id why) (leaving_none place why es)

  expired_none : (place : ℕ) (s : Store) (now : ℕ) → number (rows.expired_effects place s now) ≡ 0
  expired_none place s now = leaving_none place whys.Expired (expired_entries s now)

  all_expired_none : (s : PrioState) (now : ℕ) → number (expired_effects s now) ≡ 0
  all_expired_none s now =
      none_both (rows.expired_effects 0 s.inbox now) (flat_map (λ (q : PrioPeer). rows.expired_effects q.peer q.store now) s.peers)
      (expired_none 0 s.inbox now) (none_each (λ (q : PrioPeer). rows.expired_effects q.peer q.store now) (λ q. expired_none q.peer q.store now) s.peers)

  given_none : (o : Kept) (came : Option NodeId) (q : PrioPeer) → number (rows.given_effects o came q) ≡ 0
  given_none o came q = elim (cases_Bool (goes_to o.body came q)) [
    | inl t ↦ rw t (put_none q.peer q.store o)
    | inr f ↦ rw f refl
  ]

  left_none : (place : ℕ) (s : Store) (pairs : List (ℕ × ℕ)) → number (rows.left_effects place s pairs) ≡ 0
  left_none place s [] = refl
  left_none place s (pair ∷ pairs) =
      none_both (gone place whys.Acked (entry_in s pair.1)) (rows.left_effects place (removed s pair.1) pairs)
      (gone_none place whys.Acked (entry_in s pair.1)) (left_none place (removed s pair.1) pairs)

  acked_none : (s : PrioState) (v n : ℕ) → number (acked_effects s v n) ≡ 0
  acked_none s v n = let q = peer_in s v in left_none q.peer q.store (rows.landed q n)

  weight_none : (b : Body) → number (weight_effects b) ≡ 0
  weight_none (bodies.Weight w) = none (effects.WeightHeld w.origin w.edge w.seq w.weight) (tells.held w.origin w.edge w.seq w.weight)
  weight_none (bodies.Prio q) = refl
  weight_none (bodies.Rel r) = refl
  weight_none (bodies.Ack a) = refl
  weight_none (bodies.Krel a) = refl
  weight_none (bodies.Kack a) = refl
  weight_none (bodies.Epoch a) = refl

  delivered_one : (b : Body) → number (delivered b) ≤ 1
  delivered_one (bodies.Prio q) = one (effects.DeliveredPrio q.src q.seq q.payload)
  delivered_one (bodies.Rel r) = omega arith
  delivered_one (bodies.Ack a) = omega arith
  delivered_one (bodies.Weight w) = omega arith
  delivered_one (bodies.Krel w) = omega arith
  delivered_one (bodies.Kack w) = omega arith
  delivered_one (bodies.Epoch w) = omega arith

  prio_one : (s : PrioState) (o : Kept) (came : Option NodeId) → number (prio_effects s o came) ≤ 1
  prio_one s o came = elim (cases_Bool (is_here s o.body)) [
    | inl t ↦ rw t (omega (arith, both (delivered o.body) (put_effects 0 s.inbox o), delivered_one o.body, put_none 0 s.inbox o))
    | inr f ↦ rw f (omega (arith, none_each (rows.given_effects o came) (given_none o came) s.peers))
  ]

  rel_one : (r : RelState) (o : Kept) → number (rel_effects r o) ≤ 1
  rel_one r o = go (is_to r (flow_said o.body))
    where
      go : (b : Bool) → number (cond b (delivery o.body ∷ []) []) ≤ 1
      go true = one (delivery o.body)
      go false = omega arith

  ending_none : (kind : FlowKind) (flow : Flow) → number (ending kind flow ∷ []) ≡ 0
  ending_none flows.Plain flow = none (effects.Ended flow) (tells.ended flow)
  ending_none flows.Paths flow = none (effects.Kended flow) (tells.kended flow)

  over_none : (kind : FlowKind) (t : Bool) (f : FlowState) → number (cond t (ending kind (ends f) ∷ []) []) ≡ 0
  over_none kind true f = ending_none kind (ends f)
  over_none kind false f = refl

  restart_none : (kind : FlowKind) (r : RelState) (v : NodeId) → number (restart_effects kind r v) ≡ 0
  restart_none kind r v = none_each (ended_by kind v) (λ f. over_none kind (is_end v (ends f) && f.active) f) r.flows

  met_none : (q : Parts) (v : NodeId) → number (met_effects q v) ≡ 0
  met_none q v =
      none_both (restart_effects flows.Plain q.rel v) (restart_effects flows.Paths q.kflow.flows v) (restart_none flows.Plain q.rel v)
      (restart_none flows.Paths q.kflow.flows v)

  -- ---- another version of the topology

  flows_none : (kind : FlowKind) (r : RelState) (gone : List NodeId) → number (rel.closed_effects kind r gone) ≡ 0
  flows_none kind r gone = none_each (rel.ended_effect kind gone) (λ f. over_none kind (f.active && rel.is_over gone (ends f)) f) r.flows

  closed_none : (q : Parts) (least : List ℕ) (gone : List NodeId) → number (closed_effects q least gone) ≡ 0
  closed_none q least gone =
      none_both (prio.closed_effects q.prio least gone)
      (rel.closed_effects flows.Plain q.rel gone ++ rel.closed_effects flows.Paths q.kflow.flows gone)
      (none_each (rows.closed_effects least gone)
      (λ r. leaving_none r.peer whys.Withdrawn (filter (rows.leaves (is_shut least r.edge) gone) r.store.entries)) q.prio.peers)
      (none_both (rel.closed_effects flows.Plain q.rel gone) (rel.closed_effects flows.Paths q.kflow.flows gone) (flows_none flows.Plain q.rel gone)
      (flows_none flows.Paths q.kflow.flows gone))

  version_none : (n : NodeState) (t : Topology) → number (version_effects n t) ≡ 0
  version_none n t =
      none_both (effects.Version t.version ∷ []) (closed_effects n.parts (weights_in t.edges) (removed_of (nodes_of t) t.edges))
      (none (effects.Version t.version) (tells.version t.version)) (closed_none n.parts (weights_in t.edges) (removed_of (nodes_of t) t.edges))

  publish_none : (arts : Arts) (n : NodeState) (bytes : List ℕ) → number (publish_effects arts n bytes) ≡ 0
  publish_none arts n bytes = publishing arts n bytes (λ m told. number told ≡ 0) refl (λ d reads by. version_none n d.topology)

  document_none : (arts : Arts) (n : NodeState) (document : Option (List ℕ)) → number (document_effects arts n document) ≡ 0
  document_none arts n document = reading arts n document (λ m told. number told ≡ 0) refl (λ bytes d is reads by. version_none n d.topology)

  -- ---- arrivals

  new_most : (answer : Item) (o : Kept) (old new : Parts) (es : List Effect) → number es ≤ 1 → number (where_new answer o old new es).effects ≤ 1
  new_most answer o old new es most = elim (cases_Bool (is_new answer)) [
    | inl t ↦ rw t most
    | inr f ↦ rw f (omega arith)
  ]

  piece_most : (arts : Arts) (at : Arrival) (q : Parts) (piece : Piece) → number (handle arts at q piece).effects ≤ length (handle arts at q piece).answered
  piece_most arts at q (WeightPiece o) =
      new_most (items.Weight (weight_answer (is_signed arts at.fixed o) (offer_to at.fixed.me q.weights o.body))) o q (record q { weights = held q.weights o })
      (weight_effects o.body) (omega (arith, weight_none o.body))
  piece_most arts at q (PrioAckPiece n) = omega (arith, acked_none q.prio at.from.0 n)
  piece_most arts at q (PrioPiece n o) =
      new_most (items.Prio (prio_answer (is_signed arts at.fixed o) (is_dated q.lives o.body) (judge_prio q.prio o.body at.now))) o q
      (record q { prio = admit_prio q.prio o (Some at.from) })
      (prio_effects q.prio o (Some at.from)) (prio_one q.prio o (Some at.from))
  piece_most arts at q (ReportPiece kind flow sboot dboot base have) = omega arith
  piece_most arts at q (AckPiece kind flow o) =
      new_most (ack_item kind (ack_answer (is_signed arts at.fixed o) (is_dated q.lives o.body) (judge_ack_of (flows_of kind q) flow o.body))) o q
      (with_flows kind (admit_ack (flows_of kind q) o) q) [] (omega arith)
  piece_most arts at q (RelPiece kind flow o) =
      new_most (rel_item kind (rel_answer_to arts at q (judge_rel_of (flows_of kind q) flow o.body) o)) o q
      (with_flows kind (admit_rel (flows_of kind q) o) q) (rel_effects (flows_of kind q) o) (rel_one (flows_of kind q) o)
  piece_most arts at q (EpochPiece o) =
      new_most (items.Epoch (epoch_answer (is_signed arts at.fixed o) (judge_epoch at.fixed.me q.lives o.body))) o q (met q o)
      (met_effects q (origin_said o.body)) (omega (arith, met_none q (origin_said o.body)))

  all_most : (arts : Arts) (at : Arrival) (q : Parts) (ps : List Piece) → number (handle_all arts at q ps).effects ≤ length (handle_all arts at q ps).answered
  all_most arts at q [] = omega arith
  all_most arts at q (piece ∷ ps) =
      let first = handle arts at q piece in
      let others = handle_all arts at first.parts ps in
      omega (
        arith,
        both first.effects others.effects,
        length-append first.answered others.answered,
        piece_most arts at q piece,
        all_most arts at first.parts ps,
      )

  -- ---- steps

  acks_none : (arts : Arts) (kind : FlowKind) (a : Option Ack) (r : Option SendRefused) → number (ack_effects arts kind a r) ≡ 0
  acks_none arts kind None r = refl
  acks_none arts kind (Some a) (Some r) = refl
  acks_none arts kind (Some a) None = none _ (tells.signed _)

  ticked : (arts : Arts) (n : NodeState) (now : ℕ) → number (tick_effects arts n now) ≡ 0
  ticked arts n now =
      let plain = ack_effects arts flows.Plain (due_now flows.Plain n) (signer_refusal n.signer) in
      let paths = ack_effects arts flows.Paths (due_now flows.Paths n) (second_refusal arts n now) in
      none_both (expired_effects n.parts.prio (time_after n now)) (plain ++ paths) (all_expired_none n.parts.prio (time_after n now))
      (none_both plain paths (acks_none arts flows.Plain (due_now flows.Plain n) (signer_refusal n.signer))
      (acks_none arts flows.Paths (due_now flows.Paths n) (second_refusal arts n now)))

  sent : (r : Option SendRefused) (seq : ℕ) (es : List Effect) → number es ≤ 1 → number (refused_send r (accepted seq es)).effects ≤ 1
  sent (Some r) seq es most = omega arith
  sent None seq es most = most

  called : (r : Option NodeRefused) (o : Output) → number o.effects ≤ length o.answered + 1
      → number (refused_call r o).effects ≤ length (refused_call r o).answered + 1
  called (Some r) o most = omega arith
  called None o most = most

  below : (o : Output) → number o.effects ≤ 1 → number o.effects ≤ length o.answered + 1
  below o most = omega (arith, most)

  -- each step tells no more deliveries than it answers objects, and one
  pub step_most : (arts : Arts) (old new : NodeState) (input : Input) (output : Output) → NodeStep arts old input output new
      → number output.effects ≤ length output.answered + 1
  step_most arts old new (steps.Poll v) output step = rw step.0 (called (call_refusal old v) (steps.replied (steps.Frame (frame_to arts old v))) (omega arith))
  step_most arts old new (steps.Datagram u bytes) output step =
      rw step.0 (called (call_refusal old u) (steps.arrived arts old u bytes)
      (let pieces = pieces_where (reply_at arts old u bytes) (pieces_in old.fixed (sections_in arts old.fixed bytes)) in
      let most = all_most arts (arrival_at old u) (parts_met arts old u bytes) pieces in
      let left = before_document arts old u bytes in
      let document = document_at arts old u bytes in
      omega (arith, most, both (handled arts old u bytes).effects (document_effects arts left document), document_none arts left document)))
  step_most arts old new (steps.Tick now) output step = rw step.0 (omega (arith, ticked arts old now))
  step_most arts old new (steps.SendRel d payload) output step =
      rw step.0 (below (steps.send_rel_output arts old d payload)
      (sent (rel_refusal old d) (rel_number old d) (rel_sent arts old d payload) (one (signed_effect arts (rel_body old d payload)))))
  step_most arts old new (steps.SendPrio m) output step =
      let own = own_prio arts old m step.choice in
      let told = signed_effect arts (prio_body old m (mask_in step.choice)) in
      let most = both (told ∷ []) (prio_effects old.parts.prio own None) in
      rw step.output_is (below (steps.send_prio_output arts old m step.choice)
      (sent (send_prio_refusal old m step.choice) old.parts.prio.next (prio_sent arts old m step.choice)
      (omega (arith, most, none told (tells.signed _), prio_one old.parts.prio own None))))
  step_most arts old new (steps.SendKrel m) output step =
      rw step.output_is (below (steps.send_krel_output arts old m step.choice)
      (sent (send_krel_refusal old m step.choice) (krel_number old m.dst) (krel_sent arts old m step.choice)
      (one (signed_effect arts (krel_sends old m step.choice)))))
  step_most arts old new (steps.SetWeight v weight) output step =
      let told = signed_effect arts (weight_body old v weight) in
      rw step.0 (below (steps.set_weight_output arts old v weight) (sent (weight_refusal old v weight) (weight_number old v) (weight_sent arts old v weight)
      (omega (arith, both (told ∷ []) (weight_effects (weight_body old v weight)), none told (tells.signed _), weight_none (weight_body old v weight)))))
  step_most arts old new (steps.TakeRel u) output step = rw step.0 (omega arith)
  step_most arts old new (steps.TakeKrel u) output step = rw step.0 (omega arith)
  step_most arts old new steps.TakePrio output step = rw step.0 (omega (arith, gone_none 0 whys.Taken (oldest old.parts.prio.inbox)))
  step_most arts old new (steps.Publish document) output step = rw step.0 (omega (arith, publish_none arts old document))
