-- What each step tells of weights, and a life of all of them.
use Rattle.std.proofs.Common.{◌≡◌, ℕ, ◌+◌, ◌*◌, max, Bool, true, false, cond, List, [], ◌∷◌, ◌++◌, length, Option, Some, None, refl, sym, ap, subst}
use Rattle.std.proofs.Common.{◌∙◌}
use Rattle.std.proofs.lemmas.List.{length-replicate}
use Rattle.sp_base.specs.declared.id.NodeId.{NodeId}
use Rattle.sp_msg.specs.declared.body.Ack.{Ack}
use Rattle.sp_msg.specs.declared.body.Body.{Body}
use Rattle.sp_msg.specs.declared.effect.Effect.{Effect}
use Rattle.sp_msg.specs.declared.effect.Why.TheVariants as whys
use Rattle.sp_msg.specs.declared.kept.Kept.{Kept}
use Rattle.sp_msg.specs.declared.refused.SendRefused.{SendRefused}
use Rattle.sp_rules.specs.Arrivals.{arrival_at, before_document, document_at, handled, parts_met, pieces_in, pieces_where, read_by, reply_at, rises}
use Rattle.sp_rules.specs.Arrivals.{sections_in}
use Rattle.sp_rules.specs.Arts.{Arts}
use Rattle.sp_rules.specs.Documents.{after_publish, publish_effects, version_effects}
use Rattle.sp_rules.specs.Handle.{weight_effects}
use Rattle.sp_rules.specs.Kflow.{ack_body, pushed}
use Rattle.sp_rules.specs.KflowSends.{after_take_krel, krel_number, krel_sends, krel_sent, send_krel_refusal}
use Rattle.sp_rules.specs.Link.{advanced}
use Rattle.sp_rules.specs.Node.{NodeState, announced, booted, call_refusal, called, kept_or, link_in, signed_now, signed_once, with_link}
use Rattle.sp_rules.specs.Parts.{edge_to, flows_of, nodes_of}
use Rattle.sp_rules.specs.Polls.{frame_to, is_served, parts_after, polled}
use Rattle.sp_rules.specs.Prio as prio
use Rattle.sp_rules.specs.Prio.{admit_prio, judge_prio, prio_effects}
use Rattle.sp_rules.specs.PrioPeer as rows
use Rattle.sp_rules.specs.Rel.{pushed_in, settled}
use Rattle.sp_rules.specs.Sends.{after_take_prio, after_take_rel, edge_or, mask_in, own_prio, prio_body, prio_sent, rel_body, rel_number, rel_refusal, rel_sent}
use Rattle.sp_rules.specs.Sends.{send_prio_refusal, signed_effect, signer_refusal, weight_body, weight_number, weight_refusal, weight_refusal_at, weight_sent}
use Rattle.sp_rules.specs.Steps.{Input, NodeStep, Output, Poll, Datagram, Tick, SendRel, SendPrio, SetWeight, TakeRel, TakePrio, SendKrel, TakeKrel, Publish}
use Rattle.sp_rules.specs.Steps.{Frame}
use Rattle.sp_rules.specs.Steps.{accepted}
use Rattle.sp_rules.specs.Steps.{arrived, document_effects, refused_call, refused_send, replied}
use Rattle.sp_rules.specs.Store.{oldest}
use Rattle.sp_rules.specs.Ticks.{ack_effects, after_plain, after_tick, at_time, due_now, second_refusal, settled_by, tick_effects, time_after}
use Rattle.sp_rules.specs.Topologies.{removed_of, weights_in}
use Rattle.sp_rules.specs.Weights.{WeightState, held, minimum, replaced, row_for, row_in}
use Rattle.sp_rules.specs.declared.kflow.FlowKind.{FlowKind}
use Rattle.sp_rules.specs.declared.kflow.FlowKind.TheVariants.{Plain, Paths}
use Rattle.sp_rules.specs.declared.node.NodeRefused.{NodeRefused}
use Rattle.sp_topology.specs.Ranges.{ids_of}
use Rattle.sp_topology.specs.declared.topology.Edge.{Edge}
use Rattle.sp_topology.specs.declared.topology.Topology.{Topology}
use Rattle.laws_node.specs.LifeLaws.{WeightsOfLives}
use Rattle.laws_node.specs.Lives.{Life, effects_of_life, last_told}
use Rattle.laws_node.specs.Shapes.{Shape}
use Rattle.laws_node.proofs.Adopting.{publishing, reading}
use Rattle.laws_node.proofs.FlowKinds.{weights_beside}
use Rattle.laws_node.proofs.GreatestWeights.{high_row, low_row}
use Rattle.laws_node.proofs.LastWeights.{HasRows, said as row_said}
use Rattle.laws_node.proofs.Shapes.{shapes_stay}
use Rattle.laws_node.proofs.UpdateRows.{ends_differ, nothing_held}
use Rattle.laws_node.proofs.Updates.{own_row}
use Rattle.laws_node.proofs.SilentEffects.{Silent, silent_both, silent_closed, silent_expired, silent_gone, silent_prio}
use Rattle.laws_node.proofs.WeightTurns.{Turns, all_turns, greeted_weights, held_turns, nothing, on, own_at, stays, still}

-- ---- each step

abbrev Done : NodeState → Output → NodeState → Type 0
Done n output new = Turns n.parts.weights output.effects new.parts.weights

by : (n : NodeState) (output : Output) (new m : NodeState) (es : List Effect) → output.effects ≡ es → new ≡ m → Turns n.parts.weights es m.parts.weights
    → Done n output new
by n output new m es e f turns =
    subst (λ (xs : List Effect). Turns n.parts.weights xs new.parts.weights) (sym e)
    (subst (λ (y : NodeState). Turns n.parts.weights es y.parts.weights) (sym f) turns)

plain : (n : NodeState) (es : List Effect) → Silent es → HasRows n.parts.weights → Turns n.parts.weights es n.parts.weights
plain n es none h = stays n.parts.weights n.parts.weights es none refl refl h

signed_alone : (arts : Arts) (body : Body) → Silent (signed_effect arts body ∷ [])
signed_alone arts body = λ edge end w. refl

-- the row of an own update that isn't refused
own_placed : (n : NodeState) (v : NodeId) (weight : ℕ) → n.parts.weights.edges ≡ n.fixed.topology.edges → weight_refusal n v weight ≡ None
    → (row : ℕ) × (row_for n.parts.weights.edges (weight_body n v weight) ≡ Some row)
own_placed n v weight same free = go (edge_to n.fixed v) refl free
  where
    go : (o : Option ℕ) → edge_to n.fixed v ≡ o → weight_refusal_at n o weight ≡ None
        → (row : ℕ) × (row_in n.parts.weights.edges (edge_or (edge_to n.fixed v)) n.fixed.me.0 ≡ Some row)
    go None is free = absurd (cc)
    go (Some edge) is free =
        let own = own_row n.fixed.topology.edges edge n.fixed.me.0 v.0 is in (
          own.0,
          ap (λ (es : List Edge). row_in es (edge_or (edge_to n.fixed v)) n.fixed.me.0) same
              ∙ ap (λ (o : Option ℕ). row_in n.fixed.topology.edges (edge_or o) n.fixed.me.0) is ∙ own.1,
        )

-- another version tells of no held weight, and leaves what is held
adopted_turns : (n : NodeState) (t : Topology) → HasRows n.parts.weights
    → Turns n.parts.weights (version_effects n t) (replaced n.parts.weights (weights_in t.edges))
adopted_turns n t h =
    let least = weights_in t.edges in
    let gone = removed_of (nodes_of t) t.edges in
    stays n.parts.weights (replaced n.parts.weights least) (version_effects n t) (λ edge end w. silent_closed n.parts least gone edge end w) refl refl h

-- an acknowledgement that is signed tells of no held weight, and leaves what is held
settled_turns : (arts : Arts) (kind : FlowKind) (n : NodeState) (o : Option Ack) (r : Option SendRefused) → HasRows n.parts.weights
    → Turns n.parts.weights (ack_effects arts kind o r) (settled_by arts kind n o r).parts.weights
settled_turns arts kind n None r h = plain n [] nothing h
settled_turns arts kind n (Some ack) (Some refusal) h = plain n [] nothing h
settled_turns arts kind n (Some ack) None h =
    let body = ack_body kind ack in
    still n.parts (settled_by arts kind n (Some ack) None).parts.weights (signed_effect arts body ∷ []) (signed_alone arts body)
    (weights_beside kind (settled (flows_of kind n.parts) (signed_now arts n body)) n.parts) h

pub step_turns : (arts : Arts) (n : NodeState) (input : Input) (output : Output) (new : NodeState) → NodeStep arts n input output new
    → n.parts.weights.edges ≡ n.fixed.topology.edges → HasRows n.parts.weights → Done n output new
step_turns arts n (Poll v) output new s same h = go (call_refusal n v) (ap (λ (o : Output). o.effects) s.0) s.1
  where
    done : NodeState
    done = called n (with_link n v (advanced (link_in n v))) (parts_after n v)

    served : (t : Bool) → Turns n.parts.weights [] (cond t (polled n.fixed n.parts v) n.parts).weights
    served true = stays n.parts.weights (polled n.fixed n.parts v).weights [] nothing refl refl h
    served false = plain n [] nothing h

    go : (r : Option NodeRefused) → output.effects ≡ (refused_call r (replied (Frame (frame_to arts n v)))).effects → new ≡ kept_or r n done → Done n output new
    go None e f = by n output new done [] e f (served (is_served n v))
    go (Some refused) e f = by n output new n [] e f (plain n [] nothing h)
step_turns arts n (Datagram v bytes) output new s same h = go (call_refusal n v) (ap (λ (o : Output). o.effects) s.0) s.1
  where
    met_at : NodeState
    met_at = before_document arts n v bytes

    done : NodeState
    done = read_by arts met_at (document_at arts n v bytes)

    go : (r : Option NodeRefused) → output.effects ≡ (refused_call r (arrived arts n v bytes)).effects → new ≡ kept_or r n done → Done n output new
    go None e f =
        let same = greeted_weights n.fixed.epochs (rises arts n v bytes) v n.parts in
        let first : Turns n.parts.weights (handled arts n v bytes).effects met_at.parts.weights =
        subst (λ (w : WeightState). Turns w (handled arts n v bytes).effects met_at.parts.weights) same
        (all_turns arts (arrival_at n v) (parts_met arts n v bytes)
        (pieces_where (reply_at arts n v bytes) (pieces_in n.fixed (sections_in arts n.fixed bytes)))
        (subst HasRows (sym same) h)) in
        by n output new done ((handled arts n v bytes).effects ++ document_effects arts met_at (document_at arts n v bytes)) e f
        (on n.parts.weights met_at.parts.weights done.parts.weights (handled arts n v bytes).effects
        (document_effects arts met_at (document_at arts n v bytes)) first
        (reading arts met_at (document_at arts n v bytes) (λ m told. Turns met_at.parts.weights told m.parts.weights) (plain met_at [] nothing first.rows)
        (λ document d is reads by. adopted_turns met_at d.topology first.rows)))
    go (Some refused) e f = by n output new n [] e f (plain n [] nothing h)
step_turns arts n (Tick now) output new s same h =
    let first = settled_turns arts Plain (at_time n now) (due_now Plain n) (signer_refusal n.signer) h in
    let second = settled_turns arts Paths (after_plain arts n now) (due_now Paths n) (second_refusal arts n now) first.rows in
    by n output new (after_tick arts n now) (tick_effects arts n now) (ap (λ (o : Output). o.effects) s.0) s.1
    (on n.parts.weights n.parts.weights (after_tick arts n now).parts.weights (prio.expired_effects n.parts.prio (time_after n now)) _
    (plain n (prio.expired_effects n.parts.prio (time_after n now)) (silent_expired n.parts.prio (time_after n now)) h)
    (on n.parts.weights (after_plain arts n now).parts.weights (after_tick arts n now).parts.weights
    (ack_effects arts Plain (due_now Plain n) (signer_refusal n.signer)) (ack_effects arts Paths (due_now Paths n) (second_refusal arts n now)) first second))
step_turns arts n (SendRel dst payload) output new s same h = go (rel_refusal n dst) (ap (λ (o : Output). o.effects) s.0) s.1
  where
    done : NodeState
    done = signed_once n (record n.parts { rel = pushed_in n.parts.rel (signed_now arts n (rel_body n dst payload)) })

    go : (r : Option SendRefused) → output.effects ≡ (refused_send r (accepted (rel_number n dst) (rel_sent arts n dst payload))).effects
        → new ≡ kept_or r n done
        → Done n output new
    go None e f = by n output new done (rel_sent arts n dst payload) e f (plain n (rel_sent arts n dst payload) (signed_alone arts (rel_body n dst payload)) h)
    go (Some refused) e f = by n output new n [] e f (plain n [] nothing h)
step_turns arts n (SendPrio m) output new s same h = go (send_prio_refusal n m s.choice) (ap (λ (o : Output). o.effects) s.output_is) s.new_is
  where
    own : Kept
    own = own_prio arts n m s.choice

    done : NodeState
    done = signed_once n (record n.parts { prio = admit_prio n.parts.prio own None })

    go : (r : Option SendRefused) → output.effects ≡ (refused_send r (accepted n.parts.prio.next (prio_sent arts n m s.choice))).effects
        → new ≡ kept_or r n done
        → Done n output new
    go None e f =
        by n output new done (prio_sent arts n m s.choice) e f
        (plain n (prio_sent arts n m s.choice)
        (silent_both (signed_effect arts (prio_body n m (mask_in s.choice)) ∷ []) (prio_effects n.parts.prio own None)
        (signed_alone arts (prio_body n m (mask_in s.choice)))
        (silent_prio n.parts.prio own None)) h)
    go (Some refused) e f = by n output new n [] e f (plain n [] nothing h)
step_turns arts n (SetWeight v weight) output new s same h = go (weight_refusal n v weight) refl (ap (λ (o : Output). o.effects) s.0) s.1
  where
    body : Body
    body = weight_body n v weight

    done : NodeState
    done = signed_once n (record n.parts { weights = held n.parts.weights (signed_now arts n body) })

    go : (r : Option SendRefused) → weight_refusal n v weight ≡ r
        → output.effects ≡ (refused_send r (accepted (weight_number n v) (weight_sent arts n v weight))).effects
        → new ≡ kept_or r n done → Done n output new
    go None free e f =
        let placed = own_placed n v weight same free in
        by n output new done (weight_sent arts n v weight) e f
        (on n.parts.weights n.parts.weights (held n.parts.weights (signed_now arts n body)) (signed_effect arts body ∷ []) (weight_effects body)
        (plain n (signed_effect arts body ∷ []) (signed_alone arts body) h)
        (held_turns n.parts.weights (signed_now arts n body) (own_at n.parts.weights _ placed.0 placed.1) h))
    go (Some refused) free e f = by n output new n [] e f (plain n [] nothing h)
step_turns arts n (TakeRel src) output new s same h = by n output new (after_take_rel n src) [] (ap (λ (o : Output). o.effects) s.0) s.1 (plain n [] nothing h)
step_turns arts n (SendKrel m) output new s same h = go (send_krel_refusal n m s.choice) (ap (λ (o : Output). o.effects) s.output_is) s.new_is
  where
    done : NodeState
    done = signed_once n (record n.parts { kflow = pushed n.parts.kflow (signed_now arts n (krel_sends n m s.choice)) m.paths })

    go : (r : Option SendRefused) → output.effects ≡ (refused_send r (accepted (krel_number n m.dst) (krel_sent arts n m s.choice))).effects
        → new ≡ kept_or r n done
        → Done n output new
    go None e f =
        by n output new done (krel_sent arts n m s.choice) e f (plain n (krel_sent arts n m s.choice) (signed_alone arts (krel_sends n m s.choice)) h)
    go (Some refused) e f = by n output new n [] e f (plain n [] nothing h)
step_turns arts n (TakeKrel src) output new s same h =
    by n output new (after_take_krel n src) [] (ap (λ (o : Output). o.effects) s.0) s.1 (plain n [] nothing h)
step_turns arts n TakePrio output new s same h =
    by n output new (after_take_prio n) (rows.gone 0 whys.Taken (oldest n.parts.prio.inbox)) (ap (λ (o : Output). o.effects) s.0) s.1
    (plain n (rows.gone 0 whys.Taken (oldest n.parts.prio.inbox)) (silent_gone 0 whys.Taken (oldest n.parts.prio.inbox)) h)
step_turns arts n (Publish document) output new s same h =
    by n output new (after_publish arts n document) (publish_effects arts n document) (ap (λ (o : Output). o.effects) s.0) s.1
    (publishing arts n document (λ m told. Turns n.parts.weights told m.parts.weights) (plain n [] nothing h) (λ d reads by. adopted_turns n d.topology h))

-- ---- a life

same_edges : (arts : Arts) (n : NodeState) (input : Input) (output : Output) (new : NodeState) → NodeStep arts n input output new
    → n.parts.weights.edges ≡ n.fixed.topology.edges → new.parts.weights.edges ≡ new.fixed.topology.edges
same_edges arts n input output new s same =
    let shape = shapes_stay arts n input output new s in
    ap (λ (x : Shape). x.weights.edges) shape ∙ same ∙ sym (ap (λ (x : Shape). x.fixed.topology.edges) shape)

life_turns : (arts : Arts) (n : NodeState) (steps : List (Input × Output)) (last : NodeState) → Life arts n steps last
    → n.parts.weights.edges ≡ n.fixed.topology.edges → HasRows n.parts.weights → Turns n.parts.weights (effects_of_life steps) last.parts.weights
life_turns arts n [] last life same h = subst (λ (m : NodeState). Turns n.parts.weights [] m.parts.weights) (sym life) (plain n [] nothing h)
life_turns arts n (step ∷ steps) last life same h =
    let one = step_turns arts n step.0 step.1 life.0 life.1 same h in
    on n.parts.weights life.0.parts.weights last.parts.weights step.1.effects (effects_of_life steps) one
    (life_turns arts life.0 steps last life.2 (same_edges arts n step.0 step.1 life.0 life.1 same) one.rows)

pub weights_of_lives : WeightsOfLives
weights_of_lives arts f signer keys buffer store steps last good life edge e there =
    let t = f.topology in
    let s = last.parts.weights in
    let told = effects_of_life steps in
    let turns = begins f.epochs life in
    let below = ends_differ t.format (ids_of t.nodes) (0, 0) t.edges edge e good.graph.are_edges there in
    let low : row_said s (2 * edge) ≡ last_told edge e.low.0 0 told =
    turns.said edge e.low.0 (2 * edge) (record { joined = e; there = there; placed = low_row edge e })
    ∙ ap (λ (w : ℕ). last_told edge e.low.0 w told) (nothing_held (2 * length t.edges) (2 * edge)) in
    let high : row_said s (2 * edge + 1) ≡ last_told edge e.high.0 0 told =
    turns.said edge e.high.0 (2 * edge + 1) (record { joined = e; there = there; placed = high_row edge e below })
    ∙ ap (λ (w : ℕ). last_told edge e.high.0 w told) (nothing_held (2 * length t.edges) (2 * edge + 1)) in
    ap (λ (m : ℕ). max (minimum s edge) (max m (row_said s (2 * edge + 1)))) low
    ∙ ap (λ (m : ℕ). max (minimum s edge) (max (last_told edge e.low.0 0 told) m)) high
  where
    n : NodeState
    n = booted f signer keys buffer store

    begins : (epochs : Bool) → Life arts (cond epochs (announced arts n) n) steps last → Turns n.parts.weights (effects_of_life steps) last.parts.weights
    begins true life = life_turns arts (announced arts n) steps last life refl (record { rows = length-replicate (2 * length f.topology.edges) None })
    begins false life = life_turns arts n steps last life refl (record { rows = length-replicate (2 * length f.topology.edges) None })
