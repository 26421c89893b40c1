-- The parts of a node obey its topology: at the start, and over any step.
use Rattle.std.proofs.Common.{All, ap, ap₂, cond, Bool, ◌&&◌, ◌||◌, ◌≡◌, ◌∙◌, ℕ, true, false, not, List, [], ◌∷◌, filter, length, map, Option, Some, None, Ok}
use Rattle.std.proofs.Common.{refl, subst, sym}
use Rattle.std.proofs.lemmas.List.Elements.{All-cons, All-nil}
use Rattle.sp_base.specs.declared.id.NodeId.{NodeId}
use Rattle.sp_msg.specs.declared.body.Ack.{Ack}
use Rattle.sp_msg.specs.declared.kept.Kept.{Kept}
use Rattle.sp_msg.specs.declared.refused.SendRefused.{SendRefused}
use Rattle.sp_rules.proofs.FlowJudged.{both_nodes, found_ends, room_is}
use Rattle.sp_rules.specs.Arrivals.{arrival_at, before_document, document_at, parts_met, pieces_in, pieces_where, read_by, reply_at, rises, sections_in}
use Rattle.sp_rules.specs.Arts.{Arts, Document}
use Rattle.sp_rules.specs.Documents.{under_topology}
use Rattle.sp_rules.specs.Flow.{FlowState, after_take, concluded, ended, ends, flow_said, pushed}
use Rattle.sp_rules.specs.Kflow as kflow
use Rattle.sp_rules.specs.Kflow.{ack_body, waiting_mask}
use Rattle.sp_rules.specs.KflowSends.{krel_refusal, krel_sends, no_mask, send_krel_refusal}
use Rattle.sp_rules.specs.Link.{advanced}
use Rattle.sp_rules.specs.Node.{NodeState, Signer, announced, booted, call_refusal, called, kept_or, link_in, signed_now, signed_once, topology_now, with_link}
use Rattle.sp_rules.specs.Parts as parts
use Rattle.sp_rules.specs.Parts.{Fixed, Parts, bare_parts, flows_of, nodes_of, with_flows}
use Rattle.sp_rules.specs.Polls.{is_served, parts_after, polled}
use Rattle.sp_rules.specs.Prio as prio
use Rattle.sp_rules.specs.PrioPeer as rows
use Rattle.sp_rules.specs.PrioPeer.{PrioPeer, has_end_in, leaves}
use Rattle.sp_rules.specs.Rel as rel
use Rattle.sp_rules.specs.Rel.{RelState, ended_where, flow_in, is_over, own_flow, room}
use Rattle.sp_rules.specs.Sends.{no_paths, own_prio, prio_refusal, rel_body, rel_refusal, send_prio_refusal, signer_refusal, weight_body, weight_refusal}
use Rattle.sp_rules.specs.Steps.{Poll, Datagram, Tick, SendRel, SendPrio, SetWeight, TakeRel, TakePrio, SendKrel, TakeKrel, Publish}
use Rattle.sp_rules.specs.Ticks.{after_plain, at_time, due_now, second_refusal, settled_by, time_after}
use Rattle.sp_rules.specs.Topologies.{is_shut, removed_of, under, weights_in}
use Rattle.sp_rules.specs.Weights.{held}
use Rattle.sp_rules.specs.declared.kflow.FlowKind.{FlowKind}
use Rattle.sp_rules.specs.declared.kflow.FlowKind.TheVariants.{Plain, Paths}
use Rattle.sp_rules.specs.declared.store.Entry.{Entry}
use Rattle.sp_topology.specs.declared.topology.Edge.{Edge}
use Rattle.sp_topology.specs.declared.topology.NodeKey.{NodeKey}
use Rattle.laws_node.specs.Nodes.{NodeHolds}
use Rattle.laws_node.specs.Sizes.{Sizes}
use Rattle.laws_node.specs.Withdrawals.{EachStepObeys, FlowObeys, IsSized, Obeys, PartsObey, RowObeys, StartObeys, removed_now}
use Rattle.laws_node.proofs.Adopting.{IsAdopted, publishing, reading}
use Rattle.laws_node.proofs.Obeying.{RelObeys, admitted_obeys, between, carried_obeys, expired_obeys, flows_part, greeted_obeys, live_flow, not_over, of_flows}
use Rattle.laws_node.proofs.Obeying.{of_prio, one_peer, pieces_obey, prio_part, same_flow, served_obeys}
use Rattle.laws_node.proofs.Own.{either, prio_free, rel_free, there_is_room}
use Rattle.laws_node.proofs.OwnPaths.{krel_free, room_of}
use Rattle.laws_node.proofs.Priority.{all_map}
use Rattle.laws_node.proofs.Successors.{later, under_later}
use Rattle.laws_node.proofs.Tables.{all_weaker, cond_either}

-- ---- what a version leaves

every : {X Y : Type 0} (Q : Y → Type 0) (f : X → Y) → ((x : X) → Q (f x)) → (xs : List X) → All Q (map f xs)
every Q f each [] = All-nil Q
every Q f each (x ∷ xs) = All-cons Q (f x) (map f xs) (each x) (every Q f each xs)

passing : {X : Type 0} (test : X → Bool) (xs : List X) → All (λ x. test x ≡ true) (filter test xs)
passing test [] = All-nil (λ x. test x ≡ true)
passing test (x ∷ xs) = go (passing test xs) (test x) refl
  where
    go : All (λ y. test y ≡ true) (filter test xs) → (t : Bool) → test x ≡ t → All (λ y. test y ≡ true) (cond t (x ∷ filter test xs) (filter test xs))
    go rest true e = All-cons (λ y. test y ≡ true) x (filter test xs) e rest
    go rest false e = rest

none_pass : (removed : List NodeId) (es : List Entry) → filter (λ e. not (leaves true removed e)) es ≡ []
none_pass removed [] = refl
none_pass removed (e ∷ es) = none_pass removed es

row_closed : (least : List ℕ) (removed : List NodeId) (q : PrioPeer) → RowObeys least removed (rows.closed least removed q)
row_closed least removed q = record {
  shut = refl;
  empty = λ is. ap (λ (t : Bool). filter (λ e. not (leaves t removed e)) q.store.entries) is ∙ none_pass removed q.store.entries;
  ends = all_weaker (λ e. stays e ≡ true) (λ e. has_end_in removed e ≡ false) (filter stays q.store.entries)
      (λ e here. free (is_shut least q.edge) (has_end_in removed e) here) (passing stays q.store.entries);
}
  where
    stays : Entry → Bool
    stays e = not (leaves (is_shut least q.edge) removed e)

    free : (a b : Bool) → not (a || b) ≡ true → b ≡ false
    free false false e = refl
    free false true e = absurd (cc)
    free true b e = absurd (cc)

flow_closed : (removed : List NodeId) (f : FlowState) → FlowObeys removed (ended_where removed f)
flow_closed removed f = go f.active refl (is_over removed (ends f)) refl
  where
    go : (a : Bool) → f.active ≡ a → (b : Bool) → is_over removed (ends f) ≡ b → FlowObeys removed (cond (a && b) (ended f) f)
    go true on true over = λ is. refl
    go true on false over = λ is. absurd (let both : true ≡ false = sym is ∙ over in cc)
    go false off b over = λ is. off

pub closed_obeys : (p : Parts) (least : List ℕ) (removed : List NodeId) → PartsObey least removed (parts.closed p least removed)
closed_obeys p least removed = record {
  least = refl;
  prio = refl;
  rows = every (RowObeys least removed) (rows.closed least removed) (row_closed least removed) p.prio.peers;
  rel = refl;
  flows = every (FlowObeys removed) (ended_where removed) (flow_closed removed) p.rel.flows;
  kflow = refl;
  on_paths = every (FlowObeys removed) (ended_where removed) (flow_closed removed) p.kflow.flows.flows;
}

-- the first edges under their own weights
pub under_own : (edges : List Edge) → under edges (weights_in edges) ≡ edges
under_own [] = refl
under_own (e ∷ edges) = ap (λ (es : List Edge). e ∷ es) (under_own edges)

-- a node at its start keeps nothing that its topology withdraws
pub booted_obeys : (f : Fixed) (signer : Signer) (keys : List (List ℕ)) (buffer store : ℕ) → Obeys (booted f signer keys buffer store)
booted_obeys f signer keys buffer store =
    let t = f.topology in
    subst (λ (es : List Edge). PartsObey (weights_in t.edges) (removed_of (nodes_of t) es) (booted f signer keys buffer store).parts) (sym (under_own t.edges))
    (closed_obeys (bare_parts f buffer store) (weights_in t.edges) (removed_of (nodes_of t) t.edges))

-- also where the node signed its boot
pub start_obeys : StartObeys
start_obeys arts f signer keys buffer store = cond_either Obeys f.epochs (announced arts n) n (record {
  least = h.least;
  prio = h.prio;
  rows = h.rows;
  rel = h.rel;
  flows = h.flows;
  kflow = h.kflow;
  on_paths = h.on_paths;
}) h
  where
    n : NodeState
    n = booted f signer keys buffer store

    h : Obeys n
    h = booted_obeys f signer keys buffer store

adopted_obeys : (arts : Arts) (n : NodeState) (bytes : List ℕ) (d : Document) → length n.live.weights ≡ length n.fixed.topology.edges
    → IsAdopted arts n d → Obeys (under_topology n bytes d.topology)
adopted_obeys arts n bytes d count by =
    let t = d.topology in
    let l = later (topology_now n) t by.follows in
    let nodes : nodes_of t ≡ nodes_of n.fixed.topology = ap (λ (ns : List NodeKey). map (λ m. m.id) ns) (sym l.nodes) in
    let edges = under_later n.fixed.topology.edges n.live.weights t.edges count l.ends in
    let gone : removed_of (nodes_of t) t.edges ≡ removed_now (under_topology n bytes t) =
    ap₂ (λ (ns : List NodeId) (es : List Edge). removed_of ns es) nodes (sym edges) in
    subst (λ (g : List NodeId). PartsObey (weights_in t.edges) g (parts.closed n.parts (weights_in t.edges) (removed_of (nodes_of t) t.edges))) gone
    (closed_obeys n.parts (weights_in t.edges) (removed_of (nodes_of t) t.edges))

-- ---- each step

or_obeys : {R : Type 0} (P : NodeState → Type 0) (old done : NodeState) (r : Option R) → P old → (r ≡ None → P done) → P (kept_or r old done)
or_obeys P old done (Some x) h new = h
or_obeys P old done None h new = new refl

-- what a node keeps has it
pub sized : (k : Sizes) (n : NodeState) → NodeHolds k n → IsSized n
sized k n h =
    record { weights = h.live.count ∙ sym (ap length h.fixed.edges); me = h.parts.rel.me ∙ sym h.fixed.me; on_paths = h.parts.kflow.me ∙ sym h.fixed.me }

polled_obeys : (n : NodeState) (v : NodeId) → Obeys n → PartsObey n.live.weights (removed_now n) (parts_after n v)
polled_obeys n v h =
    let weights = n.live.weights in
    let gone = removed_now n in
    let q = one_peer weights gone n.parts.prio v.0 rows.carried (carried_obeys weights gone) (prio_part weights gone n.parts h) in
    let r = served_obeys weights gone n.parts.rel v (rel.next_place n.parts.rel v) (flows_part weights gone Plain n.parts h) in
    let f = served_obeys weights gone n.parts.kflow.flows v (rel.next_place n.parts.kflow.flows v) (flows_part weights gone Paths n.parts h) in
    cond_either (PartsObey weights gone) (is_served n v) (polled n.fixed n.parts v) n.parts
    (record { least = h.least; prio = q.known; rows = q.rows_are; rel = r.known; flows = r.flows_are; kflow = f.known; on_paths = f.flows_are }) h

settled_obeys : (kind : FlowKind) (arts : Arts) (n : NodeState) (o : Option Ack) (r : Option SendRefused) → Obeys n → Obeys (settled_by arts kind n o r)
settled_obeys kind arts n None r h = h
settled_obeys kind arts n (Some ack) (Some refusal) h = h
settled_obeys kind arts n (Some ack) None h = of_flows weights gone kind n.parts (rel.settled r o) (go (rel.due_place r)) h
  where
    weights : List ℕ
    weights = n.live.weights

    gone : List NodeId
    gone = removed_now n

    r : RelState
    r = flows_of kind n.parts

    o : Kept
    o = signed_now arts n (ack_body kind ack)

    go : (place : Option ℕ) → RelObeys weights gone (rel.settled_at r o place)
    go None = flows_part weights gone kind n.parts h
    go (Some place) =
        let k = same_flow weights gone r (flow_said o.body) (λ f. concluded f o) (λ f ok. ok) (flows_part weights gone kind n.parts h) in
        record { known = k.known; flows_are = k.flows_are }

-- what the pieces of a frame leave
pub left_obeys : (arts : Arts) (n : NodeState) (v : NodeId) (bytes : List ℕ) → Obeys n → Obeys (before_document arts n v bytes)
left_obeys arts n v bytes h =
    let weights = n.live.weights in
    let gone = removed_now n in
    pieces_obey weights gone arts (arrival_at n v) (parts_met arts n v bytes)
    (pieces_where (reply_at arts n v bytes) (pieces_in n.fixed (sections_in arts n.fixed bytes)))
    (greeted_obeys weights gone n.fixed.epochs (rises arts n v bytes) v n.parts h)

-- the next message of an own flow is kept
pushed_obeys : (weights : List ℕ) (gone : List NodeId) (r : RelState) (me dst : NodeId) (number : ℕ) (o : Kept)
    → flow_said o.body ≡ record { src = me; dst = dst } → r.me ≡ me → room r dst ≡ Ok number → RelObeys weights gone r
    → RelObeys weights gone (rel.pushed_in r o)
pushed_obeys weights gone r me dst number o said mine e k =
    let nodes = both_nodes r (own_flow r dst) r.me dst (room_is r dst number e).0 in
    let free : is_over gone (flow_said o.body) ≡ false =
    ap (is_over gone) (said ∙ ap (λ (u : NodeId). record { src = u; dst = dst }) (sym mine)) ∙ not_over weights gone r (own_flow r dst) k nodes.0 nodes.1 in
    live_flow weights gone r (flow_said o.body) (pushed (flow_in r.flows (flow_said o.body)) o) (found_ends r.flows (flow_said o.body)) free k

pub step_obeys : EachStepObeys
step_obeys arts n (Poll v) output new kept s h =
    subst Obeys (sym s.1)
    (or_obeys Obeys n (called n (with_link n v (advanced (link_in n v))) (parts_after n v)) (call_refusal n v) h (λ e. polled_obeys n v h))
step_obeys arts n (Datagram v bytes) output new kept s h =
    let left = before_document arts n v bytes in
    let first = left_obeys arts n v bytes h in
    subst Obeys (sym s.1) (or_obeys Obeys n (read_by arts left (document_at arts n v bytes)) (call_refusal n v) h
    (λ e. reading arts left (document_at arts n v bytes) (λ m told. Obeys m) first
    (λ document d is reads by. adopted_obeys arts left document d kept.weights by)))
step_obeys arts n (Tick now) output new kept s h =
    let time = time_after n now in
    let older : Obeys (at_time n now) = record {
      least = h.least;
      prio = h.prio;
      rows = all_map (RowObeys n.live.weights (removed_now n)) (RowObeys n.live.weights (removed_now n)) (λ q. rows.expired q time)
          (expired_obeys n.live.weights (removed_now n) time) n.parts.prio.peers h.rows;
      rel = h.rel;
      flows = h.flows;
      kflow = h.kflow;
      on_paths = h.on_paths;
    } in
    subst Obeys (sym s.1) (settled_obeys Paths arts (after_plain arts n now) (due_now Paths n) (second_refusal arts n now)
    (settled_obeys Plain arts (at_time n now) (due_now Plain n) (signer_refusal n.signer) older))
step_obeys arts n (SendRel dst payload) output new kept s h =
    let o = signed_now arts n (rel_body n dst payload) in
    subst Obeys (sym s.1) (or_obeys Obeys n (signed_once n (record n.parts { rel = rel.pushed_in n.parts.rel o })) (rel_refusal n dst) h
    (λ e.
    let number = there_is_room (room n.parts.rel dst) (rel_free n dst e).0 in
    of_flows n.live.weights (removed_now n) Plain n.parts (rel.pushed_in n.parts.rel o)
    (pushed_obeys n.live.weights (removed_now n) n.parts.rel n.fixed.me dst number.0 o refl kept.me number.1
    (flows_part n.live.weights (removed_now n) Plain n.parts h)) h))
step_obeys arts n (SendKrel m) output new kept s h =
    let r = n.parts.kflow.flows in
    let o = signed_now arts n (krel_sends n m s.choice) in
    subst Obeys (sym s.new_is)
    (or_obeys Obeys n (signed_once n (record n.parts { kflow = kflow.pushed n.parts.kflow o m.paths })) (send_krel_refusal n m s.choice) h
    (λ e.
    let can = krel_free n m (either (krel_refusal n m) (no_mask (waiting_mask n.parts.kflow m.dst) s.choice) e).0 in
    let number = (room_of n.parts.kflow m.dst m.paths can.place can.there).number in
    let k = pushed_obeys n.live.weights (removed_now n) r n.fixed.me m.dst can.place.seq o refl kept.on_paths number
    (flows_part n.live.weights (removed_now n) Paths n.parts h) in
    record { least = h.least; prio = h.prio; rows = h.rows; rel = h.rel; flows = h.flows; kflow = k.known; on_paths = k.flows_are }))
step_obeys arts n (SendPrio m) output new kept s h =
    let p = n.parts.prio in
    let o = own_prio arts n m s.choice in
    let weights = n.live.weights in
    let gone = removed_now n in
    subst Obeys (sym s.new_is) (or_obeys Obeys n (signed_once n (record n.parts { prio = prio.admit_prio p o None })) (send_prio_refusal n m s.choice) h
    (λ e.
    let there = prio_free n m (either (prio_refusal n m) (no_paths s.choice) e).0 in
    let k = prio_part weights gone n.parts h in
    of_prio weights gone n.parts (prio.admit_prio p o None)
    (admitted_obeys weights gone p o None (between weights gone p _ k there.me there.dst o refl) k) h))
step_obeys arts n (SetWeight v weight) output new kept s h =
    let o = signed_now arts n (weight_body n v weight) in
    subst Obeys (sym s.1) (or_obeys Obeys n (signed_once n (record n.parts { weights = held n.parts.weights o })) (weight_refusal n v weight) h
    (λ e. record { least = h.least; prio = h.prio; rows = h.rows; rel = h.rel; flows = h.flows; kflow = h.kflow; on_paths = h.on_paths }))
step_obeys arts n (TakeRel src) output new kept s h =
    let k = same_flow n.live.weights (removed_now n) n.parts.rel (rel.flow_to_me n.parts.rel src) after_take (λ f ok. ok)
    (flows_part n.live.weights (removed_now n) Plain n.parts h) in
    subst Obeys (sym s.1)
    (record { least = h.least; prio = h.prio; rows = h.rows; rel = k.known; flows = k.flows_are; kflow = h.kflow; on_paths = h.on_paths })
step_obeys arts n (TakeKrel src) output new kept s h =
    let r = n.parts.kflow.flows in
    let k = same_flow n.live.weights (removed_now n) r (rel.flow_to_me r src) after_take (λ f ok. ok)
    (flows_part n.live.weights (removed_now n) Paths n.parts h) in
    subst Obeys (sym s.1)
    (record { least = h.least; prio = h.prio; rows = h.rows; rel = h.rel; flows = h.flows; kflow = k.known; on_paths = k.flows_are })
step_obeys arts n TakePrio output new kept s h =
    subst Obeys (sym s.1)
    (record { least = h.least; prio = h.prio; rows = h.rows; rel = h.rel; flows = h.flows; kflow = h.kflow; on_paths = h.on_paths })
step_obeys arts n (Publish document) output new kept s h =
    subst Obeys (sym s.1) (publishing arts n document (λ m told. Obeys m) h (λ d reads by. adopted_obeys arts n document d kept.weights by))
