-- No step changes the shape of a node.
use Rattle.std.proofs.Common.{◌≡◌, ℕ, ◌*◌, Bool, true, false, List, [], ◌∷◌, length, map, map-id, Option, Some, None, refl, ap, ap₂, ◌∙◌, arith, cond}
use Rattle.std.specs.Prelude.{zip}
use Rattle.std.proofs.lemmas.Bool.Decides.{nat_tests}
use Rattle.std.proofs.lemmas.List.{length-replicate}
use Rattle.sp_base.specs.declared.id.Flow.{Flow}
use Rattle.sp_base.specs.declared.id.NodeId.{NodeId}
use Rattle.sp_msg.specs.declared.body.Ack.{Ack}
use Rattle.sp_msg.specs.declared.refused.SendRefused.{SendRefused}
use Rattle.sp_rules.specs.Arrivals.{arrival_at, before_document, document_at, handled, is_told, link_after, parts_met, pieces_in, pieces_where}
use Rattle.sp_rules.specs.Arrivals.{read_by, reply_at, rises, sections_in, version_after}
use Rattle.sp_rules.specs.Arts.{Arts}
use Rattle.sp_rules.specs.Documents.{under_topology}
use Rattle.sp_rules.specs.Flow.{after_take, ends, flow_said, no_flow, pushed}
use Rattle.sp_rules.specs.Kflow as kflow
use Rattle.sp_rules.specs.Kflow.{KState, ack_body}
use Rattle.sp_rules.specs.KflowSends.{krel_sends, send_krel_refusal}
use Rattle.sp_rules.specs.Link.{Link, advanced}
use Rattle.sp_rules.specs.Node.{announced, own_epoch, NodeState, booted, call_refusal, called, kept_or, link_in, link_of, signed_now, signed_once, with_link}
use Rattle.sp_rules.specs.Parts.{Parts, as_neighbour, bare_parts, empty_parts, flows_of, neighbours_of, nodes_of, with_flows}
use Rattle.sp_rules.specs.Polls.{is_served, parts_after}
use Rattle.sp_rules.specs.Prio as prio
use Rattle.sp_rules.specs.Prio.{PrioState}
use Rattle.sp_rules.specs.PrioPeer as rows
use Rattle.sp_rules.specs.Rel as rel
use Rattle.sp_rules.specs.Rel.{RelState}
use Rattle.sp_rules.specs.Sends.{own_prio, rel_body, rel_refusal, send_prio_refusal, signer_refusal, weight_body, weight_refusal}
use Rattle.sp_rules.specs.Steps.{Poll, Datagram, Tick, SendRel, SendPrio, SetWeight, TakeRel, TakePrio, SendKrel, TakeKrel, Publish}
use Rattle.sp_rules.specs.Lives as lives
use Rattle.sp_rules.specs.Lives.{are_held, is_dated, is_life, judge_epoch, no_life, origin_said}
use Rattle.sp_rules.specs.declared.lives.Life.{Life}
use Rattle.sp_rules.specs.Ticks.{after_plain, at_time, due_now, second_refusal, settled_by, time_after}
use Rattle.sp_rules.specs.Topologies.{removed_of, weights_in}
use Rattle.sp_rules.specs.Versions.{Heard, is_heard_of, none_heard, with_version}
use Rattle.sp_rules.specs.Weights as weights
use Rattle.sp_rules.specs.Weights.{WeightState}
use Rattle.sp_rules.specs.declared.kflow.FlowKind.{FlowKind}
use Rattle.sp_rules.specs.declared.kflow.FlowKind.TheVariants.{Plain, Paths}
use Rattle.sp_rules.specs.declared.kflow.PathsTo.{PathsTo}
use Rattle.sp_rules.specs.declared.prio.Neighbour.{Neighbour}
use Rattle.sp_topology.specs.declared.topology.Topology.{Topology}
use Rattle.laws_node.proofs.Adopting.{publishing, reading}
use Rattle.laws_node.specs.Shapes.{KShape, LinkShape, PeerShape, PrioShape, RelPeerShape, RelShape, Shape, ShapesBegin, ShapesStart, ShapesStay, WeightShape}
use Rattle.laws_node.specs.Shapes.{kflow_shape, link_shape, peer_shape, prio_shape, rel_peer_shape, rel_shape, shape_at_start, shape_of, view_ends}
use Rattle.laws_node.specs.Shapes.{weight_shape}
use Rattle.laws_node.proofs.RowShapes.{admitted_shape, expired_shape, held_shape, links_arrived}
use Rattle.laws_node.proofs.RowShapes.{links_polled, one_flow, rel_peer_with, replace_keyed, same_node, settled_shape, weight_with}
use Rattle.laws_node.proofs.PartShapes.{LivesShape, PartsShape, closed_shape, greeted_shape, held_lives, lives_shape, of_flows, of_kflow, of_lives}
use Rattle.laws_node.proofs.PartShapes.{of_prio, of_rel, of_weights, parts_shape, parts_with, pieces_shape, pushed_shape, served_parts}

-- ---- a node

-- whose versions are kept
abbrev heard_of : List Heard → List NodeId
heard_of hs = map (λ h. h.peer) hs

-- the shape of a node from those of what it heard, its links and its parts
abbrev node_shape : (n : NodeState) (hs : List NodeId) (ls : List LinkShape) (p : PartsShape) → Shape
node_shape n hs ls p =
    record {
      fixed = n.fixed;
      seed = n.signer.seed;
      bound = n.signer.bound;
      total = n.signer.total;
      links = ls;
      heard = hs;
      weights = p.weights;
      prio = p.prio;
      rel = p.rel;
      kflow = p.kflow;
      lives = p.lives.nodes;
      origins = p.lives.origins;
    }

done : (n : NodeState) (ls : List Link) (p : Parts) → map link_shape ls ≡ map link_shape n.links → parts_shape p ≡ parts_shape n.parts
    → node_shape n (heard_of n.heard) (map link_shape ls) (parts_shape p) ≡ shape_of n
done n ls p links parts = ap₂ (λ (xs : List LinkShape) (q : PartsShape). node_shape n (heard_of n.heard) xs q) links parts

-- a version is kept in the row of its neighbour
heard_shape : (told : Bool) (hs : List Heard) (v : NodeId) (version : ℕ) → heard_of (cond told (with_version hs v version) hs) ≡ heard_of hs
heard_shape false hs v version = refl
heard_shape true hs v version =
    replace_keyed (λ (h : Heard). h.peer) (is_heard_of v) (record { peer = v; version = version })
    (λ h is. same_node v h.peer (grind (arith, nat_tests, is))) hs

or_kept : {R : Type 0} (r : Option R) (old new : NodeState) → shape_of new ≡ shape_of old → shape_of (kept_or r old new) ≡ shape_of old
or_kept (Some x) old new e = refl
or_kept None old new e = e

settled_node : (arts : Arts) (kind : FlowKind) (n : NodeState) (due : Option Ack) (refusal : Option SendRefused)
    → shape_of (settled_by arts kind n due refusal) ≡ shape_of n
settled_node arts kind n None refusal = refl
settled_node arts kind n (Some ack) (Some refusal) = refl
settled_node arts kind n (Some ack) None =
    let o = signed_now arts n (ack_body kind ack) in
    let r = flows_of kind n.parts in
    done n n.links (with_flows kind (rel.settled r o) n.parts) refl
    (of_flows kind n.parts (rel.settled r o) (settled_shape r o (rel.due_place r)))

-- ---- another version of the topology

adopted_shape : (n : NodeState) (bytes : List ℕ) (t : Topology) → shape_of (under_topology n bytes t) ≡ shape_of n
adopted_shape n bytes t = done n n.links (under_topology n bytes t).parts refl (closed_shape n.parts (weights_in t.edges) (removed_of (nodes_of t) t.edges))

-- ---- each step

-- a node of which this part alone changed, with its links and its signer's index
pub shapes_stay : ShapesStay
shapes_stay arts n (Poll v) output new s =
    let ls = with_link n v (advanced (link_in n v)) in
    ap shape_of s.1 ∙ or_kept (call_refusal n v) n (called n ls (parts_after n v))
    (done n ls (parts_after n v) (links_polled n v) (served_parts n v (is_served n v)))
shapes_stay arts n (Datagram v bytes) output new s =
    let pieces = pieces_where (reply_at arts n v bytes) (pieces_in n.fixed (sections_in arts n.fixed bytes)) in
    let p = (handled arts n v bytes).parts in
    let ls = with_link n v (link_after arts n v bytes) in
    let left = before_document arts n v bytes in
    let heard = heard_shape (is_told arts n v bytes) n.heard v (version_after arts n v bytes) in
    let first : shape_of left ≡ shape_of n =
    ap (λ (hs : List NodeId). node_shape n hs (map link_shape ls) (parts_shape p)) heard
    ∙ done n ls p (links_arrived arts n v bytes) (pieces_shape arts (arrival_at n v) (parts_met arts n v bytes) pieces
    ∙ greeted_shape n.fixed.epochs (rises arts n v bytes) v n.parts) in
    ap shape_of s.1 ∙ or_kept (call_refusal n v) n (read_by arts left (document_at arts n v bytes))
    (reading arts left (document_at arts n v bytes) (λ m told. shape_of m ≡ shape_of left) refl
    (λ document d is reads by. adopted_shape left document d.topology) ∙ first)
shapes_stay arts n (Tick now) output new s =
    let m = at_time n now in
    ap shape_of s.1 ∙ (settled_node arts Paths (after_plain arts n now) (due_now Paths n) (second_refusal arts n now)
    ∙ (settled_node arts Plain m (due_now Plain n) (signer_refusal n.signer)
    ∙ done n n.links m.parts refl (of_prio n.parts m.parts.prio (expired_shape n.parts.prio (time_after n now)))))
shapes_stay arts n (SendRel dst payload) output new s =
    let o = signed_now arts n (rel_body n dst payload) in
    let r = rel.pushed_in n.parts.rel o in
    let p : Parts = record n.parts { rel = r } in
    ap shape_of s.1
    ∙ or_kept (rel_refusal n dst) n (signed_once n p)
    (done n n.links p refl (of_rel n.parts r (one_flow n.parts.rel (flow_said o.body) (λ f. pushed f o) (λ f. refl))))
shapes_stay arts n (SendPrio m) output new s =
    let o = own_prio arts n m s.choice in
    let q = prio.admit_prio n.parts.prio o None in
    let p : Parts = record n.parts { prio = q } in
    ap shape_of s.new_is
    ∙ or_kept (send_prio_refusal n m s.choice) n (signed_once n p) (done n n.links p refl (of_prio n.parts q (admitted_shape n.parts.prio o None)))
shapes_stay arts n (SetWeight v weight) output new s =
    let o = signed_now arts n (weight_body n v weight) in
    let w = weights.held n.parts.weights o in
    let p : Parts = record n.parts { weights = w } in
    ap shape_of s.1 ∙ or_kept (weight_refusal n v weight) n (signed_once n p) (done n n.links p refl (of_weights n.parts w (held_shape n.parts.weights o)))
shapes_stay arts n (TakeRel src) output new s =
    let r = rel.took n.parts.rel src in
    let p : Parts = record n.parts { rel = r } in
    ap shape_of s.1 ∙ done n n.links p refl (of_rel n.parts r (one_flow n.parts.rel (rel.flow_to_me n.parts.rel src) after_take (λ f. refl)))
shapes_stay arts n (SendKrel m) output new s =
    let o = signed_now arts n (krel_sends n m s.choice) in
    let f = kflow.pushed n.parts.kflow o m.paths in
    let p : Parts = record n.parts { kflow = f } in
    ap shape_of s.new_is
    ∙ or_kept (send_krel_refusal n m s.choice) n (signed_once n p) (done n n.links p refl (of_kflow n.parts f (pushed_shape n.parts.kflow o m.paths)))
shapes_stay arts n (TakeKrel src) output new s =
    let r = rel.took n.parts.kflow.flows src in
    let p = with_flows Paths r n.parts in
    ap shape_of s.1
    ∙ done n n.links p refl (of_flows Paths n.parts r (one_flow n.parts.kflow.flows (rel.flow_to_me n.parts.kflow.flows src) after_take (λ f. refl)))
shapes_stay arts n TakePrio output new s = ap shape_of s.1
shapes_stay arts n (Publish document) output new s =
    ap shape_of s.1 ∙ publishing arts n document (λ m told. shape_of m ≡ shape_of n) refl (λ d reads by. adopted_shape n document d.topology)

-- ---- the start of a life

fused : {X Y Z : Type 0} (f : Y → Z) (g : X → Y) (h : X → Z) → ((x : X) → f (g x) ≡ h x) → (xs : List X) → map f (map g xs) ≡ map h xs
fused f g h same [] = refl
fused {X} {Y} {Z} f g h same (x ∷ xs) = ap₂ (λ (z : Z) (zs : List Z). z ∷ zs) (same x) (fused f g h same xs)

same_views : (flows : List Flow) → map view_ends (map rel.no_view flows) ≡ flows
same_views [] = refl
same_views (f ∷ flows) = ap (λ (fs : List Flow). f ∷ fs) (same_views flows)

same_flows : (flows : List Flow) → map ends (map no_flow flows) ≡ flows
same_flows [] = refl
same_flows (f ∷ flows) = ap (λ (fs : List Flow). f ∷ fs) (same_flows flows)

same_lives : (nodes : List NodeId) → map (λ (l : Life). l.node) (map no_life nodes) ≡ nodes
same_lives [] = refl
same_lives (v ∷ nodes) = ap (λ (us : List NodeId). v ∷ us) (same_lives nodes)

abbrev rel_shape_with : (me : NodeId) (nodes : List NodeId) (bound : ℕ) → List RelPeerShape → RelShape
rel_shape_with me nodes bound peers = record { me = me; nodes = nodes; bound = bound; flows = rel.pairs_of nodes; peers = peers }

-- flows of a kind, where none is active
flows_begin : (me : NodeId) (nodes neighbours : List NodeId) (buffer : ℕ)
    → rel_shape (rel.start me nodes neighbours buffer) ≡ rel_shape_with me nodes buffer (map (λ (v : NodeId). rel_peer_with v (rel.pairs_of nodes)) neighbours)
flows_begin me nodes neighbours buffer =
    ap₂ (λ (fs : List Flow) (ps : List RelPeerShape). record { me = me; nodes = nodes; bound = buffer; flows = fs; peers = ps })
    (same_flows (rel.pairs_of nodes))
    (fused rel_peer_shape (rel.new_peer (rel.pairs_of nodes)) (λ v. record { peer = v; views = rel.pairs_of nodes })
    (λ v. ap (λ (fs : List Flow). rel_peer_with v fs) (same_views (rel.pairs_of nodes))) neighbours)

pub shapes_begin : ShapesBegin
shapes_begin f signer keys buffer store =
    let t = f.topology in
    let nodes = nodes_of t in
    let ns = neighbours_of f in
    let start = shape_at_start f signer keys buffer store in
    let links : map link_shape (map (link_of f) (zip ns keys)) ≡ start.links =
    fused link_shape (link_of f) (λ n. record { me = f.me; peer = n.0.0; boot = f.boot; key = n.1 }) (λ n. refl) (zip ns keys) in
    let places : map peer_shape (map (rows.new_peer store) (map as_neighbour ns)) ≡ start.prio.peers =
    fused peer_shape (rows.new_peer store) (λ n. record { peer = n.id.0; edge = n.edge.0; capacity = store }) (λ n. refl) (map as_neighbour ns)
    ∙ fused (λ (n : Neighbour). record { peer = n.id.0; edge = n.edge.0; capacity = store }) as_neighbour
    (λ n. record { peer = n.0.0; edge = n.1.0; capacity = store }) (λ n. refl) ns in
    let peers : rel_shape_with f.me nodes buffer (map (λ (v : NodeId). rel_peer_with v (rel.pairs_of nodes)) (map (λ n. n.0) ns)) ≡ start.rel =
    ap (rel_shape_with f.me nodes buffer)
    (fused (λ (v : NodeId). rel_peer_with v (rel.pairs_of nodes)) (λ n. n.0) (λ n. record { peer = n.0; views = rel.pairs_of nodes }) (λ n. refl) ns) in
    let updates : weight_shape (weights.start t) ≡ start.weights =
    ap₂ (λ (r : ℕ) (c : ℕ). weight_with t.edges r c) (length-replicate (2 * length t.edges) None) (length-replicate (length t.nodes) None) in
    let urgent : prio_shape (prio.start f.me.0 nodes (map as_neighbour ns) store) ≡ start.prio =
    ap₂ (λ (ps : List PeerShape) (n : ℕ). record { me = f.me.0; nodes = nodes; inbox = store; peers = ps; windows = n }) places
    (length-replicate (length nodes) []) in
    let reliable : rel_shape (rel.start f.me nodes (map (λ n. n.0) ns) buffer) ≡ start.rel = flows_begin f.me nodes (map (λ n. n.0) ns) buffer ∙ peers in
    let on_paths : kflow_shape (kflow.start f.me nodes (map as_neighbour ns) buffer) ≡ start.kflow =
    ap₂ (λ (x : RelShape) (us : List NodeId). record { flows = x; edges = map as_neighbour ns; nodes = us })
    (ap (λ (vs : List NodeId). rel_shape (rel.start f.me nodes vs buffer)) (fused (λ (n : Neighbour). n.id) as_neighbour (λ n. n.0) (λ n. refl) ns)
    ∙ reliable)
    (fused (λ (row : PathsTo). row.dst) kflow.no_paths (λ (v : NodeId). v) (λ v. refl) nodes ∙ map-id nodes) in
    let rows : map (λ l. l.node) (map no_life nodes) ≡ nodes = same_lives nodes in
    let known : lives_shape (bare_parts f buffer store) ≡ (record { nodes = nodes; origins = length t.nodes }) =
    ap₂ (λ (us : List NodeId) (c : ℕ). record { nodes = us; origins = c }) rows (length-replicate (length t.nodes) None) in
    let bare = bare_parts f buffer store in
    let ls : LivesShape = record { nodes = nodes; origins = length t.nodes } in
    let parts : parts_shape (empty_parts f buffer store) ≡ parts_with ls start.weights start.prio start.rel start.kflow =
    closed_shape bare (weights_in t.edges) (removed_of nodes t.edges)
    ∙ ap₂ (λ (x : LivesShape) (w : WeightShape). parts_with x w (prio_shape bare.prio) (rel_shape bare.rel) (kflow_shape bare.kflow)) known updates
    ∙ ap₂ (λ (s : PrioShape) (r : RelShape). parts_with ls start.weights s r (kflow_shape bare.kflow)) urgent reliable
    ∙ ap (λ (x : KShape). parts_with ls start.weights start.prio start.rel x) on_paths in
    let heard : heard_of (booted f signer keys buffer store).heard ≡ start.heard =
    fused (λ (h : Heard). h.peer) (λ n. none_heard n.0) (λ n. n.0) (λ n. refl {a = n.0}) ns in
    ap (λ (hs : List NodeId). node_shape (booted f signer keys buffer store) hs (map link_shape (map (link_of f) (zip ns keys)))
    (parts_shape (empty_parts f buffer store))) heard
    ∙ ap₂ (λ (ls : List LinkShape) (p : PartsShape). node_shape (booted f signer keys buffer store) start.heard ls p) links parts

announced_shape : (arts : Arts) (n : NodeState) → shape_of (announced arts n) ≡ shape_of n
announced_shape arts n =
    let o = signed_now arts n (own_epoch n.fixed) in
    let p : Parts = record n.parts { lives = lives.held n.parts.lives o } in
    done n n.links p refl (of_lives n.parts (lives.held n.parts.lives o) (held_lives n.parts.lives o))

pub shapes_start : ShapesStart
shapes_start arts f signer keys buffer store = go f.epochs ∙ shapes_begin f signer keys buffer store
  where
    n : NodeState
    n = booted f signer keys buffer store

    go : (epochs : Bool) → shape_of (cond epochs (announced arts n) n) ≡ shape_of n
    go true = announced_shape arts n
    go false = refl
