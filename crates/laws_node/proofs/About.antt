-- What a node signs itself speaks of nodes and edges of its topology, so it is good.
use Rattle.std.proofs.Common.{◌≡◌, ◌<◌, ◌≤◌, ℕ, zero, suc, ◌^◌, ◌==◌, ◌||◌, Bool, true, false, List, [], ◌∷◌, length, map, Option, Some, None, Ok, refl, sym}
use Rattle.std.proofs.Common.{ap}
use Rattle.std.proofs.Common.{◌∙◌, subst, arith, cond}
use Rattle.std.specs.Prelude.{IsTrue}
use Rattle.std.specs.List.{All, slice_get}
use Rattle.std.proofs.lemmas.Bool.Decides.{nat_tests}
use Rattle.std.proofs.lemmas.List.Elements.{All-cons, All-nil}
use Rattle.sp_base.specs.declared.id.Flow.{Flow}
use Rattle.sp_base.specs.declared.id.NodeId.{NodeId}
use Rattle.sp_base.specs.declared.limits.TheConstants.{MAX_PAYLOAD_BYTES, MAX_WEIGHT}
use Rattle.sp_msg.proofs.HalfLemmas.{bits_from}
use Rattle.sp_msg.specs.declared.body.Ack.{Ack}
use Rattle.sp_rules.proofs.FlowJudged.{both_nodes, room_is}
use Rattle.sp_rules.specs.Arts.{Arts}
use Rattle.sp_rules.specs.Flow.{FlowState, ends}
use Rattle.sp_rules.specs.Kflow.{ack_body, waiting_mask}
use Rattle.sp_rules.specs.KflowSends.{KSend, krel_refusal, krel_sends, no_mask, send_krel_refusal}
use Rattle.sp_rules.specs.Masks.{Choice, IsChoice, Mask, OnlyPaths, graph_of}
use Rattle.sp_rules.specs.Node.{NodeState, Signer}
use Rattle.sp_rules.specs.Parts.{Fixed, edge_to, flows_of, nodes_of}
use Rattle.sp_rules.specs.Prio.{is_node}
use Rattle.sp_rules.specs.Rel.{RelState, due, own_flow, pairs_of, room}
use Rattle.sp_rules.specs.Sends.{PrioSend, edge_or, mask_in, no_paths, prio_body, prio_refusal, rel_body, rel_refusal, send_prio_refusal, weight_body}
use Rattle.sp_rules.specs.Sends.{weight_refusal, weight_refusal_at}
use Rattle.sp_rules.specs.Ticks.{due_now}
use Rattle.sp_rules.specs.declared.kflow.FlowKind.{FlowKind}
use Rattle.sp_rules.specs.declared.kflow.FlowKind.TheVariants.{Plain, Paths}
use Rattle.sp_topology.specs.Keys.{key_of}
use Rattle.sp_topology.specs.Neighbours.{joins}
use Rattle.sp_topology.specs.declared.topology.NodeKey.{NodeKey}
use Rattle.sp_topology.specs.declared.topology.Topology.{Topology}
use Rattle.laws_node.specs.About.{HasNode, IsAbout}
use Rattle.laws_node.specs.Flows.{IsWithin, RelHolds}
use Rattle.laws_node.specs.Inputs.{ArtsFit, PrioSendFits}
use Rattle.laws_node.specs.Nodes.{NodeHolds}
use Rattle.laws_node.specs.Sizes.{Sizes}
use Rattle.laws_node.proofs.Boot.{flows_have}
use Rattle.laws_node.proofs.FlowKinds.{ack_is_about, flows_hold}
use Rattle.laws_node.proofs.Masks.{mask_within}
use Rattle.laws_node.proofs.Own.{in_own_format, either, listed, listed_prio, prio_free, prio_sent_fits, rel_free, rel_sent_fits, there_is_room}
use Rattle.laws_node.proofs.Own.{weight_sent_fits}
use Rattle.laws_node.proofs.OwnPaths.{KChoice, krel_about, krel_free, krel_sent_fits, room_of}
use Rattle.laws_node.proofs.Reliable.{dated_due, due_now_fits, due_row}
use Rattle.laws_node.proofs.Tables.{all_get, all_weaker, or_right}
use Rattle.laws_node.proofs.Updates.{place_within}

-- ---- nodes

each_is_there : (nodes : List NodeId) → All (λ (u : NodeId). is_node nodes u.0 ≡ true) nodes
each_is_there [] = All-nil (λ (u : NodeId). is_node [] u.0 ≡ true)
each_is_there (v ∷ nodes) =
    let same : (v.0 == v.0) ≡ true = grind (arith, nat_tests) in
    let here : is_node (v ∷ nodes) v.0 ≡ true = rw same refl in
    All-cons (λ (u : NodeId). is_node (v ∷ nodes) u.0 ≡ true) v nodes here
    (all_weaker (λ (u : NodeId). is_node nodes u.0 ≡ true) (λ (u : NodeId). is_node (v ∷ nodes) u.0 ≡ true) nodes
    (λ u there. or_right (v.0 == u.0) (is_node nodes u.0) there) (each_is_there nodes))

-- who has a key is a node
has_key : (id : ℕ) (nodes : List NodeKey) (key : List ℕ) → key_of id nodes ≡ Some key → is_node (map (λ n. n.id) nodes) id ≡ true
has_key id [] key e = absurd (cc)
has_key id (n ∷ nodes) key e = go (n.id.0 == id) (has_key id nodes key) e
  where
    go : (t : Bool) → (key_of id nodes ≡ Some key → is_node (map (λ m. m.id) nodes) id ≡ true)
        → cond t (Some n.key) (key_of id nodes) ≡ Some key → (t || is_node (map (λ m. m.id) nodes) id) ≡ true
    go true later e = refl
    go false later e = later e

pub me_is_there : (arts : Arts) (f : Fixed) (s : Signer) → ArtsFit arts f s → HasNode f.topology f.me
me_is_there arts f s fits = has_key f.me.0 f.topology.nodes fits.key fits.is_mine

-- ---- a reliable message

-- both ends of a flow that has room are nodes
pub own_about : (kind : FlowKind) (k : Sizes) (n : NodeState) (dst : NodeId) (number : ℕ) → room (flows_of kind n.parts) dst ≡ Ok number → NodeHolds k n
    → HasNode n.fixed.topology n.fixed.me × HasNode n.fixed.topology dst
own_about kind k n dst number e h =
    let r = flows_of kind n.parts in
    let within = flows_hold kind k n.parts h.parts in
    let nodes = both_nodes r (own_flow r dst) r.me dst (room_is r dst number e).0 in
    let known : r.nodes ≡ nodes_of n.fixed.topology = within.known ∙ sym h.fixed.nodes in
    let me : r.me ≡ n.fixed.me = within.me ∙ sym h.fixed.me in
    let from : is_node r.nodes n.fixed.me.0 ≡ true = subst (λ (u : NodeId). is_node r.nodes u.0 ≡ true) me (listed r r.me nodes.0) in
    let to : is_node r.nodes dst.0 ≡ true = listed r dst nodes.1 in
    (subst (λ (us : List NodeId). is_node us n.fixed.me.0 ≡ true) known from, subst (λ (us : List NodeId). is_node us dst.0 ≡ true) known to)

pub rel_about : (k : Sizes) (n : NodeState) (dst : NodeId) (payload : List ℕ) → rel_refusal n dst ≡ None → NodeHolds k n
    → IsAbout n.fixed.topology (rel_body n dst payload)
rel_about k n dst payload e h =
    let number = there_is_room (room n.parts.rel dst) (rel_free n dst e).0 in
    own_about Plain k n dst number.0 number.1 h

-- a reliable message that a node sends is in the ranges of its format
pub rel_good : (arts : Arts) (k : Sizes) (n : NodeState) (dst : NodeId) (payload : List ℕ) → ArtsFit arts n.fixed n.signer
    → length payload ≤ MAX_PAYLOAD_BYTES → rel_refusal n dst ≡ None → NodeHolds k n → IsTrue (arts.is_good (rel_body n dst payload))
rel_good arts k n dst payload fits short e h =
    fits.own (rel_body n dst payload) (in_own_format k n (rel_body n dst payload) h (rel_sent_fits k n dst payload short e h).fields)
    (rel_about k n dst payload e h)

-- ---- a priority message

pub prio_about : (k : Sizes) (n : NodeState) (m : PrioSend) (choice : Choice) → HasNode n.fixed.topology n.fixed.me → send_prio_refusal n m choice ≡ None
    → IsChoice n.parts.weights (graph_of n.fixed.topology n.parts.weights) n.fixed.me m.dst m.paths choice → NodeHolds k n
    → IsAbout n.fixed.topology (prio_body n m (mask_in choice))
prio_about k n m choice me e is h =
    let both = either (prio_refusal n m) (no_paths choice) e in
    let to : is_node n.parts.prio.nodes m.dst.0 ≡ true = listed_prio n.parts.prio m.dst.0 (prio_free n m both.0).dst in (
      me,
      subst (λ (us : List NodeId). is_node us m.dst.0 ≡ true) (h.parts.prio.known ∙ sym h.fixed.nodes) to,
      subst (λ (mask : ℕ). mask < 2 ^ length n.fixed.topology.edges) (sym (bits_from (mask_in choice))) (within choice both.1 is),
    )
  where
    within : (c : Choice) → no_paths c ≡ None → IsChoice n.parts.weights (graph_of n.fixed.topology n.parts.weights) n.fixed.me m.dst m.paths c
        → mask_in c < 2 ^ length n.fixed.topology.edges
    within (Mask mask) e is =
        mask_within n.fixed.topology n.parts.weights (graph_of n.fixed.topology n.parts.weights) n.fixed.me m.dst m.paths mask
        (h.parts.weights.edges ∙ sym h.fixed.edges) (h.parts.weights.least ∙ ap length (sym h.fixed.edges)) is
    within (OnlyPaths found) e is = absurd (cc)

-- a priority message that a node sends is in the ranges of its format
pub prio_good : (arts : Arts) (k : Sizes) (n : NodeState) (m : PrioSend) (choice : Choice) → ArtsFit arts n.fixed n.signer → PrioSendFits m
    → send_prio_refusal n m choice ≡ None → IsChoice n.parts.weights (graph_of n.fixed.topology n.parts.weights) n.fixed.me m.dst m.paths choice → NodeHolds k n
    → IsTrue (arts.is_good (prio_body n m (mask_in choice)))
prio_good arts k n m choice fits sizes e is h =
    fits.own (prio_body n m (mask_in choice)) (in_own_format k n (prio_body n m (mask_in choice)) h (prio_sent_fits k n m choice sizes e is h).fields)
    (prio_about k n m choice (me_is_there arts n.fixed n.signer fits) e is h)

-- ---- a weight

-- an update that a node signs is of an edge of its own
pub weight_about : (n : NodeState) (v : NodeId) (weight : ℕ) → HasNode n.fixed.topology n.fixed.me → weight_refusal n v weight ≡ None
    → IsAbout n.fixed.topology (weight_body n v weight)
weight_about n v weight me e = go (edge_to n.fixed v) refl e
  where
    go : (o : Option ℕ) → edge_to n.fixed v ≡ o → weight_refusal_at n o weight ≡ None → IsAbout n.fixed.topology (weight_body n v weight)
    go None is e = absurd (cc)
    go (Some edge) is e = (
      me,
      subst (λ (o : Option ℕ). edge_or o < length n.fixed.topology.edges) (sym is)
          (place_within (joins n.fixed.me.0 v.0) n.fixed.topology.edges edge is),
    )

-- an update that a node signs is in the ranges of its format
pub weight_good : (arts : Arts) (k : Sizes) (n : NodeState) (v : NodeId) (weight : ℕ) → ArtsFit arts n.fixed n.signer → 1 ≤ weight → weight ≤ MAX_WEIGHT
    → weight_refusal n v weight ≡ None → NodeHolds k n → IsTrue (arts.is_good (weight_body n v weight))
weight_good arts k n v weight fits least most e h =
    fits.own (weight_body n v weight) (in_own_format k n (weight_body n v weight) h (weight_sent_fits k n v weight least most e h).fields)
    (weight_about n v weight (me_is_there arts n.fixed n.signer fits) e)

-- ---- an acknowledgement

ends_at : (flows : List FlowState) (i : ℕ) (f : FlowState) → slice_get flows i ≡ Some f → slice_get (map ends flows) i ≡ Some (ends f)
ends_at [] i f at = absurd (cc)
ends_at (g ∷ flows) zero f at = let same : g ≡ f = cc in ap (λ (h : FlowState). Some (ends h)) same
ends_at (g ∷ flows) (suc i) f at = ends_at flows i f at

pub ack_about : (kind : FlowKind) (k : Sizes) (index : ℕ) (t : Topology) (r : RelState) (ack : Ack) → nodes_of t ≡ k.nodes → due r ≡ Some ack
    → RelHolds kind k index r → HasNode t ack.src × HasNode t ack.dst
ack_about kind k index t r ack nodes e h =
    let at = due_row r ack e in
    let each = each_is_there (nodes_of t) in
    let keys : map ends r.flows ≡ pairs_of (nodes_of t) = h.keys ∙ ap pairs_of (sym nodes) in
    let there : slice_get (pairs_of (nodes_of t)) at.place ≡ Some (ends at.row) =
    ap (λ (fs : List Flow). slice_get fs at.place) (sym keys) ∙ ends_at r.flows at.place at.row at.there in
    let both = all_get (λ (f : Flow). HasNode t f.src × HasNode t f.dst) (pairs_of (nodes_of t)) at.place (ends at.row)
    (flows_have (HasNode t) (nodes_of t) (nodes_of t) each each) there in
    subst (λ (a : Ack). HasNode t a.src × HasNode t a.dst) (sym at.is) both

-- the same of what is signed at a tick
pub due_now_about : (kind : FlowKind) (k : Sizes) (n : NodeState) (ack : Ack) → due_now kind n ≡ Some ack → NodeHolds k n
    → IsAbout n.fixed.topology (ack_body kind ack)
due_now_about kind k n ack e h =
    let d = dated_due kind n ack e in
    let t = n.fixed.topology in
    ack_is_about kind t ack
    (subst (λ (a : Ack). HasNode t a.src × HasNode t a.dst) (sym d.is)
    (ack_about kind k n.signer.index t (flows_of kind n.parts) d.raw h.fixed.nodes d.is_due (flows_hold kind k n.parts h.parts)))

-- an acknowledgement that a node signs is in the ranges of its format
pub ack_good : (kind : FlowKind) (arts : Arts) (k : Sizes) (n : NodeState) (ack : Ack) → ArtsFit arts n.fixed n.signer → due_now kind n ≡ Some ack
    → NodeHolds k n → IsTrue (arts.is_good (ack_body kind ack))
ack_good kind arts k n ack fits e h =
    fits.own (ack_body kind ack) (in_own_format k n (ack_body kind ack) h (due_now_fits kind k n ack e h.parts).fields) (due_now_about kind k n ack e h)

-- ---- a message on paths

-- it speaks of the topology where it isn't refused
pub krel_sent_about : (k : Sizes) (n : NodeState) (m : KSend) (choice : Choice) → krel_refusal n m ≡ None → IsWithin k (krel_sends n m choice) → NodeHolds k n
    → IsAbout n.fixed.topology (krel_sends n m choice)
krel_sent_about k n m choice e within h =
    let can = krel_free n m e in
    let both = own_about Paths k n m.dst can.place.seq (room_of n.parts.kflow m.dst m.paths can.place can.there).number h in
    krel_about k n m choice both.0 both.1 within h

-- a message on paths that a node sends is in the ranges of its format
pub krel_good : (arts : Arts) (k : Sizes) (n : NodeState) (m : KSend) (choice : Choice) → ArtsFit arts n.fixed n.signer
    → length m.payload ≤ MAX_PAYLOAD_BYTES → send_krel_refusal n m choice ≡ None → KChoice n m choice → NodeHolds k n
    → IsTrue (arts.is_good (krel_sends n m choice))
krel_good arts k n m choice fits short e is h =
    let sent = krel_sent_fits k n m choice short e is h in
    fits.own (krel_sends n m choice) (in_own_format k n (krel_sends n m choice) h sent.fields)
    (krel_sent_about k n m choice (either (krel_refusal n m) (no_mask (waiting_mask n.parts.kflow m.dst) choice) e).0 sent.within h)
