-- A node holds all that it keeps at the start of its life.
use Rattle.std.proofs.Common.{◌≡◌, ◌<◌, ◌≤◌, ℕ, zero, suc, ◌+◌, ◌*◌, ◌^◌, ◌==◌, not, true, List, [], ◌∷◌, ◌++◌, length, map, filter, replicate, Option, Some}
use Rattle.std.proofs.Common.{None, refl, sym, ap, ◌∙◌, subst, arith}
use Rattle.std.specs.Prelude.{IfSome, IsTrue, zip}
use Rattle.std.specs.List.{All, AllPairs, flat_map}
use Rattle.std.proofs.lemmas.Bool.Decides.{nat_tests}
use Rattle.std.proofs.lemmas.List.{length-map, length-replicate}
use Rattle.std.proofs.lemmas.List.Concat.{flat_map-cons}
use Rattle.std.proofs.lemmas.List.Elements.{All-cons, All-head, All-nil, All-tail}
use Rattle.std.proofs.lemmas.List.Kept.{AllPairs-cons, AllPairs-filter}
use Rattle.sp_base.proofs.FormatLemmas.{few_nodes}
use Rattle.sp_base.specs.Formats.{max_nodes}
use Rattle.sp_base.specs.declared.id.EdgeId.{EdgeId}
use Rattle.sp_base.specs.declared.id.Flow.{Flow}
use Rattle.sp_base.specs.declared.id.NodeId.{NodeId}
use Rattle.sp_base.specs.declared.limits.TheConstants.{MAX_WEIGHT}
use Rattle.sp_msg.specs.declared.kept.Kept.{Kept}
use Rattle.sp_rules.specs.Flow.{ends, no_flow}
use Rattle.sp_rules.specs.Node.{Signer, booted, link_of}
use Rattle.sp_rules.specs.Parts.{Fixed, as_neighbour, bare_parts, is_signed, neighbours_of, nodes_of}
use Rattle.sp_rules.specs.PrioPeer.{new_peer}
use Rattle.sp_rules.specs.Rel as rel
use Rattle.sp_rules.specs.Rel.{flows_from, pairs_of}
use Rattle.sp_rules.specs.Topologies.{removed_of, weights_in}
use Rattle.sp_rules.specs.Weights.{held_in}
use Rattle.sp_rules.specs.declared.prio.Neighbour.{Neighbour}
use Rattle.sp_topology.specs.Neighbours.{neighbour, neighbours_from, other_end}
use Rattle.sp_topology.specs.Ranges.{AreEdges, AreNodes, has_id, ids_of, ends_of}
use Rattle.sp_topology.specs.declared.topology.Edge.{Edge}
use Rattle.sp_topology.specs.declared.topology.LmsHeight.{LmsHeight}
use Rattle.sp_topology.specs.declared.topology.NodeKey.{NodeKey}
use Rattle.laws_node.proofs.HeldBoots.{no_lives_hold}
use Rattle.sp_rules.specs.declared.kflow.FlowKind.{FlowKind}
use Rattle.sp_rules.specs.declared.kflow.FlowKind.TheVariants.{Plain, Paths}
use Rattle.laws_node.specs.Flows.{Differ, FlowHolds, RelHolds}
use Rattle.laws_node.specs.Laws.{BootKeeps}
use Rattle.laws_node.specs.Inputs.{Boots}
use Rattle.laws_node.specs.Nodes.{LinkHolds, NodeHolds, sizes_of}
use Rattle.laws_node.specs.Sizes.{IsNode, Sizes, ids_after, numbers_after}
use Rattle.laws_node.specs.Stores.{EntryHolds, PrioPeerHolds}
use Rattle.laws_node.specs.Updates.{UpdateHolds}
use Rattle.laws_node.proofs.Flows.{no_flow_holds}
use Rattle.laws_node.proofs.Successors.{length_weights}
use Rattle.laws_node.proofs.Withdrawals.{closed_holds}
use Rattle.laws_node.proofs.Lost.{all_filter}
use Rattle.laws_node.proofs.Priority.{all_map, peer_more}
use Rattle.laws_node.proofs.Tables.{all_weaker, cond_either, or_where}

-- ---- the nodes

abbrev Other : NodeId → NodeId → Type 0
Other u v = ¬ (u ≡ v)

-- the nodes of a topology in its ranges are nodes of its format
pub nodes_hold : (format : ℕ) (height : LmsHeight) (before : ℕ) (nodes : List NodeKey) → AreNodes format height before nodes
    → All (IsNode format) (map (λ n. n.id) nodes)
nodes_hold format height before [] are = All-nil (IsNode format)
nodes_hold format height before (n ∷ nodes) are =
    All-cons (IsNode format) n.id (map (λ m. m.id) nodes) (omega (arith, are.0.0), are.0.1) (nodes_hold format height n.id.0 nodes are.2)

above : (format : ℕ) (height : LmsHeight) (before : ℕ) (nodes : List NodeKey) → AreNodes format height before nodes
    → All (λ (u : NodeId). before < u.0) (map (λ n. n.id) nodes)
above format height before [] are = All-nil (λ (u : NodeId). before < u.0)
above format height before (n ∷ nodes) are =
    All-cons (λ (u : NodeId). before < u.0) n.id (map (λ m. m.id) nodes) are.0.0
    (all_weaker (λ (u : NodeId). n.id.0 < u.0) (λ (u : NodeId). before < u.0) (map (λ m. m.id) nodes) (λ u far. omega (arith, far, are.0.0))
    (above format height n.id.0 nodes are.2))

pub nodes_once : (format : ℕ) (height : LmsHeight) (before : ℕ) (nodes : List NodeKey) → AreNodes format height before nodes
    → AllPairs Other (map (λ n. n.id) nodes)
nodes_once format height before [] are = λ i j d below within. absurd (omega (arith, within))
nodes_once format height before (n ∷ nodes) are =
    AllPairs-cons Other n.id (map (λ m. m.id) nodes)
    (all_weaker (λ (u : NodeId). n.id.0 < u.0) (Other n.id) (map (λ m. m.id) nodes) (λ u far same. omega (arith, far, ap (λ (w : NodeId). w.0) same))
    (above format height n.id.0 nodes are.2))
    (nodes_once format height n.id.0 nodes are.2)

-- ---- the flows

pairs_tail : {X : Type 0} (R : X → X → Type 0) (x : X) (xs : List X) → AllPairs R (x ∷ xs) → AllPairs R xs
pairs_tail R x xs h = λ i j d below within. h (suc i) (suc j) d (omega (arith, below)) (omega (arith, within))

pairs_head : {X : Type 0} (R : X → X → Type 0) (x : X) (xs : List X) → AllPairs R (x ∷ xs) → All (R x) xs
pairs_head R x xs h = λ j d within. h 0 (suc j) d (omega arith) (omega (arith, within))

all_join : {X : Type 0} (P : X → Type 0) (xs ys : List X) → All P xs → All P ys → All P (xs ++ ys)
all_join P [] ys p q = q
all_join P (x ∷ xs) ys p q = All-cons P x (xs ++ ys) (All-head P x xs p) (all_join P xs ys (All-tail P x xs p) q)

pairs_join : {X : Type 0} (R : X → X → Type 0) (xs ys : List X) → AllPairs R xs → AllPairs R ys → All (λ x. All (R x) ys) xs → AllPairs R (xs ++ ys)
pairs_join R [] ys one two across = two
pairs_join R (x ∷ xs) ys one two across =
    AllPairs-cons R x (xs ++ ys) (all_join (R x) xs ys (pairs_head R x xs one) (All-head (λ z. All (R z) ys) x xs across))
    (pairs_join R xs ys (pairs_tail R x xs one) two (All-tail (λ z. All (R z) ys) x xs across))

flow_to : NodeId → NodeId → Flow
flow_to src dst = record { src = src; dst = dst }

from_once : (src : NodeId) (dsts : List NodeId) → AllPairs Other dsts → AllPairs Differ (map (λ dst. record { src = src; dst = dst }) dsts)
from_once src [] once = λ i j d below within. absurd (omega (arith, within))
from_once src (v ∷ dsts) once =
    AllPairs-cons Differ (record { src = src; dst = v }) (map (λ dst. record { src = src; dst = dst }) dsts)
    (all_map (Other v) (Differ (record { src = src; dst = v })) (λ dst. record { src = src; dst = dst }) (λ u other same. other (ap (λ (f : Flow). f.dst) same))
    dsts
    (pairs_head Other v dsts once))
    (from_once src dsts (pairs_tail Other v dsts once))

has_src : (src : NodeId) (nodes : List NodeId) → All (λ (f : Flow). f.src ≡ src) (flows_from src nodes)
has_src src nodes = go (filter (λ dst. not (dst.0 == src.0)) nodes)
  where
    go : (dsts : List NodeId) → All (λ (f : Flow). f.src ≡ src) (map (λ dst. record { src = src; dst = dst }) dsts)
    go [] = All-nil (λ (f : Flow). f.src ≡ src)
    go (v ∷ dsts) = All-cons (λ (f : Flow). f.src ≡ src) (record { src = src; dst = v }) (map (λ dst. record { src = src; dst = dst }) dsts) refl (go dsts)

other_srcs : (src : NodeId) (nodes srcs : List NodeId) → All (Other src) srcs → All (λ (f : Flow). ¬ (src ≡ f.src)) (flat_map (λ s. flows_from s nodes) srcs)
other_srcs src nodes [] others = All-nil (λ (f : Flow). ¬ (src ≡ f.src))
other_srcs src nodes (s ∷ srcs) others =
    subst (All (λ (f : Flow). ¬ (src ≡ f.src))) (sym (flat_map-cons (λ t. flows_from t nodes) s srcs))
    (all_join (λ (f : Flow). ¬ (src ≡ f.src)) (flows_from s nodes) (flat_map (λ t. flows_from t nodes) srcs)
    (all_weaker (λ (f : Flow). f.src ≡ s) (λ (f : Flow). ¬ (src ≡ f.src)) (flows_from s nodes)
    (λ f is same. All-head (Other src) s srcs others (same ∙ is)) (has_src s nodes))
    (other_srcs src nodes srcs (All-tail (Other src) s srcs others)))

flows_once : (nodes srcs : List NodeId) → AllPairs Other nodes → AllPairs Other srcs → AllPairs Differ (flat_map (λ s. flows_from s nodes) srcs)
flows_once nodes [] once each = λ i j d below within. absurd (omega (arith, within))
flows_once nodes (s ∷ srcs) once each =
    subst (AllPairs Differ) (sym (flat_map-cons (λ t. flows_from t nodes) s srcs))
    (pairs_join Differ (flows_from s nodes) (flat_map (λ t. flows_from t nodes) srcs)
    (from_once s (filter (λ dst. not (dst.0 == s.0)) nodes) (AllPairs-filter Other (λ dst. not (dst.0 == s.0)) nodes once))
    (flows_once nodes srcs once (pairs_tail Other s srcs each))
    (all_weaker (λ (f : Flow). f.src ≡ s) (λ (f : Flow). All (Differ f) (flat_map (λ t. flows_from t nodes) srcs)) (flows_from s nodes)
    (λ f is. all_weaker (λ (g : Flow). ¬ (s ≡ g.src)) (Differ f) (flat_map (λ t. flows_from t nodes) srcs)
    (λ g other same. other (sym is ∙ ap (λ (e : Flow). e.src) same))
    (other_srcs s nodes srcs (pairs_head Other s srcs each)))
    (has_src s nodes)))

-- what each node has, both ends of each flow have
pub flows_have : (P : NodeId → Type 0) (nodes srcs : List NodeId) → All P nodes → All P srcs
    → All (λ (f : Flow). P f.src × P f.dst) (flat_map (λ s. flows_from s nodes) srcs)
flows_have P nodes [] all each = All-nil (λ (f : Flow). P f.src × P f.dst)
flows_have P nodes (s ∷ srcs) all each =
    subst (All (λ (f : Flow). P f.src × P f.dst)) (sym (flat_map-cons (λ t. flows_from t nodes) s srcs))
    (all_join (λ (f : Flow). P f.src × P f.dst) (flows_from s nodes) (flat_map (λ t. flows_from t nodes) srcs)
    (all_map P (λ (f : Flow). P f.src × P f.dst) (λ dst. record { src = s; dst = dst }) (λ v is. (All-head P s srcs each, is))
    (filter (λ dst. not (dst.0 == s.0)) nodes) (all_filter P (λ dst. not (dst.0 == s.0)) nodes all))
    (flows_have P nodes srcs all (All-tail P s srcs each)))

pub same_ends : (flows : List Flow) → map ends (map no_flow flows) ≡ flows
same_ends [] = refl
same_ends (f ∷ flows) = ap (λ (fs : List Flow). f ∷ fs) (same_ends flows)

-- ---- the links

small_id : (format : ℕ) (height : LmsHeight) (before : ℕ) (nodes : List NodeKey) (id : ℕ) → AreNodes format height before nodes
    → has_id id (ids_of nodes) ≡ true
    → id ≤ max_nodes format
small_id format height before [] id are e = absurd (cc)
small_id format height before (n ∷ nodes) id are e =
    or_where (n.id.0 == id) (has_id id (ids_of nodes)) (λ is. let same : n.id.0 ≡ id = grind (arith, nat_tests, is) in omega (arith, same, are.0.1))
    (small_id format height n.id.0 nodes id are.2) e

abbrev SmallId : ℕ → NodeId × EdgeId → Type 0
SmallId format n = n.0.0 ≤ max_nodes format

neighbours_small : (format : ℕ) (ids : List ℕ) → ((id : ℕ) → has_id id ids ≡ true → id ≤ max_nodes format) → (me place : ℕ) (before : ℕ × ℕ) (edges : List Edge)
    → AreEdges format ids before edges → All (SmallId format) (neighbours_from me place edges)
neighbours_small format ids small me place before [] are = All-nil (SmallId format)
neighbours_small format ids small me place before (e ∷ edges) are =
    all_join (SmallId format) (neighbour place (other_end me e)) (neighbours_from me (place + 1) edges) (one (other_end me e) (end_small me))
    (neighbours_small format ids small me (place + 1) _ edges are.2)
  where
    end_small : (me : ℕ) → IfSome (other_end me e) (λ (v : NodeId). v.0 ≤ max_nodes format)
    end_small me =
        cond_either (λ (o : Option NodeId). IfSome o (λ (v : NodeId). v.0 ≤ max_nodes format)) (e.low.0 == me) (Some e.high) _ (small e.high.0 are.0.high)
        (cond_either (λ (o : Option NodeId). IfSome o (λ (v : NodeId). v.0 ≤ max_nodes format)) (e.high.0 == me) (Some e.low) None (small e.low.0 are.0.low) tt)

    one : (o : Option NodeId) → IfSome o (λ (v : NodeId). v.0 ≤ max_nodes format) → All (SmallId format) (neighbour place o)
    one None is = All-nil (SmallId format)
    one (Some v) is = All-cons (SmallId format) (v, record { 0 = place }) [] is (All-nil (SmallId format))

links_hold : (format : ℕ) (f : Fixed) → IsNode format f.me → f.boot < 2 ^ 64 → (ns : List (NodeId × EdgeId)) (keys : List (List ℕ)) → All (SmallId format) ns
    → All (LinkHolds 0) (map (link_of f) (zip ns keys))
links_hold format f me boot [] keys all = All-nil (LinkHolds 0)
links_hold format f me boot (n ∷ ns) [] all = All-nil (LinkHolds 0)
links_hold format f me boot (n ∷ ns) (key ∷ keys) all =
    All-cons (LinkHolds 0) (link_of f (n, key)) (map (link_of f) (zip ns keys))
    (record {
      me = omega (arith, me, few_nodes format);
      peer = let small = All-head (SmallId format) n ns all in omega (arith, small, few_nodes format);
      boot =
          boot;
      peer_boot = omega arith;
      sent = omega arith;
    })
    (links_hold format f me boot ns keys (All-tail (SmallId format) n ns all))

-- ---- the rest

none_held : (P : ℕ → Kept → Type 0) (count row : ℕ) → IfSome (held_in (replicate count None) row) (P row)
none_held P zero row = tt
none_held P (suc count) zero = tt
none_held P (suc count) (suc row) = none_held (λ i. P (suc i)) count row

peers_hold : (k : Sizes) (ns : List Neighbour) → All (PrioPeerHolds k 0 0) (map (new_peer k.store) ns)
peers_hold k [] = All-nil (PrioPeerHolds k 0 0)
peers_hold k (n ∷ ns) =
    All-cons (PrioPeerHolds k 0 0) (new_peer k.store n) (map (new_peer k.store) ns) (record {
      store = record { last = omega arith; bounded = omega arith; capacity = omega arith; entries = All-nil (EntryHolds k 0) };
      number = omega arith;
      few = omega arith;
      given = All-nil (λ pair. pair.0 ≤ 0);
      heard = omega arith;
    }) (peers_hold k ns)

-- the weights of a topology have room in their fields
pub weights_small : (format : ℕ) (ids : List ℕ) (before : ℕ × ℕ) (edges : List Edge) → AreEdges format ids before edges
    → All (λ weight. weight ≤ MAX_WEIGHT) (weights_in edges)
weights_small format ids before [] are = All-nil (λ weight. weight ≤ MAX_WEIGHT)
weights_small format ids before (e ∷ edges) are =
    All-cons (λ weight. weight ≤ MAX_WEIGHT) e.weight (weights_in edges) are.1.1 (weights_small format ids (ends_of e) edges are.2)

-- the flows of a kind, where none is active
start_holds : (kind : FlowKind) (k : Sizes) (index : ℕ) (neighbours : List NodeId) → All (IsNode k.format) k.nodes → AllPairs Other k.nodes
    → RelHolds kind k index (rel.start k.me k.nodes neighbours k.buffer)
start_holds kind k index neighbours nodes once =
    let pairs = pairs_of k.nodes in
    record {
      me = refl;
      bound = refl;
      nodes = nodes;
      known = refl;
      flows = all_map (λ (fl : Flow). IsNode k.format fl.src × IsNode k.format fl.dst) (FlowHolds kind k index) no_flow
          (λ fl both. no_flow_holds kind k index fl both.0 both.1) pairs (flows_have (IsNode k.format) k.nodes k.nodes nodes nodes);
      keys = same_ends pairs;
      once = subst (AllPairs Differ) (sym (same_ends pairs)) (flows_once k.nodes k.nodes once once);
    }

-- whatever is asked of messages, since none is kept
pub boot_holds : (P : Kept → Type 0) (f : Fixed) (signer : Signer) (keys : List (List ℕ)) (buffer store : ℕ) → Boots f signer
    → NodeHolds (sizes_of P (booted f signer keys buffer store)) (booted f signer keys buffer store)
boot_holds P f signer keys buffer store boots =
    let t = f.topology in
    let n = booted f signer keys buffer store in
    let k = sizes_of P n in
    let nodes = nodes_hold t.format t.height 0 t.nodes boots.topology.ranges.nodes in
    let once = nodes_once t.format t.height 0 t.nodes boots.topology.ranges.nodes in
    record {
      fixed = record {
        me = refl;
        format = refl;
        nodes = refl;
        edges = refl;
        is_node = boots.me;
        boot = boots.boot;
        topology = boots.topology;
        signature_len = refl;
        short = boots.short;
      };
      live = record {
        version = boots.topology.ranges.version;
        count = length_weights t.edges;
        weights = weights_small t.format (ids_of t.nodes) (0, 0) t.edges boots.topology.ranges.graph.are_edges;
        document = boots.document;
      };
      now = omega arith;
      calls = omega arith;
      links = links_hold t.format f boots.me boots.boot (neighbours_of f) keys
          (neighbours_small t.format (ids_of t.nodes) (λ id. small_id t.format t.height 0 t.nodes id boots.topology.ranges.nodes) f.me.0 0 (0, 0) t.edges
          boots.topology.ranges.graph.are_edges);
      signer = boots.signer;
      parts = closed_holds k (numbers_after 0) (ids_after 0 signer.index) signer.index (bare_parts f buffer store) (weights_in t.edges)
          (removed_of (nodes_of t) t.edges) (length_weights t.edges) (record {
            weights = record { edges = refl; least = length_weights t.edges; rows = λ row. none_held (UpdateHolds k signer.index) (2 * length t.edges) row };
            prio = record {
              me = refl;
              known = refl;
              nodes = nodes;
              capacity = refl;
              inbox = record { last = omega arith; bounded = omega arith; capacity = omega arith; entries = All-nil (EntryHolds k 0) };
              peers = all_weaker (PrioPeerHolds k 0 0) (PrioPeerHolds k 0 _) (map (new_peer store) (map as_neighbour (neighbours_of f)))
                  (λ q. peer_more k 0 0 0 _ q (omega arith) (omega arith)) (peers_hold k (map as_neighbour (neighbours_of f)));
              least = omega arith;
              next = omega arith;
            };
            rel = start_holds Plain k signer.index (map (λ v. v.0) (neighbours_of f)) nodes once;
            kflow = start_holds Paths k signer.index (map (λ v. v.id) (map as_neighbour (neighbours_of f))) nodes once;
            lives = no_lives_hold k (nodes_of t);
            origins = length-replicate (length t.nodes) None ∙ sym (length-map t.nodes (λ n. n.id));
          });
    }

pub boot_keeps : BootKeeps
boot_keeps arts f signer keys buffer store boots = boot_holds (λ o. IsTrue (is_signed arts f o)) f signer keys buffer store boots
