-- Bytes that are read as a topology begin with its document.
use Rattle.std.proofs.Common.{◌≡◌, ℕ, suc, zero, ◌<◌, ◌≤◌, List, [], ◌∷◌, ◌++◌, length, get_or, append_assoc, length-append, Result, Ok, refl, sym, ap, subst}
use Rattle.std.proofs.Common.{arith}
use Rattle.std.specs.Prelude.{flat_map}
use Rattle.std.proofs.lemmas.Grind.{get_or_default_zero}
use Rattle.byteorder.specs.Endian.{big_bytes}
use Rattle.sp_base.proofs.NumberLemmas.{piece_read}
use Rattle.sp_base.proofs.RefusalLemmas.{as_refusal_ok, then_ok}
use Rattle.sp_base.specs.Reading.{piece_at}
use Rattle.sp_base.specs.Refusals.{◌>>=◌, as_refusal}
use Rattle.sp_base.specs.Spelling.{AreBytes}
use Rattle.sp_topology.specs.declared.topology.LmsHeight.{LmsHeight}
use Rattle.sp_topology.specs.declared.topology.Edge.{Edge}
use Rattle.sp_topology.specs.declared.topology.NodeKey.{NodeKey}
use Rattle.sp_topology.specs.declared.topology.Topology.{Topology}
use Rattle.sp_topology.specs.declared.refused.TopologyRefused.{TopologyRefused}
use Rattle.sp_topology.specs.declared.refused.TopologyRefused.TheVariants as refusals
use Rattle.sp_topology.specs.Documents.{Front, ReadIsSpelled, document, edge_at, edge_bytes, edges_at, ends_at, field_at, front_at, front_bytes, front_of}
use Rattle.sp_topology.specs.Documents.{judged_at, key_at, node_at, node_bytes, nodes_at, topology_at, unless}
use Rattle.sp_topology.specs.Faults.{are_nodes, edge_count_fault, ends_fault, id_fault, key_fault, weight_fault}
use Rattle.sp_topology.specs.Ranges.{AreEdges, AreEnds, AreNodes, IsId, IsKey, IsTopology, IsWeight, ends_of, ids_of}
use Rattle.sp_topology.proofs.Judged.{edge_count_passed, ends_passed, id_passed, key_passed, weight_passed}
use Rattle.sp_topology.proofs.Spelled.{length-ids_of}
use Rattle.sp_topology.proofs.FieldReads.{Begins, FrontRead, Judged, field_read, front_are_bytes, front_read, joined, judged_read, ok_same, rest_are_bytes}
use Rattle.sp_topology.proofs.FieldReads.{unless_ok}

-- ---- nodes

record KeyRead (height : LmsHeight) (bytes key rest : List ℕ) : Type 0 where
  begins : Begins bytes key rest
  is_key : IsKey height key

key_read : (height : LmsHeight) (bytes : List ℕ) (p : List ℕ × List ℕ) → AreBytes bytes → key_at height bytes ≡ Ok p → KeyRead height bytes p.0 p.1
unfolding key_at
key_read height bytes p are e =
    let s = then_ok (as_refusal refusals.Short (piece_at 60 bytes)) (λ key. unless (key_fault height key.0) key) p e in
    let u = unless_ok (key_fault height s.0.0) s.0 p s.2 in
    let is = piece_read 60 bytes s.0 (as_refusal_ok refusals.Short (piece_at 60 bytes) s.0 s.1) in
    let both : AreBytes (s.0.0 ++ s.0.1) = rw (← is.joined) are in
    let here : KeyRead height bytes s.0.0 s.0.1 = record {
      begins = record { spelled = is.joined; are_bytes = rest_are_bytes s.0.0 s.0.1 both };
      is_key = key_passed height s.0.0 is.count (front_are_bytes s.0.0 s.0.1 both) u.0;
    } in
    subst (λ (q : List ℕ × List ℕ). KeyRead height bytes q.0 q.1) u.1 here

record NodeRead (format : ℕ) (height : LmsHeight) (before : ℕ) (bytes : List ℕ) (n : NodeKey) (rest : List ℕ) : Type 0 where
  begins : Begins bytes (node_bytes n) rest
  is_id : IsId format before n.id.0
  is_key : IsKey height n.key

same_node : (format : ℕ) → (height : LmsHeight) (before : ℕ) (bytes : List ℕ) (p q : NodeKey × List ℕ) → p ≡ q → NodeRead format height before bytes p.0 p.1
    → NodeRead format height before bytes q.0 q.1
same_node format height before bytes p q same is = subst (λ (z : NodeKey × List ℕ). NodeRead format height before bytes z.0 z.1) same is

node_read : (format : ℕ) → (height : LmsHeight) (before : ℕ) (bytes : List ℕ) (p : NodeKey × List ℕ) → AreBytes bytes
    → node_at format height before bytes ≡ Ok p
    → NodeRead format height before bytes p.0 p.1
unfolding node_at
node_read format height before bytes p are e =
    let s1 = then_ok (judged_at 1 (id_fault format before) bytes) (λ id. key_at height id.1 >>= λ key. Ok
    (record { id = record { 0 = id.0 }; key = key.0 }, key.1)) p e in
    let s2 = then_ok (key_at height s1.0.1) (λ key. Ok (record { id = record { 0 = s1.0.0 }; key = key.0 }, key.1)) p s1.2 in
    let n : NodeKey = record { id = record { 0 = s1.0.0 }; key = s2.0.0 } in
    let j1 = judged_read 1 (id_fault format before) bytes s1.0 are s1.1 in
    let j2 = key_read height s1.0.1 s2.0 j1.field.begins.are_bytes s2.1 in
    let here : NodeRead format height before bytes n s2.0.1 = record {
      begins = joined bytes (big_bytes 1 s1.0.0) s1.0.1 s2.0.0 s2.0.1 j1.field.begins j2.begins;
      is_id = id_passed format before s1.0.0 j1.passes;
      is_key = j2.is_key;
    } in
    same_node format height before bytes (n, s2.0.1) p (ok_same (n, s2.0.1) p s2.2) here

record NodesRead (format : ℕ) (height : LmsHeight) (count before : ℕ) (bytes : List ℕ) (nodes : List NodeKey) (rest : List ℕ) : Type 0 where
  begins : Begins bytes (flat_map node_bytes nodes) rest
  are : AreNodes format height before nodes
  long : length nodes ≡ count

same_nodes : (format : ℕ) → (height : LmsHeight) (count before : ℕ) (bytes : List ℕ) (p q : List NodeKey × List ℕ) → p ≡ q
    → NodesRead format height count before bytes p.0 p.1 → NodesRead format height count before bytes q.0 q.1
same_nodes format height count before bytes p q same is = subst (λ (z : List NodeKey × List ℕ). NodesRead format height count before bytes z.0 z.1) same is

one_more_node : (format : ℕ) → (height : LmsHeight) (count before : ℕ) (bytes middle rest : List ℕ) (n : NodeKey) (nodes : List NodeKey)
    → NodeRead format height before bytes n middle
    → NodesRead format height count n.id.0 middle nodes rest → NodesRead format height (suc count) before bytes (n ∷ nodes) rest
one_more_node format height count before bytes middle rest n nodes one others = record {
  begins = joined bytes (node_bytes n) middle (flat_map node_bytes nodes) rest one.begins others.begins;
  are = (one.is_id, one.is_key, others.are);
  long = ap (λ k. suc k) others.long;
}

nodes_read : (format : ℕ) → (height : LmsHeight) (count before : ℕ) (bytes : List ℕ) (p : List NodeKey × List ℕ) → AreBytes bytes
    → nodes_at format height count before bytes ≡ Ok p
    → NodesRead format height count before bytes p.0 p.1
nodes_read format height zero before bytes p are e =
    let here : NodesRead format height zero before bytes [] bytes = record { begins = record { spelled = refl; are_bytes = are }; are = tt; long = refl } in
    same_nodes format height zero before bytes ([], bytes) p (ok_same ([], bytes) p e) here
nodes_read format height (suc count) before bytes p are e =
    let s = then_ok (node_at format height before bytes) (λ node. nodes_at format height count node.0.id.0 node.1 >>= λ nodes. Ok (node.0 ∷ nodes.0, nodes.1)) p
    e in
    let t = then_ok (nodes_at format height count s.0.0.id.0 s.0.1) (λ nodes. Ok (s.0.0 ∷ nodes.0, nodes.1)) p s.2 in
    let first = node_read format height before bytes s.0 are s.1 in
    let others = nodes_read format height count s.0.0.id.0 s.0.1 t.0 first.begins.are_bytes t.1 in
    same_nodes format height (suc count) before bytes (s.0.0 ∷ t.0.0, t.0.1) p (ok_same (s.0.0 ∷ t.0.0, t.0.1) p t.2)
    (one_more_node format height count before bytes s.0.1 t.0.1 s.0.0 t.0.0 first others)

-- ---- edges

record EndsRead (ids : List ℕ) (before : ℕ × ℕ) (bytes : List ℕ) (ends : ℕ × ℕ) (rest : List ℕ) : Type 0 where
  begins : Begins bytes (big_bytes 1 ends.0 ++ big_bytes 1 ends.1) rest
  are : AreEnds ids before ends

same_ends : (ids : List ℕ) (before : ℕ × ℕ) (bytes : List ℕ) (p q : (ℕ × ℕ) × List ℕ) → p ≡ q → EndsRead ids before bytes p.0 p.1
    → EndsRead ids before bytes q.0 q.1
same_ends ids before bytes p q same is = subst (λ (z : (ℕ × ℕ) × List ℕ). EndsRead ids before bytes z.0 z.1) same is

ends_read : (ids : List ℕ) (before : ℕ × ℕ) (bytes : List ℕ) (p : (ℕ × ℕ) × List ℕ) → AreBytes bytes → ends_at ids before bytes ≡ Ok p
    → EndsRead ids before bytes p.0 p.1
unfolding ends_at
ends_read ids before bytes p are e =
    let s1 = then_ok (field_at 1 bytes) (λ low. field_at 1 low.1 >>= λ high. unless
    (ends_fault (are_nodes ids (low.0, high.0)) before (low.0, high.0)) ((low.0, high.0), high.1)) p e in
    let s2 = then_ok (field_at 1 s1.0.1) (λ high. unless (ends_fault (are_nodes ids (s1.0.0, high.0)) before (s1.0.0, high.0))
    ((s1.0.0, high.0), high.1)) p s1.2 in
    let u = unless_ok (ends_fault (are_nodes ids (s1.0.0, s2.0.0)) before (s1.0.0, s2.0.0)) ((s1.0.0, s2.0.0), s2.0.1) p s2.2 in
    let j1 = field_read 1 bytes s1.0 are s1.1 in
    let j2 = field_read 1 s1.0.1 s2.0 j1.begins.are_bytes s2.1 in
    let here : EndsRead ids before bytes (s1.0.0, s2.0.0) s2.0.1 = record {
      begins = joined bytes (big_bytes 1 s1.0.0) s1.0.1 (big_bytes 1 s2.0.0) s2.0.1 j1.begins j2.begins;
      are = ends_passed ids before (s1.0.0, s2.0.0) u.0;
    } in
    same_ends ids before bytes ((s1.0.0, s2.0.0), s2.0.1) p u.1 here

record EdgeRead (format : ℕ) (ids : List ℕ) (before : ℕ × ℕ) (bytes : List ℕ) (e : Edge) (rest : List ℕ) : Type 0 where
  begins : Begins bytes (edge_bytes e) rest
  are : AreEnds ids before (ends_of e)
  weight : IsWeight format e.weight

same_edge : (format : ℕ) → (ids : List ℕ) (before : ℕ × ℕ) (bytes : List ℕ) (p q : Edge × List ℕ) → p ≡ q → EdgeRead format ids before bytes p.0 p.1
    → EdgeRead format ids before bytes q.0 q.1
same_edge format ids before bytes p q same is = subst (λ (z : Edge × List ℕ). EdgeRead format ids before bytes z.0 z.1) same is

edge_joined : (bytes middle rest low high weight : List ℕ) → Begins bytes (low ++ high) middle → Begins middle weight rest
    → Begins bytes (low ++ (high ++ weight)) rest
edge_joined bytes middle rest low high weight one two =
    subst (λ (front : List ℕ). Begins bytes front rest) (append_assoc low high weight) (joined bytes (low ++ high) middle weight rest one two)

edge_read : (format : ℕ) → (ids : List ℕ) (before : ℕ × ℕ) (bytes : List ℕ) (p : Edge × List ℕ) → AreBytes bytes → edge_at format ids before bytes ≡ Ok p
    → EdgeRead format ids before bytes p.0 p.1
unfolding edge_at
edge_read format ids before bytes p are e =
    let s1 = then_ok (ends_at ids before bytes)
    (λ ends. judged_at 4 (weight_fault format) ends.1 >>= λ weight. Ok (
      record {
        low = record { 0 = ends.0.0 };
        high = record { 0 = ends.0.1 };
        weight =
            weight.0;
      },
      weight.1,
    )) p e in
    let s2 = then_ok (judged_at 4 (weight_fault format) s1.0.1) (λ weight. Ok
    (record { low = record { 0 = s1.0.0.0 }; high = record { 0 = s1.0.0.1 }; weight = weight.0 }, weight.1)) p s1.2 in
    let edge : Edge = record { low = record { 0 = s1.0.0.0 }; high = record { 0 = s1.0.0.1 }; weight = s2.0.0 } in
    let j1 = ends_read ids before bytes s1.0 are s1.1 in
    let j2 = judged_read 4 (weight_fault format) s1.0.1 s2.0 j1.begins.are_bytes s2.1 in
    let here : EdgeRead format ids before bytes edge s2.0.1 = record {
      begins = edge_joined bytes s1.0.1 s2.0.1 (big_bytes 1 s1.0.0.0) (big_bytes 1 s1.0.0.1) (big_bytes 4 s2.0.0) j1.begins j2.field.begins;
      are = j1.are;
      weight = weight_passed format s2.0.0 j2.passes;
    } in
    same_edge format ids before bytes (edge, s2.0.1) p (ok_same (edge, s2.0.1) p s2.2) here

record EdgesRead (format : ℕ) (ids : List ℕ) (count : ℕ) (before : ℕ × ℕ) (bytes : List ℕ) (edges : List Edge) (rest : List ℕ) : Type 0 where
  begins : Begins bytes (flat_map edge_bytes edges) rest
  are : AreEdges format ids before edges
  long : length edges ≡ count

same_edges : (format : ℕ) → (ids : List ℕ) (count : ℕ) (before : ℕ × ℕ) (bytes : List ℕ) (p q : List Edge × List ℕ) → p ≡ q
    → EdgesRead format ids count before bytes p.0 p.1 → EdgesRead format ids count before bytes q.0 q.1
same_edges format ids count before bytes p q same is = subst (λ (z : List Edge × List ℕ). EdgesRead format ids count before bytes z.0 z.1) same is

one_more_edge : (format : ℕ) → (ids : List ℕ) (count : ℕ) (before : ℕ × ℕ) (bytes middle rest : List ℕ) (e : Edge) (edges : List Edge)
    → EdgeRead format ids before bytes e middle
    → EdgesRead format ids count (ends_of e) middle edges rest → EdgesRead format ids (suc count) before bytes (e ∷ edges) rest
one_more_edge format ids count before bytes middle rest e edges one others = record {
  begins = joined bytes (edge_bytes e) middle (flat_map edge_bytes edges) rest one.begins others.begins;
  are = (one.are, one.weight, others.are);
  long = ap (λ k. suc k) others.long;
}

edges_read : (format : ℕ) → (ids : List ℕ) (count : ℕ) (before : ℕ × ℕ) (bytes : List ℕ) (p : List Edge × List ℕ) → AreBytes bytes
    → edges_at format ids count before bytes ≡ Ok p
    → EdgesRead format ids count before bytes p.0 p.1
edges_read format ids zero before bytes p are e =
    let here : EdgesRead format ids zero before bytes [] bytes = record { begins = record { spelled = refl; are_bytes = are }; are = tt; long = refl } in
    same_edges format ids zero before bytes ([], bytes) p (ok_same ([], bytes) p e) here
edges_read format ids (suc count) before bytes p are e =
    let s = then_ok (edge_at format ids before bytes) (λ edge. edges_at format ids count (ends_of edge.0) edge.1 >>= λ edges. Ok (edge.0 ∷ edges.0, edges.1)) p
    e in
    let t = then_ok (edges_at format ids count (ends_of s.0.0) s.0.1) (λ edges. Ok (s.0.0 ∷ edges.0, edges.1)) p s.2 in
    let first = edge_read format ids before bytes s.0 are s.1 in
    let others = edges_read format ids count (ends_of s.0.0) s.0.1 t.0 first.begins.are_bytes t.1 in
    same_edges format ids (suc count) before bytes (s.0.0 ∷ t.0.0, t.0.1) p (ok_same (s.0.0 ∷ t.0.0, t.0.1) p t.2)
    (one_more_edge format ids count before bytes s.0.1 t.0.1 s.0.0 t.0.0 first others)

-- ---- whole documents

pub record TopologyRead (bytes : List ℕ) (t : Topology) (rest : List ℕ) : Type 0 where
  pub is : IsTopology t
  pub spelled : bytes ≡ document t ++ rest

same_topology : (bytes : List ℕ) (p q : Topology × List ℕ) → p ≡ q → TopologyRead bytes p.0 p.1 → TopologyRead bytes q.0 q.1
same_topology bytes p q same is = subst (λ (z : Topology × List ℕ). TopologyRead bytes z.0 z.1) same is

abbrev with_edges : Front → List NodeKey → ℕ × List ℕ → Result (Topology × List ℕ) TopologyRefused
with_edges f nodes count =
    edges_at f.format (ids_of nodes) count.0 (0, 0) count.1
    >>= λ edges. Ok (record { format = f.format; version = f.version; height = f.height; nodes = nodes; edges = edges.0 }, edges.1)

abbrev with_nodes : Front → List NodeKey × List ℕ → Result (Topology × List ℕ) TopologyRefused
with_nodes f nodes = judged_at 2 (edge_count_fault f.format) nodes.1 >>= λ count. with_edges f nodes.0 count

abbrev with_front : Front × List ℕ → Result (Topology × List ℕ) TopologyRefused
with_front f = nodes_at f.0.format f.0.height f.0.count 0 f.1 >>= λ nodes. with_nodes f.0 nodes

all_joined : (f : Front) (nodes : List NodeKey) (edges : List Edge) (count : ℕ) (bytes fronted noded counted rest : List ℕ) → FrontRead bytes f fronted
    → NodesRead f.format f.height f.count 0 fronted nodes noded → Judged 2 (edge_count_fault f.format) noded count counted
    → EdgesRead f.format (ids_of nodes) count (0, 0) counted edges rest
    → TopologyRead bytes (record { format = f.format; version = f.version; height = f.height; nodes = nodes; edges = edges }) rest
all_joined f nodes edges count bytes fronted noded counted rest first second third fourth =
    let t : Topology = record { format = f.format; version = f.version; height = f.height; nodes = nodes; edges = edges } in
    let same_count = sym fourth.long in
    let is_counted : Begins noded (big_bytes 2 (length edges)) counted = subst
    (λ (n : ℕ). Begins noded (big_bytes 2 n) counted) same_count third.field.begins in
    let is_front : Begins bytes (front_bytes (front_of t)) fronted =
    subst (λ (n : ℕ). Begins bytes (front_bytes (record { format = f.format; version = f.version; height = f.height; count = n })) fronted) (sym second.long)
    first.begins in
    let tail = joined noded (big_bytes 2 (length edges)) counted (flat_map edge_bytes edges) rest is_counted fourth.begins in
    let later = joined fronted (flat_map node_bytes nodes) noded (big_bytes 2 (length edges) ++ flat_map edge_bytes edges) rest second.begins tail in
    let whole = joined bytes (front_bytes (front_of t)) fronted (flat_map node_bytes nodes ++
    (big_bytes 2 (length edges) ++ flat_map edge_bytes edges)) rest is_front later in
    let long = length-ids_of nodes in
    let few = edge_count_passed f.format count third.passes in
    record {
      is = record {
        format = first.format;
        version = first.version;
        nodes = second.are;
        graph = record {
          node_count = (omega (arith, long, second.long, first.count.0), omega (arith, long, second.long, first.count.1));
          edge_count = omega (arith, few, fourth.long);
          are_edges = fourth.are;
        };
      };
      spelled = whole.spelled;
    }

pub topology_read : (bytes : List ℕ) (p : Topology × List ℕ) → AreBytes bytes → topology_at bytes ≡ Ok p → TopologyRead bytes p.0 p.1
unfolding topology_at
topology_read bytes p are e =
    let s1 = then_ok (front_at bytes) with_front p e in
    let s2 = then_ok (nodes_at s1.0.0.format s1.0.0.height s1.0.0.count 0 s1.0.1) (with_nodes s1.0.0) p s1.2 in
    let s3 = then_ok (judged_at 2 (edge_count_fault s1.0.0.format) s2.0.1) (with_edges s1.0.0 s2.0.0) p s2.2 in
    let s4 = then_ok (edges_at s1.0.0.format (ids_of s2.0.0) s3.0.0 (0, 0) s3.0.1)
    (λ edges. Ok (record { format = s1.0.0.format; version = s1.0.0.version; height = s1.0.0.height; nodes = s2.0.0; edges = edges.0 }, edges.1)) p s3.2 in
    let first = front_read bytes s1.0 are s1.1 in
    let second = nodes_read s1.0.0.format s1.0.0.height s1.0.0.count 0 s1.0.1 s2.0 first.begins.are_bytes s2.1 in
    let third = judged_read 2 (edge_count_fault s1.0.0.format) s2.0.1 s3.0 second.begins.are_bytes s3.1 in
    let fourth = edges_read s1.0.0.format (ids_of s2.0.0) s3.0.0 (0, 0) s3.0.1 s4.0 third.field.begins.are_bytes s4.1 in
    let t : Topology = record { format = s1.0.0.format; version = s1.0.0.version; height = s1.0.0.height; nodes = s2.0.0; edges = s4.0.0 } in
    same_topology bytes (t, s4.0.1) p (ok_same (t, s4.0.1) p s4.2)
    (all_joined s1.0.0 s2.0.0 s4.0.0 s3.0.0 bytes s1.0.1 s2.0.1 s3.0.1 s4.0.1 first second third fourth)

pub read_is_spelled : ReadIsSpelled
read_is_spelled bytes rest t are e =
    let is = topology_read bytes (t, rest) are e in
    (is.is, is.spelled)

-- the steps of a reading, joined
steps_read : (bytes fronted noded counted rest : List ℕ) (f : Front) (nodes : List NodeKey) (count : ℕ) (edges : List Edge) → front_at bytes ≡ Ok (f, fronted)
    → nodes_at f.format f.height f.count 0 fronted ≡ Ok (nodes, noded) → judged_at 2 (edge_count_fault f.format) noded ≡ Ok (count, counted)
    → edges_at f.format (ids_of nodes) count (0, 0) counted ≡ Ok (edges, rest)
    → topology_at bytes ≡ Ok (record { format = f.format; version = f.version; height = f.height; nodes = nodes; edges = edges }, rest)
unfolding topology_at
steps_read bytes fronted noded counted rest f nodes count edges one two three four = rw one (rw two (rw three (rw four refl)))

-- what the steps read of bytes begins them
whole_read : (bytes fronted noded counted rest : List ℕ) (f : Front) (nodes : List NodeKey) (count : ℕ) (edges : List Edge)
    → ((i : ℕ) → get_or bytes i 0 < 256) → front_at bytes ≡ Ok (f, fronted)
    → nodes_at f.format f.height f.count 0 fronted ≡ Ok (nodes, noded) → judged_at 2 (edge_count_fault f.format) noded ≡ Ok (count, counted)
    → edges_at f.format (ids_of nodes) count (0, 0) counted ≡ Ok (edges, rest)
    → TopologyRead bytes (record { format = f.format; version = f.version; height = f.height; nodes = nodes; edges = edges }) rest
whole_read bytes fronted noded counted rest f nodes count edges fit one two three four =
    let t : Topology = record { format = f.format; version = f.version; height = f.height; nodes = nodes; edges = edges } in
    let are : AreBytes bytes = λ k d inside. rw (get_or_default_zero bytes k d inside) (fit k) in
    topology_read bytes (t, rest) are (steps_read bytes fronted noded counted rest f nodes count edges one two three four)

-- it is in its ranges
pub is_in_range : (bytes fronted noded counted rest : List ℕ) (f : Front) (nodes : List NodeKey) (count : ℕ) (edges : List Edge)
    → ((i : ℕ) → get_or bytes i 0 < 256) → front_at bytes ≡ Ok (f, fronted)
    → nodes_at f.format f.height f.count 0 fronted ≡ Ok (nodes, noded) → judged_at 2 (edge_count_fault f.format) noded ≡ Ok (count, counted)
    → edges_at f.format (ids_of nodes) count (0, 0) counted ≡ Ok (edges, rest)
    → IsTopology (record { format = f.format; version = f.version; height = f.height; nodes = nodes; edges = edges })
is_in_range bytes fronted noded counted rest f nodes count edges fit one two three four =
    (whole_read bytes fronted noded counted rest f nodes count edges fit one two three four).is

-- what comes after a document isn't longer than the whole
pub rest_is_shorter : (bytes fronted noded counted rest : List ℕ) (f : Front) (nodes : List NodeKey) (count : ℕ) (edges : List Edge)
    → ((i : ℕ) → get_or bytes i 0 < 256) → front_at bytes ≡ Ok (f, fronted)
    → nodes_at f.format f.height f.count 0 fronted ≡ Ok (nodes, noded) → judged_at 2 (edge_count_fault f.format) noded ≡ Ok (count, counted)
    → edges_at f.format (ids_of nodes) count (0, 0) counted ≡ Ok (edges, rest) → length rest ≤ length bytes
rest_is_shorter bytes fronted noded counted rest f nodes count edges fit one two three four =
    let t : Topology = record { format = f.format; version = f.version; height = f.height; nodes = nodes; edges = edges } in
    let is = whole_read bytes fronted noded counted rest f nodes count edges fit one two three four in
    omega (arith, ap length is.spelled, length-append (document t) rest)
