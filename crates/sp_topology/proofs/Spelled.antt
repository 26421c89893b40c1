-- A document is read as its topology, whatever comes after it.
use Rattle.std.proofs.Common.{◌≡◌, ℕ, suc, ◌<◌, ◌≤◌, ◌^◌, ◌==◌, true, inl, inr, List, [], ◌∷◌, ◌++◌, length, append_assoc, Ok, None, refl, sym, ap, ◌∙◌, arith}
use Rattle.std.proofs.Common.{lit<}
use Rattle.std.proofs.lemmas.Bool.{cases_Bool, eqb-true}
use Rattle.std.specs.Prelude.{Option, flat_map}
use Rattle.byteorder.specs.Endian.{big_bytes}
use Rattle.sp_base.specs.Formats.{IsFormat, max_nodes}
use Rattle.sp_base.proofs.FormatLemmas.{few_edges, few_nodes}
use Rattle.sp_base.proofs.NumberLemmas.{number_back, piece_back}
use Rattle.sp_base.specs.Reading.{piece_at}
use Rattle.sp_base.specs.Refusals.{as_refusal}
use Rattle.sp_topology.specs.declared.topology.LmsHeight.{LmsHeight}
use Rattle.sp_topology.specs.declared.topology.LmsHeight.TheVariants.{Five, Ten}
use Rattle.sp_topology.specs.declared.topology.Edge.{Edge}
use Rattle.sp_topology.specs.declared.topology.NodeKey.{NodeKey}
use Rattle.sp_topology.specs.declared.topology.Topology.{Topology}
use Rattle.sp_topology.specs.declared.refused.TopologyRefused.{TopologyRefused}
use Rattle.sp_topology.specs.declared.refused.TopologyRefused.TheVariants as refusals
use Rattle.sp_topology.specs.Documents.{Front, SpelledIsRead, document, edge_at, edge_bytes, edges_at, ends_at, field_at, format_fault, front_at, front_bytes}
use Rattle.sp_topology.specs.Documents.{front_of, height_field_at, judged_at, key_at, name, name_fault, node_at, node_bytes, nodes_at, topology_at}
use Rattle.sp_topology.specs.Faults.{edge_count_fault, id_fault, node_count_fault, weight_fault}
use Rattle.sp_topology.specs.Heights.{height_number}
use Rattle.sp_topology.specs.Ranges.{AreEdges, AreEnds, AreNodes, IsId, IsKey, IsWeight, ends_of, has_id, ids_of}
use Rattle.sp_topology.proofs.Judged.{edge_count_passes, ends_pass, height_of_number, id_passes, key_passes, node_count_passes, weight_passes}

field_back : (n x : ℕ) (rest : List ℕ) → x < 256 ^ n → field_at n (big_bytes n x ++ rest) ≡ Ok (x, rest)
field_back n x rest small = ap (λ r. as_refusal refusals.Short r) (number_back n x rest small)

judged_back : (n x : ℕ) (fault : ℕ → Option TopologyRefused) (rest : List ℕ) → x < 256 ^ n → fault x ≡ None
    → judged_at n fault (big_bytes n x ++ rest) ≡ Ok (x, rest)
unfolding judged_at
judged_back n x fault rest small passes = rw (field_back n x rest small, passes) refl

-- ---- the front

height_small : (height : LmsHeight) → height_number height < 256
height_small Five = lit< tt
height_small Ten = lit< tt

height_back : (height : LmsHeight) (rest : List ℕ) → height_field_at (big_bytes 1 (height_number height) ++ rest) ≡ Ok (height, rest)
unfolding height_field_at
height_back height rest =
    let small : height_number height < 256 ^ 1 = height_small height in
    rw (field_back 1 (height_number height) rest small, height_of_number height) refl

format_passes : (format : ℕ) → IsFormat format → format_fault format ≡ None
format_passes format (inl one) = rw one refl
format_passes format (inr two) = rw two refl

format_small : (format : ℕ) → IsFormat format → format < 256 ^ 1
format_small format (inl one) = omega (arith, one)
format_small format (inr two) = omega (arith, two)

front_split : (f : Front) (rest : List ℕ)
    → front_bytes f ++ rest ≡ big_bytes 4 name ++ (big_bytes 1 f.format ++
    (big_bytes 4 f.version ++ (big_bytes 1 (height_number f.height) ++ (big_bytes 1 f.count ++ rest))))
front_split f rest =
    append_assoc (big_bytes 4 name) (big_bytes 1 f.format ++ (big_bytes 4 f.version ++ (big_bytes 1 (height_number f.height) ++ big_bytes 1 f.count))) rest
    ∙ ap (λ bytes. big_bytes 4 name ++ bytes) (append_assoc (big_bytes 1 f.format)
    (big_bytes 4 f.version ++ (big_bytes 1 (height_number f.height) ++ big_bytes 1 f.count)) rest
    ∙ ap (λ bytes. big_bytes 1 f.format ++ bytes) (append_assoc (big_bytes 4 f.version) (big_bytes 1 (height_number f.height) ++ big_bytes 1 f.count) rest
    ∙ ap (λ bytes. big_bytes 4 f.version ++ bytes) (append_assoc (big_bytes 1 (height_number f.height)) (big_bytes 1 f.count) rest)))

front_back : (f : Front) (rest : List ℕ) → IsFormat f.format → f.version < 2 ^ 32 → 2 ≤ f.count → f.count ≤ max_nodes f.format
    → front_at (front_bytes f ++ rest) ≡ Ok (f, rest)
unfolding front_at
front_back f rest known small low high =
    rw (front_split f rest)
    (rw (judged_back 4 name name_fault (big_bytes 1 f.format ++ (big_bytes 4 f.version ++
    (big_bytes 1 (height_number f.height) ++ (big_bytes 1 f.count ++ rest)))) (lit< tt) refl)
    (rw (judged_back 1 f.format format_fault (big_bytes 4 f.version ++ (big_bytes 1 (height_number f.height) ++ (big_bytes 1 f.count ++ rest)))
    (format_small f.format known) (format_passes f.format known))
    (rw (field_back 4 f.version (big_bytes 1 (height_number f.height) ++ (big_bytes 1 f.count ++ rest)) small)
    (rw (height_back f.height (big_bytes 1 f.count ++ rest))
    (rw (judged_back 1 f.count (node_count_fault f.format) rest (omega (arith, few_nodes f.format, high)) (node_count_passes f.format f.count low high))
    refl)))))

-- ---- nodes

key_back : (height : LmsHeight) (key rest : List ℕ) → IsKey height key → key_at height (key ++ rest) ≡ Ok (key, rest)
unfolding key_at
key_back height key rest is =
    let whole : piece_at 60 (key ++ rest) ≡ Ok (key, rest) = ap (λ n. piece_at n (key ++ rest)) (sym is.long) ∙ piece_back key rest in
    rw (whole, key_passes height key is) refl

node_back : (format : ℕ) → (height : LmsHeight) (before : ℕ) (n : NodeKey) (rest : List ℕ) → IsId format before n.id.0 → IsKey height n.key
    → node_at format height before (node_bytes n ++ rest) ≡ Ok (n, rest)
unfolding node_at
node_back format height before n rest id key =
    rw (append_assoc (big_bytes 1 n.id.0) n.key rest)
    (rw (judged_back 1 n.id.0 (id_fault format before) (n.key ++ rest) (omega (arith, few_nodes format, id.1)) (id_passes format before n.id.0 id))
    (rw (key_back height n.key rest key) refl))

nodes_back : (format : ℕ) → (height : LmsHeight) (before : ℕ) (nodes : List NodeKey) (rest : List ℕ) → AreNodes format height before nodes
    → nodes_at format height (length nodes) before (flat_map node_bytes nodes ++ rest) ≡ Ok (nodes, rest)
nodes_back format height before [] rest are = refl
nodes_back format height before (n ∷ nodes) rest are =
    rw (append_assoc (node_bytes n) (flat_map node_bytes nodes) rest)
    (rw (node_back format height before n (flat_map node_bytes nodes ++ rest) are.0 are.1) (rw (nodes_back format height n.id.0 nodes rest are.2) refl))

-- ---- edges

ends_back : (ids : List ℕ) (before : ℕ × ℕ) (a b : ℕ) (rest : List ℕ) → a < 256 → b < 256 → AreEnds ids before (a, b)
    → ends_at ids before (big_bytes 1 a ++ (big_bytes 1 b ++ rest)) ≡ Ok ((a, b), rest)
unfolding ends_at
ends_back ids before a b rest small_a small_b are =
    rw (field_back 1 a (big_bytes 1 b ++ rest) (omega arith))
    (rw (field_back 1 b rest (omega arith)) (rw (ends_pass ids before (a, b) are) refl))

edge_split : (e : Edge) (rest : List ℕ) → edge_bytes e ++ rest ≡ big_bytes 1 e.low.0 ++ (big_bytes 1 e.high.0 ++ (big_bytes 4 e.weight ++ rest))
edge_split e rest =
    append_assoc (big_bytes 1 e.low.0) (big_bytes 1 e.high.0 ++ big_bytes 4 e.weight) rest
    ∙ ap (λ bytes. big_bytes 1 e.low.0 ++ bytes) (append_assoc (big_bytes 1 e.high.0) (big_bytes 4 e.weight) rest)

edge_back : (format : ℕ) → (ids : List ℕ) (before : ℕ × ℕ) (e : Edge) (rest : List ℕ) → e.low.0 < 256 → e.high.0 < 256 → AreEnds ids before (ends_of e)
    → IsWeight format e.weight
    → edge_at format ids before (edge_bytes e ++ rest) ≡ Ok (e, rest)
unfolding edge_at
edge_back format ids before e rest small_a small_b are weight =
    rw (edge_split e rest)
    (rw (ends_back ids before e.low.0 e.high.0 (big_bytes 4 e.weight ++ rest) small_a small_b are)
    (rw (judged_back 4 e.weight (weight_fault format) rest (omega (arith, weight.1)) (weight_passes format e.weight weight)) refl))

-- each of the ids is a byte
abbrev AreSmall : List ℕ → Type 0
AreSmall ids = (id : ℕ) → has_id id ids ≡ true → id < 256

edges_back : (format : ℕ) → (ids : List ℕ) (before : ℕ × ℕ) (edges : List Edge) (rest : List ℕ) → AreSmall ids → AreEdges format ids before edges
    → edges_at format ids (length edges) before (flat_map edge_bytes edges ++ rest) ≡ Ok (edges, rest)
edges_back format ids before [] rest small are = refl
edges_back format ids before (e ∷ edges) rest small are =
    rw (append_assoc (edge_bytes e) (flat_map edge_bytes edges) rest)
    (rw (edge_back format ids before e (flat_map edge_bytes edges ++ rest) (small e.low.0 are.0.low) (small e.high.0 are.0.high) are.0 are.1)
    (rw (edges_back format ids (ends_of e) edges rest small are.2) refl))

-- ---- whole documents

ids_small : (format : ℕ) → (height : LmsHeight) (before : ℕ) (nodes : List NodeKey) → AreNodes format height before nodes → AreSmall (ids_of nodes)
ids_small format height before [] are id has = absurd (cc)
ids_small format height before (n ∷ nodes) are id has = elim (cases_Bool (n.id.0 == id)) [
  | inl here ↦ let same : n.id.0 ≡ id = eqb-true n.id.0 id here in omega (arith, few_nodes format, same, are.0.1)
  | inr elsewhere ↦ ids_small format height n.id.0 nodes are.2 id (rw elsewhere at has)
]

pub length-ids_of : (nodes : List NodeKey) → length (ids_of nodes) ≡ length nodes
length-ids_of [] = refl
length-ids_of (n ∷ nodes) = ap (λ k. suc k) (length-ids_of nodes)

document_split : (t : Topology) (rest : List ℕ)
    → document t ++ rest ≡ front_bytes (front_of t) ++ (flat_map node_bytes t.nodes ++ (big_bytes 2 (length t.edges) ++ (flat_map edge_bytes t.edges ++ rest)))
document_split t rest =
    append_assoc (front_bytes (front_of t)) (flat_map node_bytes t.nodes ++ (big_bytes 2 (length t.edges) ++ flat_map edge_bytes t.edges)) rest
    ∙ ap (λ bytes. front_bytes (front_of t) ++ bytes) (append_assoc (flat_map node_bytes t.nodes)
    (big_bytes 2 (length t.edges) ++ flat_map edge_bytes t.edges) rest
    ∙ ap (λ bytes. flat_map node_bytes t.nodes ++ bytes) (append_assoc (big_bytes 2 (length t.edges)) (flat_map edge_bytes t.edges) rest))

pub spelled_is_read : SpelledIsRead
unfolding topology_at
spelled_is_read t rest is =
    let count = length-ids_of t.nodes in
    let low : 2 ≤ length t.nodes = omega (arith, count, is.graph.node_count.0) in
    let high : length t.nodes ≤ max_nodes t.format = omega (arith, count, is.graph.node_count.1) in
    let edges = flat_map edge_bytes t.edges ++ rest in
    rw (document_split t rest)
    (rw (front_back (front_of t) (flat_map node_bytes t.nodes ++ (big_bytes 2 (length t.edges) ++ edges)) is.format is.version low high)
    (rw (nodes_back t.format t.height 0 t.nodes (big_bytes 2 (length t.edges) ++ edges) is.nodes)
    (rw (judged_back 2 (length t.edges) (edge_count_fault t.format) edges (omega (arith, few_edges t.format, is.graph.edge_count))
    (edge_count_passes t.format (length t.edges) is.graph.edge_count))
    (rw (edges_back t.format (ids_of t.nodes) (0, 0) t.edges rest (ids_small t.format t.height 0 t.nodes is.nodes) is.graph.are_edges) refl))))
