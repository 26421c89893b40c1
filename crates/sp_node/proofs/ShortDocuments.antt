-- A signed document fits a frame: a topology has few nodes and edges, and no signature of one or two levels is long.
use Rattle.std.proofs.Common.{◌≡◌, ◌≤◌, ℕ, ◌-◌, ◌*◌, inl, inr, List, [], ◌∷◌, ◌++◌, length, drop, Result, Ok, Err, None, Option, Some, refl, ap, ◌∙◌, arith}
use Rattle.std.proofs.lemmas.List.{length-append, length-drop, length-map}
use Rattle.std.specs.Prelude.{flat_map}
use Rattle.byteorder.specs.Endian.{big_bytes}
use Rattle.sp_base.proofs.FormatLemmas.{few_edges, few_nodes}
use Rattle.sp_base.specs.Refusals.{◌>>=◌}
use Rattle.sp_base.specs.Spelling.{AreBytes}
use Rattle.sp_frame.specs.declared.writing.TheConstants.{MAX_DOCUMENT_BYTES}
use Rattle.sp_hss.specs.Validity.{IsValid}
use Rattle.sp_lms.specs.Parameters.{height, signature_len}
use Rattle.sp_lms.specs.Validity as tree
use Rattle.sp_lms.specs.declared.param.LmsParam.{LmsParam}
use Rattle.sp_lms.specs.declared.param.LmsParam.TheVariants.{H10, H15, H5}
use Rattle.sp_node_format.specs.Format.{document_in, document_of}
use Rattle.sp_ots.specs.Parameters as ots
use Rattle.sp_ots.specs.declared.param.OtsParam.{OtsParam}
use Rattle.sp_ots.specs.declared.param.OtsParam.TheVariants.{W1, W2, W4, W8}
use Rattle.sp_rules.specs.Arts.{Document}
use Rattle.sp_topology.proofs.ReadLemmas.{read_is_spelled}
use Rattle.sp_topology.specs.Documents.{document, edge_bytes, front_bytes, front_of, node_bytes, topology_at}
use Rattle.sp_topology.specs.Ranges.{AreNodes, IsTopology}
use Rattle.sp_topology.specs.declared.refused.TopologyRefused.{TopologyRefused}
use Rattle.sp_topology.specs.declared.topology.Edge.{Edge}
use Rattle.sp_topology.specs.declared.topology.LmsHeight.{LmsHeight}
use Rattle.sp_topology.specs.declared.topology.NodeKey.{NodeKey}
use Rattle.sp_topology.specs.declared.topology.Topology.{Topology}

-- ---- signatures

paths_short : (lms : LmsParam) → 32 * height lms ≤ 480
paths_short H5 = omega arith
paths_short H10 = omega arith
paths_short H15 = omega arith

one_times_short : (one_time : OtsParam) → ots.signature_len one_time ≤ 8516
one_times_short W1 = omega arith
one_times_short W2 = omega arith
one_times_short W4 = omega arith
one_times_short W8 = omega arith

by_tree : (public message signature : List ℕ) → tree.IsValid public message signature → length signature ≤ 9004
by_tree public message signature valid = omega (arith, valid.3.length_is, paths_short valid.0, one_times_short valid.1)

signature_short : (public message signature : List ℕ) → IsValid public message signature → length signature ≤ 20000
signature_short public message signature (inl one) =
    omega (arith, by_tree (drop 4 public) message (drop 4 signature) one.signed, length-drop 4 signature)
signature_short public message signature (inr two) =
    let s = two.signed in
    let upper = by_tree (drop 4 public) s.1 s.0 s.3.upper_valid in
    let lower = by_tree s.1 message s.2 s.3.lower_valid in
    let parts = ap length s.3.parts ∙ length-append (s.0 ++ s.1) s.2 in
    omega (arith, upper, lower, parts, length-append s.0 s.1, length-drop 4 signature)

-- ---- topologies

nodes_long : (format : ℕ) (h : LmsHeight) (before : ℕ) (nodes : List NodeKey) → AreNodes format h before nodes
    → length (flat_map node_bytes nodes) ≡ 61 * length nodes
nodes_long format h before [] are = refl
nodes_long format h before (n ∷ nodes) are =
    let rest = nodes_long format h n.id.0 nodes are.2 in
    omega (arith, are.1.long, rest, length-append (big_bytes 1 n.id.0) n.key, length-append (node_bytes n) (flat_map node_bytes nodes))

edges_long : (edges : List Edge) → length (flat_map edge_bytes edges) ≡ 6 * length edges
edges_long [] = refl
edges_long (e ∷ edges) = let rest = edges_long edges in omega (arith, rest, length-append (edge_bytes e) (flat_map edge_bytes edges))

topology_short : (t : Topology) → IsTopology t → length (document t) ≤ 4000
topology_short t is =
    let nodes = flat_map node_bytes t.nodes in
    let edges = flat_map edge_bytes t.edges in
    let counted = big_bytes 2 (length t.edges) ++ edges in
    omega (
      arith,
      is.graph.node_count.1,
      is.graph.edge_count,
      length-map t.nodes (λ (n : NodeKey). n.id.0),
      few_nodes t.format,
      few_edges t.format,
      nodes_long t.format t.height 0 t.nodes is.nodes,
      edges_long t.edges,
      length-append (front_bytes (front_of t)) (nodes ++ counted),
      length-append nodes counted,
      length-append (big_bytes 2 (length t.edges)) edges,
    )

-- ---- documents

-- a signed document has at most as many bytes as a document may have
pub signed_is_short : (admin bytes : List ℕ) (d : Document) → AreBytes bytes → document_in bytes ≡ Some d → IsValid admin d.message d.signature
    → length bytes ≤ MAX_DOCUMENT_BYTES
signed_is_short admin bytes d are reads valid = go (topology_at bytes) refl reads
  where
    signed_by : Option Document → List ℕ
    signed_by (Some e) = e.signature
    signed_by None = []

    sized : Topology × List ℕ → Result (Topology × ℕ) TopologyRefused
    sized read = Ok (read.0, length bytes - length read.1)

    go : (x : Result (Topology × List ℕ) TopologyRefused) → topology_at bytes ≡ x → document_of bytes (x >>= sized) ≡ Some d
        → length bytes ≤ MAX_DOCUMENT_BYTES
    go (Ok read) is reads =
        let spelled = read_is_spelled bytes read.1 read.0 are is in
        let short = topology_short read.0 spelled.0 in
        let whole = ap length spelled.1 ∙ length-append (document read.0) read.1 in
        let signature : drop (length bytes - length read.1) bytes ≡ d.signature = ap signed_by reads in
        let signed = signature_short admin d.message d.signature valid in
        let left : length (drop (length bytes - length read.1) bytes) ≡ length d.signature = ap length signature in
        omega (arith, short, whole, signed, left, length-drop (length bytes - length read.1) bytes)
    go (Err refused) is reads = absurd (cc)
