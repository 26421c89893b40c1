-- The arts of a format fit a node of it.
use Rattle.std.proofs.Common.{◌≡◌, ◌<◌, ◌≤◌, ◌∙◌, ℕ, ◌+◌, ◌-◌, ◌/◌, ◌%◌, List, [], ◌∷◌, ◌++◌, length, length-take, take, drop, Option, None, Some, Ok, Err}
use Rattle.std.proofs.Common.{append_assoc, refl, sym, ap, subst, arith}
use Rattle.std.specs.Prelude.{IfSome, Result}
use Rattle.std.specs.List.{All}
use Rattle.std.proofs.lemmas.Bool.Decides.{nat_tests}
use Rattle.std.proofs.lemmas.List.{drop_at, length-append, length-drop, take_at}
use Rattle.std.proofs.lemmas.List.Elements.{All-cons, All-drop, All-nil, All-take}
use Rattle.byteorder.specs.Endian.{big_bytes}
use Rattle.sp_base.proofs.NumberLemmas.{byte_at_place, number_fits}
use Rattle.sp_base.specs.Refusals.{◌>>=◌}
use Rattle.sp_base.specs.Spelling.{AreBytes}
use Rattle.sp_base.specs.declared.limits.TheConstants.{MAX_WEIGHT}
use Rattle.sp_frame.proofs.SectionLemmas.{read_is_spelled}
use Rattle.sp_frame.specs.Frames.{head_of, opened_in, sections_part, tagged_part}
use Rattle.sp_frame.specs.Ranges.{IsHead}
use Rattle.sp_frame.specs.Sections.{Contents, control_bytes, document_bytes, sections_bytes_in, sections_of_in, sized_bytes, zeros_bytes}
use Rattle.sp_frame.specs.declared.frame.TheConstants.{MAX_FRAME_BYTES}
use Rattle.sp_hss.proofs.Decision.{decided}
use Rattle.sp_hss.proofs.Lengths.{length-front_of}
use Rattle.sp_hss.proofs.Validity.{seed_signatures_are_valid}
use Rattle.sp_hss.specs.KeyTree.{front_of, public_key, signature, signature_len, tree_id, tree_seed, tree_signature}
use Rattle.sp_hss.specs.declared.tree.Tree.TheVariants.{Lower}
use Rattle.sp_lms.proofs.Validity as lms
use Rattle.sp_lms.specs.Parameters.{leaf_count}
use Rattle.sp_lms.specs.declared.param.LmsParam.{LmsParam}
use Rattle.sp_ots.specs.declared.param.OtsParam.TheVariants.{W4}
use Rattle.sp_rules.specs.Arts.{Document}
use Rattle.sp_rules.specs.Topologies.{weights_in}
use Rattle.sp_sign.specs.Heights.{param_of}
use Rattle.sp_topology.proofs.ReadLemmas.{read_is_spelled as topology_is_spelled}
use Rattle.sp_topology.specs.Documents.{read_of, topology_at}
use Rattle.sp_topology.specs.Ranges.{AreEdges, ends_of, ids_of}
use Rattle.sp_topology.specs.declared.refused.TopologyRefused.{TopologyRefused}
use Rattle.sp_topology.specs.declared.topology.Edge.{Edge}
use Rattle.sp_topology.specs.declared.topology.Topology.{Topology}
use Rattle.laws_node.specs.Inputs.{IsVersion}
use Rattle.laws_node.specs.Nodes.{FitsAFrame}
use Rattle.sp_node_format.specs.Format.{document_of}
use Rattle.sp_node_format.specs.FormatLaws.{FormatFits}
use Rattle.sp_node_format.proofs.GoodFields.{fields_pass}

-- whatever the index
long : (h : LmsParam) (seed : List ℕ) (index : ℕ) (message : List ℕ) → length (signature h seed index message) ≡ signature_len h
unfolding signature
long h seed index message =
    let t = index / leaf_count h in
    let q = index % leaf_count h in
    omega (
      arith,
      length-append (front_of h seed t) (tree_signature h seed (Lower t) q message),
      length-front_of h seed t,
      lms.length-signature h W4 (tree_id seed (Lower t)) (tree_seed seed (Lower t)) q message,
    )

head_fits : (bytes : List ℕ) → AreBytes bytes → IsHead (head_of bytes)
unfolding head_of
head_fits bytes are = record {
  format = byte_at_place bytes are 2;
  from = byte_at_place bytes are 3;
  to = byte_at_place bytes are 4;
  boot = number_fits 8 (drop 5 bytes) (All-drop (λ b. b < 256) 5 bytes are);
  echo = number_fits 8 (drop 13 bytes) (All-drop (λ b. b < 256) 13 bytes are);
  counter = number_fits 8 (drop 21 bytes) (All-drop (λ b. b < 256) 21 bytes are);
  topology = number_fits 4 (drop 29 bytes) (All-drop (λ b. b < 256) 29 bytes are);
}

part_fits : (bytes : List ℕ) → AreBytes bytes → AreBytes (sections_part bytes)
part_fits bytes are = All-drop (λ b. b < 256) 33 (take (length bytes - 32) bytes) (All-take (λ b. b < 256) (length bytes - 32) bytes are)

-- ---- documents

-- the weights of a topology have room in their fields
weights_small : (format : ℕ) (ids : List ℕ) (before : ℕ × ℕ) (edges : List Edge) → AreEdges format ids before edges
    → All (λ weight. weight ≤ MAX_WEIGHT) (weights_in edges)
weights_small format ids before [] are = All-nil (λ weight. weight ≤ MAX_WEIGHT)
weights_small format ids before (e ∷ edges) are =
    All-cons (λ weight. weight ≤ MAX_WEIGHT) e.weight (weights_in edges) are.1.1 (weights_small format ids (ends_of e) edges are.2)

abbrev document_where : List ℕ → Topology → ℕ → Document
document_where bytes t len = record { topology = t; message = take len bytes; signature = drop len bytes }

-- the version and the weights of a document that is read have room in their fields
version_fits : (bytes : List ℕ) (d : Document) → AreBytes bytes → document_of bytes (read_of bytes) ≡ Some d → IsVersion d.topology
version_fits bytes d are reads = go (topology_at bytes) refl reads
  where
    go : (r : Result (Topology × List ℕ) TopologyRefused) → topology_at bytes ≡ r
        → document_of bytes (r >>= λ read. Ok (read.0, length bytes - length read.1)) ≡ Some d → IsVersion d.topology
    go (Ok (t, rest)) is read =
        let ranges = (topology_is_spelled bytes rest t are is).0 in
        let fits : IsVersion t = record {
          version = ranges.version;
          weights = weights_small t.format (ids_of t.nodes) (0, 0) t.edges ranges.graph.are_edges;
        } in
        let same : document_where bytes t (length bytes - length rest) ≡ d =
        let e : Some (document_where bytes t (length bytes - length rest)) ≡ Some d = read in cc in
        subst (λ (x : Document). IsVersion x.topology) same fits
    go (Err refused) is read = absurd (cc)

spelled_is : (format len : ℕ) (part : List ℕ) (s : Contents) (document : List ℕ) → AreBytes part → sections_of_in format len part ≡ Ok s
    → s.document ≡ Some document → part ≡ 128 ∷ document_bytes document
unfolding sections_bytes_in
spelled_is format len part s document are reads is =
    (read_is_spelled format len part s are reads).0 ∙ ap (λ (o : Option (List ℕ)). control_bytes format s o) is

-- a document is bytes where its spelling is
are_bytes : (document : List ℕ) → AreBytes (128 ∷ document_bytes document) → AreBytes document
unfolding document_bytes sized_bytes
are_bytes document are =
    let size = big_bytes 2 (length document) in
    let zeros = zeros_bytes 0 in
    let parts : 128 ∷ ((size ++ document) ++ zeros) ≡ (128 ∷ size) ++ (document ++ zeros) =
    ap (λ (xs : List ℕ). 128 ∷ xs) (append_assoc size document zeros) in
    let rest : drop 3 (128 ∷ ((size ++ document) ++ zeros)) ≡ document ++ zeros =
    ap (λ (xs : List ℕ). drop 3 xs) parts ∙ drop_at (128 ∷ size) (document ++ zeros) 3 (omega arith) in
    subst AreBytes (take_at document zeros (length document) refl)
    (All-take (λ b. b < 256) (length document) (document ++ zeros)
    (subst AreBytes rest (All-drop (λ b. b < 256) 3 (128 ∷ ((size ++ document) ++ zeros)) are)))

spelled_len : (document : List ℕ) → length (128 ∷ document_bytes document) ≡ length document + 16
unfolding document_bytes sized_bytes zeros_bytes
spelled_len document = omega (arith, length-append (big_bytes 2 (length document)) document, length-append document (zeros_bytes 0))

-- what opens has room in a datagram
opens_short : (format : ℕ) (bytes frame : List ℕ) → opened_in format bytes ≡ Ok frame → length bytes ≤ MAX_FRAME_BYTES
opens_short format bytes frame opens = grind (arith, nat_tests, opens)

-- a document that a frame brought is bytes of it, and a frame has room for it
carried_fits : (format len : ℕ) (bytes frame : List ℕ) (s : Contents) → AreBytes bytes → opened_in format bytes ≡ Ok frame
    → sections_of_in format len (sections_part bytes) ≡ Ok s → IfSome s.document FitsAFrame
carried_fits format len bytes frame s are opens reads = go s.document refl
  where
    part : AreBytes (sections_part bytes)
    part = part_fits bytes are

    go : (o : Option (List ℕ)) → s.document ≡ o → IfSome o FitsAFrame
    go None is = tt
    go (Some document) is =
        let spelled : sections_part bytes ≡ 128 ∷ document_bytes document = spelled_is format len (sections_part bytes) s document part reads is in
        let short = opens_short format bytes frame opens in
        let inner : length (tagged_part bytes) ≤ length bytes - 32 = omega (arith, length-take (length bytes - 32) bytes) in
        let all : length (sections_part bytes) ≡ length (tagged_part bytes) - 33 = length-drop 33 (tagged_part bytes) in
        (are_bytes document (subst AreBytes spelled part), omega (arith, ap length spelled, spelled_len document, short, inner, all))

pub format_fits : FormatFits
format_fits f s is = record {
  long = λ index message. long (param_of f.topology.height) s.seed index message ∙ sym is.signature_len;
  key = public_key (param_of f.topology.height) s.seed;
  is_mine = is.is_mine;
  valid = λ index message below.
      (decided (public_key (param_of f.topology.height) s.seed) message (signature (param_of f.topology.height) s.seed index message)).1
      (seed_signatures_are_valid (param_of f.topology.height) s.seed message index (omega (arith, below, is.total)));
  heads = head_fits;
  sections = λ bytes contents are reads.
      (read_is_spelled f.topology.format f.signature_len (sections_part bytes) contents (part_fits bytes are) reads).1;
  own = λ body fields about. fields_pass f.topology.format body fields;
  documents = version_fits;
  carried = carried_fits f.topology.format f.signature_len;
}
