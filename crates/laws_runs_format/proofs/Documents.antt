-- The documents of a header's setting: a frame has room for each, and that of each version is read back as that version, with the administrator's signature.
use Rattle.std.proofs.lemmas.Option.{same_Some}
use Rattle.sp_topology.specs.Heights.{height_number}
use Rattle.std.proofs.Common.{◌≡◌, ◌<◌, ◌≤◌, ◌^◌, ℕ, ◌-◌, ◌*◌, ◌==◌, Bool, true, false, not, cond}
use Rattle.std.proofs.Common.{List, [], ◌∷◌, ◌++◌, length, map, drop, Some, Ok, refl, sym, ap, subst, ◌∙◌, arith}
use Rattle.std.specs.Prelude.{IsTrue, Result}
use Rattle.std.specs.List.{All, flat_map, range_with_len}
use Rattle.std.proofs.lemmas.List.{drop_at, length-append, take_at}
use Rattle.std.proofs.lemmas.List.Elements.{All-head, All-tail}
use Rattle.std.proofs.lemmas.List.FromFn.{length-range_with_len}
use Rattle.sp_base.specs.Refusals.{◌>>=◌}
use Rattle.byteorder.specs.Endian.{big_bytes}
use Rattle.sp_base.specs.Formats.{max_edges, max_nodes}
use Rattle.sp_base.specs.Spelling.{AreBytes}
use Rattle.sp_base.specs.declared.format.TheConstants.{FORMAT_1}
use Rattle.sp_base.specs.declared.limits.TheConstants.{MAX_WEIGHT}
use Rattle.sp_hss.specs.KeyTree.{public_key, signature, signature_len, total}
use Rattle.sp_sign.specs.Heights.{param_of}
use Rattle.sp_topology.proofs.Spelled.{spelled_is_read}
use Rattle.sp_topology.specs.Documents.{document, edge_bytes, front_bytes, front_of, node_bytes, topology_at, name}
use Rattle.sp_topology.specs.Ranges.{AreEdges, ends_of, ids_of, least_weight, IsTopology}
use Rattle.sp_topology.specs.declared.refused.TopologyRefused.{TopologyRefused}
use Rattle.sp_topology.specs.declared.topology.Edge.{Edge}
use Rattle.sp_topology.specs.declared.topology.LmsHeight.{LmsHeight}
use Rattle.sp_topology.specs.declared.topology.LmsHeight.TheVariants.{Five, Ten}
use Rattle.sp_topology.specs.declared.topology.NodeKey.{NodeKey}
use Rattle.sp_topology.specs.declared.topology.Topology.{Topology}
use Rattle.sp_rules.specs.Arts.{Document}
use Rattle.sp_rules.specs.Parts.{Fixed}
use Rattle.sp_rules.specs.Node.{Signer}
use Rattle.sp_rules.specs.Topologies.{under}
use Rattle.laws_node.specs.Inputs.{ArtsFit}
use Rattle.laws_node.specs.Nodes.{FitsAFrame}
use Rattle.laws_node.proofs.Tables.{cond_either}
use Rattle.sp_node_format.proofs.FormatFits.{format_fits}
use Rattle.sp_node_format.specs.Format.{document_of, format_in}
use Rattle.sp_runs.specs.Scenarios as scenarios
use Rattle.sp_runs.specs.Scenarios.{IsHeader, admin_seed, node_key, node_seed, numbered, setting_of, topology_of}
use Rattle.sp_runs.specs.Settings.{ReadsVersion, first_signer, fixed_of, may_change, version_of}
use Rattle.sp_schedule_events.specs.declared.scenario.Scenario.{Scenario}
use Rattle.laws_runs_format.proofs.Bytes.{joined, none, of_number}
use Rattle.laws_runs_format.proofs.Signatures.{public_key_are, signature_are}
use Rattle.laws_runs_format.proofs.Topologies.{key_long, topologies_fit}

-- ---- bytes of a document, and how many there are

nodes_are : (h : LmsHeight) (seed : List ℕ) (us : List ℕ) → AreBytes (flat_map node_bytes (map (node_key h seed) us))
nodes_are h seed [] = none
nodes_are h seed (u ∷ us) =
    joined (node_bytes (node_key h seed u)) (flat_map node_bytes (map (node_key h seed) us))
    (joined (big_bytes 1 (numbered u).0) (public_key (param_of h) (node_seed seed u)) (of_number 1 (numbered u).0)
    (public_key_are (param_of h) (node_seed seed u)))
    (nodes_are h seed us)

nodes_long : (h : LmsHeight) (seed : List ℕ) (us : List ℕ) → length (flat_map node_bytes (map (node_key h seed) us)) ≡ 61 * length us
nodes_long h seed [] = refl
nodes_long h seed (u ∷ us) =
    let key = key_long (param_of h) (node_seed seed u) in
    let first = length-append (big_bytes 1 (numbered u).0) (public_key (param_of h) (node_seed seed u)) in
    let rest = nodes_long h seed us in
    let all = length-append (node_bytes (node_key h seed u)) (flat_map node_bytes (map (node_key h seed) us)) in
    omega (arith, key, first, rest, all)

edge_are : (e : Edge) → AreBytes (edge_bytes e)
edge_are e =
    joined (big_bytes 1 e.low.0) (big_bytes 1 e.high.0 ++ big_bytes 4 e.weight) (of_number 1 e.low.0)
    (joined (big_bytes 1 e.high.0) (big_bytes 4 e.weight) (of_number 1 e.high.0) (of_number 4 e.weight))

edges_bytes_are : (edges : List Edge) → AreBytes (flat_map edge_bytes edges)
edges_bytes_are [] = none
edges_bytes_are (e ∷ edges) = joined (edge_bytes e) (flat_map edge_bytes edges) (edge_are e) (edges_bytes_are edges)

edges_long : (edges : List Edge) → length (flat_map edge_bytes edges) ≡ 6 * length edges
edges_long [] = refl
edges_long (e ∷ edges) =
    let rest = edges_long edges in
    let all = length-append (edge_bytes e) (flat_map edge_bytes edges) in
    omega (arith, rest, all)

front_are : (t : Topology) → AreBytes (front_bytes (front_of t))
front_are t =
    let f = front_of t in
    let last = big_bytes 1 (height_number f.height) ++ big_bytes 1 f.count in
    let more = big_bytes 4 f.version ++ last in
    joined (big_bytes 4 name) (big_bytes 1 f.format ++ more) (of_number 4 name) (joined (big_bytes 1 f.format) more (of_number 1 f.format)
    (joined (big_bytes 4 f.version) last (of_number 4 f.version)
    (joined (big_bytes 1 (height_number f.height)) (big_bytes 1 f.count) (of_number 1 (height_number f.height)) (of_number 1 f.count))))

under_short : (edges : List Edge) (weights : List ℕ) → length (under edges weights) ≤ length edges
under_short [] weights = omega arith
under_short (e ∷ edges) [] = omega arith
under_short (e ∷ edges) (w ∷ weights) = let rest = under_short edges weights in omega (arith, rest)

-- ---- the topology of a version

under_are : (format : ℕ) (ids : List ℕ) (before : ℕ × ℕ) (edges : List Edge) (weights : List ℕ) → (format == FORMAT_1) ≡ false
    → AreEdges format ids before edges → All (λ weight. weight ≤ MAX_WEIGHT) weights → AreEdges format ids before (under edges weights)
under_are format ids before [] weights later are small = tt
under_are format ids before (e ∷ edges) [] later are small = tt
under_are format ids before (e ∷ edges) (w ∷ weights) later are small =
    let least : least_weight format ≡ 0 = rw later refl in (
      are.0,
      (omega (arith, least), All-head (λ weight. weight ≤ MAX_WEIGHT) w weights small),
      under_are format ids (ends_of e) edges weights later are.2 (All-tail (λ weight. weight ≤ MAX_WEIGHT) w weights small),
    )

later_format : (t : Bool) → not t ≡ true → t ≡ false
later_format false e = refl
later_format true e = absurd (let f : false ≡ true = e in cc)

-- each height has at least one index, and fewer than 2^32
pub totals : (h : LmsHeight) → (1 ≤ total (param_of h)) × (total (param_of h) < 2 ^ 32)
totals Five = (omega arith, omega arith)
totals Ten = (omega arith, omega arith)

signatures_short : (h : LmsHeight) → signature_len (param_of h) < 50000
signatures_short Five = omega arith
signatures_short Ten = omega arith

module _ (s : Scenario) (good : IsHeader s) where
  -- the administrator as the one node of a topology
  abbrev admin_key : NodeKey
  admin_key = record { id = numbered 1; key = public_key (param_of s.height) (admin_seed s.seed) }

  abbrev as_node : Fixed
  as_node = record (fixed_of (setting_of s) (numbered 1)) { topology = record (topology_of s) { nodes = admin_key ∷ [] } }

  abbrev its_signer : Signer
  its_signer = record (first_signer (setting_of s) (numbered 1)) { seed = admin_seed s.seed }

  admin_fits : ArtsFit (format_in s.format) as_node its_signer
  admin_fits = format_fits as_node its_signer (record { signature_len = refl; total = refl; is_mine = refl })

  -- the length of the administrator's signatures
  pub signed_long : (index : ℕ) (message : List ℕ)
      → length (signature (param_of s.height) (admin_seed s.seed) index message) ≡ signature_len (param_of s.height)
  signed_long index message = admin_fits.long index message

  -- the topology of a version that is published is in its ranges
  pub version_fits : (version : ℕ) (weights : List ℕ) → may_change (setting_of s) ≡ true → All (λ weight. weight ≤ MAX_WEIGHT) weights
      → version < 2 ^ 32 → IsTopology (version_of (setting_of s) version weights)
  version_fits version weights may small low =
      let first = (topologies_fit s good).ranges in
      let short = under_short s.graph.edges weights in
      let few = first.graph.edge_count in
      record {
        format = first.format;
        version = low;
        nodes = first.nodes;
        graph = record {
          node_count = first.graph.node_count;
          edge_count = omega (arith, short, few);
          are_edges = under_are s.format (ids_of (topology_of s).nodes) (0, 0) s.graph.edges weights (later_format (s.format == FORMAT_1) may)
              first.graph.are_edges small;
        };
      }

  -- ---- a frame has room for it

  -- what is signed of it is bytes
  pub unsigned_are : (version : ℕ) (weights : List ℕ) → AreBytes (scenarios.unsigned_of s version weights)
  unsigned_are version weights =
      joined (front_bytes (front_of t)) (nodes ++ (big_bytes 2 (length t.edges) ++ edges)) (front_are t)
      (joined nodes (big_bytes 2 (length t.edges) ++ edges) (nodes_are s.height s.seed (range_with_len 1 s.graph.nodes))
      (joined (big_bytes 2 (length t.edges)) edges (of_number 2 (length t.edges)) (edges_bytes_are t.edges)))
    where
      t : Topology
      t = version_of (setting_of s) version weights

      nodes : List ℕ
      nodes = flat_map node_bytes t.nodes

      edges : List ℕ
      edges = flat_map edge_bytes t.edges

  -- the document of each version fits into a frame
  pub rooms : (version : ℕ) (weights : List ℕ) → FitsAFrame (scenarios.document_of s version weights)
  rooms version weights =
      cond_either FitsAFrame (s.format == FORMAT_1) bytes (bytes ++ signed) (unsigned_are version weights, omega (arith, all_long)) (
        joined bytes signed (unsigned_are version weights) (signature_are (param_of s.height) (admin_seed s.seed) (version - 1) bytes),
        omega (arith, all_long, signed_long (version - 1) bytes, signatures_short s.height, length-append bytes signed),
      )
    where
      t : Topology
      t = version_of (setting_of s) version weights

      bytes : List ℕ
      bytes = document t

      signed : List ℕ
      signed = signature (param_of s.height) (admin_seed s.seed) (version - 1) bytes

      nodes : List ℕ
      nodes = flat_map node_bytes t.nodes

      edges : List ℕ
      edges = flat_map edge_bytes t.edges

      all_long : length bytes ≤ 4000
      all_long =
          let one = length-append (front_bytes (front_of t)) (nodes ++ (big_bytes 2 (length t.edges) ++ edges)) in
          let two = length-append nodes (big_bytes 2 (length t.edges) ++ edges) in
          let three = length-append (big_bytes 2 (length t.edges)) edges in
          let its_nodes = nodes_long s.height s.seed (range_with_len 1 s.graph.nodes) in
          let count = length-range_with_len 1 s.graph.nodes in
          let its_edges = edges_long t.edges in
          let short = under_short s.graph.edges weights in
          let few_nodes = most_nodes s.format s.graph.nodes good.graph.nodes.1 in
          let few_edges = most_edges s.format (length s.graph.edges) good.graph.few in
          omega (arith, one, two, three, its_nodes, count, its_edges, short, few_nodes, few_edges)
        where
          most_nodes : (format n : ℕ) → n ≤ max_nodes format → n ≤ 32
          most_nodes format n low = go (format == FORMAT_1) low
            where
              go : (b : Bool) → n ≤ cond b 16 32 → n ≤ 32
              go true low = omega (arith, low)
              go false low = low

          most_edges : (format n : ℕ) → n ≤ max_edges format → n ≤ 256
          most_edges format n low = go (format == FORMAT_1) low
            where
              go : (b : Bool) → n ≤ cond b 120 256 → n ≤ 256
              go true low = omega (arith, low)
              go false low = low

  -- ---- it is read back

  pub documents_are_read : may_change (setting_of s) ≡ true → (version : ℕ) (weights : List ℕ) → All (λ weight. weight ≤ MAX_WEIGHT) weights
      → 1 ≤ version → version ≤ total (param_of s.height) → ReadsVersion (format_in s.format) (setting_of s) version weights
  documents_are_read may version weights small some most =
      let later = later_format (s.format == FORMAT_1) may in
      let top = (totals s.height).1 in
      let ranges = version_fits version weights may small (omega (arith, most, top)) in
      let valid = admin_is version (document t) some most in
      let is : scenarios.document_of s version weights ≡ document t ++ signed = rw later refl in
      let read : topology_at (document t ++ signed) ≡ Ok (t, signed) = spelled_is_read t signed ranges in
      let long = length-append (document t) signed in
      let cut : length (document t ++ signed) - length signed ≡ length (document t) = omega (arith, long) in
      record {
        document = record { topology = t; message = document t; signature = signed };
        reads =
            ap (λ bs. (format_in s.format).read_document bs) is
            ∙ ap (λ (r : Result (Topology × List ℕ) TopologyRefused). document_of (document t ++ signed)
            (r >>= λ read. Ok (read.0, length (document t ++ signed) - length read.1))) read
            ∙ ap (λ (n : ℕ). document_of (document t ++ signed) (Ok (t, n))) cut
            ∙ ap (λ (m : List ℕ). Some (the_document m (drop (length (document t)) (document t ++ signed))))
            (take_at (document t) signed (length (document t)) refl)
            ∙ ap (λ (z : List ℕ). Some (the_document (document t) z)) (drop_at (document t) signed (length (document t)) refl);
        topology = refl;
        message = refl;
        signed = valid;
      }
    where
      t : Topology
      t = version_of (setting_of s) version weights

      signed : List ℕ
      signed = signature (param_of s.height) (admin_seed s.seed) (version - 1) (document t)

      the_document : (message rest : List ℕ) → Document
      the_document message rest = record { topology = t; message = message; signature = rest }

      admin_is : (v : ℕ) (message : List ℕ) → 1 ≤ v → v ≤ total (param_of s.height)
          → IsTrue ((format_in s.format).valid (public_key (param_of s.height) (admin_seed s.seed)) message
          (signature (param_of s.height) (admin_seed s.seed) (v - 1) message))
      admin_is v message some most =
          let its_key = same_Some (public_key (param_of s.height) (admin_seed s.seed)) admin_fits.key admin_fits.is_mine in
          subst (λ (key : List ℕ). IsTrue ((format_in s.format).valid key message (signature (param_of s.height) (admin_seed s.seed) (v - 1) message)))
          (sym its_key) (admin_fits.valid (v - 1) message (omega (arith, some, most)))
