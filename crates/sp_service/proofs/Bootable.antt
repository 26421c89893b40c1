-- A configuration that fits its topology makes a node that may boot.
use Rattle.std.proofs.Common.{◌≡◌, ◌≤◌, ℕ, List, [], ◌∷◌, map, refl, ap}
use Rattle.std.proofs.lemmas.Bool.{eqb-true}
use Rattle.std.specs.Prelude.{drop, length, option_map, take, zip}
use Rattle.sp_frame.specs.declared.writing.TheConstants.{MAX_DOCUMENT_BYTES}
use Rattle.sp_node_format.specs.Format.{document_of}
use Rattle.sp_rules.specs.Arts.{Document}
use Rattle.sp_base.specs.declared.format.TheConstants.{FORMAT_2}
use Rattle.sp_base.specs.declared.id.EdgeId.{EdgeId}
use Rattle.sp_base.specs.declared.id.NodeId.{NodeId}
use Rattle.sp_config.specs.declared.config.Config.{Config}
use Rattle.sp_config.specs.declared.config.Peer.{Peer}
use Rattle.sp_node_state.specs.Boots.{IsBootable}
use Rattle.sp_recording.specs.declared.line.Opening.{Opening}
use Rattle.sp_service.specs.Fits.{Fits}
use Rattle.sp_service.specs.NodeParts.{node_signer}
use Rattle.sp_topology.specs.Neighbours.{neighbours_from}
use Rattle.sp_topology.specs.Ranges.{IsTopology}
use Rattle.sp_topology.specs.declared.topology.Topology.{Topology}
use Rattle.sp_service.specs.Starts.{IsOpening, IsSignedBy, node_config}

-- each edge has the key of its peer
edges_of : (ns : List (NodeId × EdgeId)) (ps : List Peer) → map (λ (p : Peer). p.id) ps ≡ map (λ (n : NodeId × EdgeId). n.0) ns
    → map (λ (k : EdgeId × List ℕ). k.0) (map (λ (p : (NodeId × EdgeId) × Peer). (p.0.1, p.1.key)) (zip ns ps)) ≡ map (λ (n : NodeId × EdgeId). n.1) ns
edges_of [] ps same = refl
edges_of (n ∷ ns) [] same = absurd (cc)
edges_of (n ∷ ns) (p ∷ ps) same =
    ap (λ (rest : List EdgeId). n.1 ∷ rest) (edges_of ns ps (let e : map (λ (q : Peer). q.id) ps ≡ map (λ (m : NodeId × EdgeId). m.0) ns = cc in e))

pub bootable : (c : Config) (t : Topology) (o : Opening) → length c.topology ≤ MAX_DOCUMENT_BYTES → Fits c t → IsTopology t → IsOpening t o
    → IsBootable (node_config c t) (node_signer c t.height o.index o.bound) o.boot
bootable c t o short fits topology opening = record {
  topology = record { ranges = topology };
  document = ap (λ r. option_map (λ (d : Document). d.topology) (document_of c.topology r)) fits.read;
  short = short;
  node = refl;
  height = refl;
  is_mine = fits.own;
  keys = edges_of (neighbours_from c.node.0 0 t.edges) c.peers fits.peers.neighbours_are;
  life = opening.boot;
  announces = λ on.
      let format : t.format ≡ FORMAT_2 = eqb-true t.format FORMAT_2 on in
      record { format = format; index = opening.announces format };
}

-- the configuration that fits has a document that the administrator signed
pub signed_by : (c : Config) (t : Topology) → Fits c t → IsSignedBy c.admin c.topology
signed_by c t fits =
    (record { topology = t; message = take fits.size c.topology; signature = drop fits.size c.topology }, ap (document_of c.topology) fits.read, fits.signed)
