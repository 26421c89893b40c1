-- The topology of a draft, its document with the administrator's signature (RFC 8554), and the two lines that tell them.
--
--     document | signature        in hexadecimal
--     administrator's key         in hexadecimal
use Rattle.std.specs.Prelude.{ℕ, List, ◌++◌, codes, map}
use Rattle.hex.specs.Hex.{encode_lower}
use Rattle.sp_hss.specs.KeyTree.{public_key, signature}
use Rattle.sp_sign.specs.Heights.{param_of}
use Rattle.sp_topology.specs.declared.topology.LmsHeight.{LmsHeight}
use Rattle.sp_topology.specs.declared.topology.NodeKey.{NodeKey}
use Rattle.sp_topology.specs.declared.topology.Topology.{Topology}
use Rattle.sp_topology.specs.Documents.{document}
use Rattle.sp_config.specs.declared.draft.Draft.{Draft}
use Rattle.sp_config.specs.declared.draft.DraftNode.{DraftNode}
use Rattle.sp_config.specs.Readings.{as_edge}

-- a node with the public key of its seed
abbrev pub node_key : LmsHeight → DraftNode → NodeKey
node_key height n = record { id = n.id; key = public_key (param_of height) n.seed }

-- the topology of a draft
abbrev pub topology_of : Draft → Topology
topology_of d = record {
  format = d.format;
  version = d.version;
  height = d.height;
  nodes = map (node_key d.height) d.nodes;
  edges = map as_edge d.edges;
}

-- the document, and the administrator's signature of it with the draft's index
abbrev pub signed_document : Draft → List ℕ
signed_document d = document (topology_of d) ++ signature (param_of d.height) d.admin_seed d.admin_index (document (topology_of d))

-- the administrator's public key
abbrev pub admin_key : Draft → List ℕ
admin_key d = public_key (param_of d.height) d.admin_seed

-- the line of some bytes
abbrev pub hex_line : List ℕ → List ℕ
hex_line bytes = encode_lower bytes ++ codes "\n"

-- the two lines of a signed draft
unfoldable pub signed_text : Draft → List ℕ
signed_text d = hex_line (signed_document d) ++ hex_line (admin_key d)
