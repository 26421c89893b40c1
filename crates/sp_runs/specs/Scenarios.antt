-- The setting that a schedule's header makes: nodes 1 to N under version 1 of the topology, with the header's edges, and keys of its seed.
use Rattle.std.specs.Prelude.{ℕ, ◌≡◌, ◌==◌, ◌-◌, ◌++◌, true, List, codes, map, if◌then◌else◌}
use Rattle.std.specs.List.{range_with_len}
use Rattle.sha2.specs.Sha256.{sha256}
use Rattle.sp_base.specs.Formats.{IsFormat}
use Rattle.sp_base.specs.declared.format.TheConstants.{FORMAT_1, FORMAT_2}
use Rattle.sp_base.specs.declared.id.NodeId.{NodeId}
use Rattle.sp_graph.specs.Edges.{IsGraphIn}
use Rattle.sp_hmac.specs.Hmac.{hmac}
use Rattle.sp_hss.specs.KeyTree.{public_key, signature, signature_len, total}
use Rattle.sp_ots.specs.Strings.{u16str, u8str}
use Rattle.sp_rules.specs.Topologies.{under}
use Rattle.sp_sign.specs.Heights.{param_of}
use Rattle.sp_topology.specs.Documents.{document}
use Rattle.sp_topology.specs.declared.topology.LmsHeight.{LmsHeight}
use Rattle.sp_topology.specs.declared.topology.NodeKey.{NodeKey}
use Rattle.sp_topology.specs.declared.topology.Topology.{Topology}
use Rattle.sp_runs.specs.Settings.{Setting}
use Rattle.sp_schedule_events.specs.declared.scenario.Scenario.{Scenario}

-- the seed of a node's key
abbrev pub node_seed : List ℕ → ℕ → List ℕ
node_seed seed u = hmac seed (codes "node" ++ u8str u)

-- the key of the tags over an edge
abbrev pub edge_key : List ℕ → ℕ → List ℕ
edge_key seed e = hmac seed (codes "link" ++ u16str e)

-- the node of this number
abbrev pub numbered : ℕ → NodeId
numbered u = record { 0 = u }

-- a node and its public key
abbrev pub node_key : LmsHeight → List ℕ → ℕ → NodeKey
node_key height seed u = record { id = numbered u; key = public_key (param_of height) (node_seed seed u) }

-- the format of a header is one of the two, and its graph is in that format's ranges. Epochs are of format 2
pub record IsHeader (s : Scenario) : Type 0 where
  pub format : IsFormat s.format
  pub graph : IsGraphIn s.format s.graph
  pub epochs : s.epochs ≡ true → s.format ≡ FORMAT_2

-- the topology that all nodes run under
abbrev pub topology_of : Scenario → Topology
topology_of s =
    record { format = s.format; version = 1; height = s.height; nodes = map (node_key s.height s.seed) (range_with_len 1 s.graph.nodes); edges = s.graph.edges }

-- the seed of the administrator's key
abbrev pub admin_seed : List ℕ → List ℕ
admin_seed seed = hmac seed (codes "admin")

-- the bytes of a version with these weights
abbrev pub unsigned_of : Scenario → (version : ℕ) → (weights : List ℕ) → List ℕ
unsigned_of s version weights = document (record (topology_of s) { version = version; edges = under s.graph.edges weights })

-- the document of a version with these weights. In format 2 the administrator signs it, with the index before the version
abbrev pub document_of : Scenario → (version : ℕ) → (weights : List ℕ) → List ℕ
document_of s version weights =
    let bytes = unsigned_of s version weights in
    if s.format == FORMAT_1 then bytes else bytes ++ signature (param_of s.height) (admin_seed s.seed) (version - 1) bytes

-- the setting of a header
abbrev pub setting_of : Scenario → Setting
setting_of s = record {
  topology = topology_of s;
  buffer = s.limits.buffer;
  store = s.limits.store;
  bad = s.bad;
  seed = λ u. node_seed s.seed u;
  signature_len = signature_len (param_of s.height);
  total = total (param_of s.height);
  link_key = λ e. edge_key s.seed e;
  digest = λ bytes. sha256 bytes;
  epochs = s.epochs;
  admin = public_key (param_of s.height) (admin_seed s.seed);
  admin_total = total (param_of s.height);
  document = document_of s;
  unsigned = unsigned_of s;
}
