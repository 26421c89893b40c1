-- How a daemon's node starts: nothing was sent, heard or kept, no client has a session, and the signer has the indexes that the first line of the
-- recording says. Under a document of format 2 it has signed its boot with the first of them, and holds it.
use Rattle.std.specs.Prelude.{ℕ, ◌≡◌, ◌≤◌, ◌<◌, ◌==◌, List, Some}
use Rattle.sp_base.specs.declared.format.TheConstants.{FORMAT_2}
use Rattle.sp_client.specs.Tables.{no_sessions}
use Rattle.sp_config.specs.declared.config.Config.{Config}
use Rattle.sp_hss.specs.KeyTree.{total}
use Rattle.sp_hss.specs.Validity.{IsValid}
use Rattle.sp_node_format.specs.Format.{document_in}
use Rattle.sp_node_state.specs.Boots.{started_of}
use Rattle.sp_node_state.specs.declared.boot.NodeConfig.{NodeConfig}
use Rattle.sp_rules.specs.Arts.{Document}
use Rattle.sp_recording.specs.declared.line.Opening.{Opening}
use Rattle.sp_service.specs.NodeParts.{link_keys, node_signer}
use Rattle.sp_service_station.specs.Stations.{Station, node_of}
use Rattle.sp_sign.specs.Heights.{param_of}
use Rattle.sp_topology.specs.declared.topology.Topology.{Topology}

-- it runs with epochs under a document of format 2, and without under one of format 1
abbrev pub node_config : Config → Topology → NodeConfig
node_config c t = record {
  me = c.node;
  topology = t;
  document = c.topology;
  limits = record { buffer = c.buffer; store = c.store };
  keys = link_keys c t;
  admin = c.admin;
  epochs = t.format == FORMAT_2;
}

-- the bytes are a document with its signature by this administrator
abbrev pub IsSignedBy : (admin document : List ℕ) → Type 0
IsSignedBy admin document = (d : Document) × (document_in document ≡ Some d) × IsValid admin d.message d.signature

-- how many messages the node's key signs
abbrev pub total_of : Topology → ℕ
total_of t = total (param_of t.height)

-- a start under a document of format 2 has an index, with which its node signs its boot
abbrev pub CanAnnounce : Topology → Opening → Type 0
CanAnnounce t o = t.format ≡ FORMAT_2 → o.index < o.bound

-- the number of the start is one, and its indexes are those of the key
pub record IsOpening (t : Topology) (o : Opening) : Type 0 where
  pub boot : 1 ≤ o.boot
  pub index : o.index ≤ o.bound
  pub bound : o.bound ≤ total_of t
  pub announces : CanAnnounce t o

-- a station at its start
pub record IsStarted (c : Config) (t : Topology) (o : Opening) (s : Station) : Type 0 where
  pub node : node_of s ≡ started_of (node_config c t) (node_signer c t.height o.index o.bound) o.boot
  pub clients : s.clients ≡ no_sessions
