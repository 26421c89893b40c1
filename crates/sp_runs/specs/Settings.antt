-- What the header of a schedule makes: who is there, with which keys and bounds, and which of them are compromised.
use Rattle.std.specs.Prelude.{ℕ, ◌≡◌, ◌<◌, ◌≤◌, ◌^◌, ◌==◌, ◌&&◌, Bool, true, false, not, IsTrue, List, length, map, filter, Some}
use Rattle.std.specs.List.{All, list_any}
use Rattle.sp_base.specs.Spelling.{AreBytes}
use Rattle.sp_base.specs.declared.format.TheConstants.{FORMAT_1, FORMAT_2}
use Rattle.sp_base.specs.declared.id.NodeId.{NodeId}
use Rattle.sp_base.specs.declared.limits.TheConstants.{MAX_WEIGHT}
use Rattle.sp_topology.specs.declared.topology.Topology.{Topology}
use Rattle.sp_rules.specs.Arts.{Arts, Document}
use Rattle.sp_epoch.specs.declared.started.Started.{Started}
use Rattle.sp_rules.specs.Node.{NodeState, Signer, booted, started}
use Rattle.sp_rules.specs.Parts.{Fixed, neighbours_of, nodes_of}
use Rattle.sp_rules.specs.Topologies.{IsRunnable, under, weights_in}
use Rattle.laws_node.specs.Inputs.{ArtsFit}
use Rattle.laws_node.specs.Nodes.{FitsAFrame}
use Rattle.laws_node.specs.Sizes.{most_indexes}

pub record Setting : Type 0 where
  pub topology : Topology
  -- how many messages of a flow, and entries of a store, a node keeps
  pub buffer : ℕ
  pub store : ℕ
  -- the compromised nodes
  pub bad : List NodeId
  -- the seed of a node's key, how long signatures are, and how many each key makes
  pub seed : ℕ → List ℕ
  pub signature_len : ℕ
  pub total : ℕ
  -- the key of the tags over an edge
  pub link_key : ℕ → List ℕ
  -- what a journal tells of a frame's bytes
  pub digest : List ℕ → List ℕ
  -- its correct nodes start and stop by events, and sign the boot of each life. Else each has started before the first event, and none stops
  pub epochs : Bool
  -- the administrator's key, how many indexes it has, and the document of a version with these weights of its edges. Where topologies may change, the
  -- administrator signs it with the index before the version
  pub admin : List ℕ
  pub admin_total : ℕ
  pub document : (version : ℕ) → (weights : List ℕ) → List ℕ
  -- what is signed of it
  pub unsigned : (version : ℕ) → (weights : List ℕ) → List ℕ

-- ---- who is correct

-- the node is among these
abbrev pub is_one_of : List NodeId → NodeId → Bool
is_one_of nodes u = list_any (λ n. n.0 == u.0) nodes

-- the topology has it
abbrev pub is_node : Setting → NodeId → Bool
is_node x u = is_one_of (nodes_of x.topology) u

-- it is there, and follows the rules
abbrev pub is_correct : Setting → NodeId → Bool
is_correct x u = is_node x u && not (is_one_of x.bad u)

-- ---- a correct node at a start

-- what is fixed in its life of this boot
abbrev pub fixed_at : Setting → NodeId → (boot : ℕ) → Fixed
fixed_at x u boot = record {
  me = u;
  boot = boot;
  topology = x.topology;
  document = x.document x.topology.version (weights_in x.topology.edges);
  signature_len = x.signature_len;
  admin = x.admin;
  epochs = x.epochs;
}

-- its signer, from an index on, below a bound
abbrev pub signer_from : Setting → NodeId → (index bound : ℕ) → Signer
signer_from x u index bound = record { seed = x.seed u.0; index = index; bound = bound; total = x.total }

-- the keys of its edges, in the order of its neighbours
abbrev pub link_keys : Setting → NodeId → List (List ℕ)
link_keys x u = map (λ n. x.link_key n.1.0) (neighbours_of (fixed_at x u 1))

-- its state, where it starts with this boot and these indexes: with epochs it has signed the boot
abbrev pub node_at_start : Arts → Setting → NodeId → Started → NodeState
node_at_start arts x u s = started arts (fixed_at x u s.boot) (signer_from x u s.index s.bound) (link_keys x u) x.buffer x.store

-- ---- the same before the first event, without epochs: it boots with 1, and all its indexes are reserved

-- what is fixed of a node in its first life
abbrev pub fixed_of : Setting → NodeId → Fixed
fixed_of x u = fixed_at x u 1

-- the signer of a node's first life, with all indexes
abbrev pub first_signer : Setting → NodeId → Signer
first_signer x u = signer_from x u 0 x.total

-- a node at the start of a run without epochs
abbrev pub node_at_boot : Setting → NodeId → NodeState
node_at_boot x u = booted (fixed_of x u) (first_signer x u) (link_keys x u) x.buffer x.store

-- the correct nodes, in the order of the topology
abbrev pub correct_nodes : Setting → List NodeId
correct_nodes x = filter (is_correct x) (nodes_of x.topology)

-- ---- versions of its topology

-- other versions may follow
abbrev pub may_change : Setting → Bool
may_change x = not (x.topology.format == FORMAT_1)

-- there are flows on paths
abbrev pub has_paths : Setting → Bool
has_paths x = not (x.topology.format == FORMAT_1)

-- the topology of a version with these weights
abbrev pub version_of : Setting → (version : ℕ) → (weights : List ℕ) → Topology
version_of x version weights = record x.topology { version = version; edges = under x.topology.edges weights }

-- the document says that version, and the administrator signed it
pub record ReadsVersion (arts : Arts) (x : Setting) (version : ℕ) (weights : List ℕ) : Type 0 where
  pub document : Document
  pub reads : arts.read_document (x.document version weights) ≡ Some document
  pub topology : document.topology ≡ version_of x version weights
  pub message : document.message ≡ x.unsigned version weights
  pub signed : IsTrue (arts.valid x.admin document.message document.signature)

-- ---- what is asked of a setting and of arts. Each is proved of the arts of a format and of what a schedule's header makes

-- a setting in its ranges, whose arts fit each node
pub record SettingFits (arts : Arts) (x : Setting) : Type 0 where
  pub topology : IsRunnable x.topology
  -- an Epoch object is of format 2
  pub format : x.epochs ≡ true → x.topology.format ≡ FORMAT_2
  pub short : x.signature_len < 65536
  pub total : x.total ≤ most_indexes
  -- each correct node signs validly under the key that the topology has for it, and what it reads is in its ranges
  pub each : (u : NodeId) → IsTrue (is_correct x u) → ArtsFit arts (fixed_of x u) (first_signer x u)
  -- a frame has room for each document
  pub room : (version : ℕ) (weights : List ℕ) → FitsAFrame (x.document version weights)
  -- and what is signed of it is bytes
  pub unsigned : (version : ℕ) (weights : List ℕ) → AreBytes (x.unsigned version weights)
  -- where topologies may change, the document of a version with a weight in its range for each edge is read back as that version
  pub documents : may_change x ≡ true → (version : ℕ) (weights : List ℕ) → length weights ≡ length x.topology.edges
      → All (λ weight. weight ≤ MAX_WEIGHT) weights → 1 ≤ version → version ≤ x.admin_total → ReadsVersion arts x version weights
  pub versions : x.admin_total < 2 ^ 32
  -- the first version is one of these, and withdraws no edge
  pub some : 1 ≤ x.admin_total
  pub first : x.topology.version ≡ 1
  pub all_open : All (λ e. 1 ≤ e.weight) x.topology.edges

-- and no node ever starts or stops by an event
pub record StaysUp (arts : Arts) (x : Setting) : Type 0 where
  pub fits : SettingFits arts x
  pub plain : x.epochs ≡ false
