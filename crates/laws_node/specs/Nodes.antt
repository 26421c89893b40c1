-- What a node keeps after any steps: within its bounds, each thing in its place, in its ranges, and counted.
use Rattle.std.specs.Prelude.{ℕ, ◌≡◌, ◌<◌, ◌≤◌, ◌^◌, Bool, IsTrue, List, length}
use Rattle.std.specs.List.{All}
use Rattle.sp_base.specs.Spelling.{AreBytes}
use Rattle.sp_base.specs.declared.limits.TheConstants.{MAX_WEIGHT}
use Rattle.sp_frame.specs.declared.writing.TheConstants.{MAX_DOCUMENT_BYTES}
use Rattle.sp_msg.specs.declared.kept.Kept.{Kept}
use Rattle.sp_rules.specs.Arts.{Arts}
use Rattle.sp_rules.specs.Link.{Link}
use Rattle.sp_rules.specs.Node.{NodeState, Signer}
use Rattle.sp_rules.specs.Parts.{Fixed, Parts, is_signed, nodes_of}
use Rattle.sp_rules.specs.Topologies.{IsRunnable}
use Rattle.sp_rules.specs.Versions.{Live}
use Rattle.sp_rules.specs.declared.kflow.FlowKind.TheVariants as kinds
use Rattle.sp_rules.specs.declared.node.TheConstants.{MAX_CALLS}
use Rattle.laws_node.specs.Flows.{RelHolds}
use Rattle.laws_node.specs.HeldBoots.{LifeHolds}
use Rattle.laws_node.specs.Sizes.{IsNode, Sizes, ids_after, most_indexes, numbers_after}
use Rattle.laws_node.specs.Stores.{PrioHolds}
use Rattle.laws_node.specs.Updates.{WeightsHold}

-- so many polls and datagrams were answered
pub record LinkHolds (calls : ℕ) (l : Link) : Type 0 where
  pub me : l.me.0 < 256
  pub peer : l.peer.0 < 256
  pub boot : l.boot < 2 ^ 64
  pub peer_boot : l.peer_boot < 2 ^ 64
  pub sent : l.sent ≤ calls

-- what is fixed of a node is that of its sizes
pub record FixedHolds (k : Sizes) (f : Fixed) : Type 0 where
  pub me : f.me ≡ k.me
  pub format : f.topology.format ≡ k.format
  pub nodes : nodes_of f.topology ≡ k.nodes
  pub edges : f.topology.edges ≡ k.edges
  pub is_node : IsNode k.format f.me
  pub boot : f.boot < 2 ^ 64
  pub topology : IsRunnable f.topology
  pub signature_len : f.signature_len ≡ k.signature_len
  pub short : f.signature_len < 65536

-- a signer whose next index is below its bound, and that below its total
pub record SignerHolds (s : Signer) : Type 0 where
  pub index : s.index ≤ s.bound
  pub bound : s.bound ≤ s.total
  pub total : s.total ≤ most_indexes

-- all parts of a node within their bounds, under so many numbers, ids and signatures
pub record PartsHold (k : Sizes) (numbers ids index : ℕ) (p : Parts) : Type 0 where
  pub weights : WeightsHold k index p.weights
  pub prio : PrioHolds k numbers ids index p.prio
  pub rel : RelHolds kinds.Plain k index p.rel
  pub kflow : RelHolds kinds.Paths k index p.kflow.flows
  pub lives : All (LifeHolds k) p.lives
  -- for each node the place in its cycle of Epoch objects
  pub origins : length p.origins ≡ length k.nodes

-- a frame has room for these bytes as a document
abbrev pub FitsAFrame : List ℕ → Type 0
FitsAFrame document = AreBytes document × (length document ≤ MAX_DOCUMENT_BYTES)

-- a weight for each edge, and all in their fields
pub record LiveHolds (k : Sizes) (l : Live) : Type 0 where
  pub version : l.version < 2 ^ 32
  pub count : length l.weights ≡ length k.edges
  pub weights : All (λ weight. weight ≤ MAX_WEIGHT) l.weights
  pub document : FitsAFrame l.document

-- a node within its bounds, with each thing in its place
pub record NodeHolds (k : Sizes) (n : NodeState) : Type 0 where
  pub fixed : FixedHolds k n.fixed
  pub live : LiveHolds k n.live
  pub now : n.now < 2 ^ 64
  pub calls : n.calls ≤ MAX_CALLS
  pub links : All (LinkHolds n.calls) n.links
  pub signer : SignerHolds n.signer
  pub parts : PartsHold k (numbers_after n.calls) (ids_after n.calls n.signer.index) n.signer.index n.parts

-- the sizes of a node are read off what it keeps
abbrev pub sizes_of : (Kept → Type 0) → NodeState → Sizes
sizes_of keeps n = record {
  me = n.fixed.me;
  format = n.fixed.topology.format;
  nodes = nodes_of n.fixed.topology;
  edges = n.fixed.topology.edges;
  signature_len = n.fixed.signature_len;
  buffer = n.parts.rel.bound;
  store = n.parts.prio.inbox.capacity;
  keeps = keeps;
}

-- all this, and each message that is kept passes this test
abbrev pub KeepsOnly : (Kept → Bool) → NodeState → Type 0
KeepsOnly keeps n = NodeHolds (sizes_of (λ o. IsTrue (keeps o)) n) n

-- all this, and each message that is kept bears its signer's valid signature. The bounds are those that the node has now: that they stay, with
-- who it is and what it has rows for, isn't said here but by a law of its steps, and what these were at its start by another
abbrev pub IsKept : Arts → NodeState → Type 0
IsKept arts n = KeepsOnly (is_signed arts n.fixed) n
