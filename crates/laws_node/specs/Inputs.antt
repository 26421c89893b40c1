-- What is asked of the arts and of what comes to a node, so that what it keeps holds.
use Rattle.std.specs.Prelude.{ℕ, ◌≡◌, ◌<◌, ◌≤◌, ◌^◌, IfSome, IsTrue, List, Ok, Some, length}
use Rattle.std.specs.List.{All}
use Rattle.sp_base.specs.Spelling.{AreBytes}
use Rattle.sp_base.specs.declared.limits.TheConstants.{MAX_PAYLOAD_BYTES, MAX_PRIORITY, MAX_WEIGHT}
use Rattle.sp_frame.specs.Ranges.{IsContentsIn, IsHead}
use Rattle.sp_frame.specs.Sections.{Contents}
use Rattle.sp_msg.specs.Bodies.{HasGoodFieldsIn}
use Rattle.sp_msg.specs.declared.body.Body.{Body}
use Rattle.sp_rules.specs.Arts.{Arts, Document}
use Rattle.sp_rules.specs.Node.{Signer}
use Rattle.sp_rules.specs.Parts.{Fixed}
use Rattle.sp_rules.specs.Sends.{PrioSend}
use Rattle.sp_rules.specs.Steps.{Input, Poll, Datagram, Tick, SendRel, SendPrio, SetWeight, TakeRel, TakePrio, SendKrel, TakeKrel, Publish}
use Rattle.sp_rules.specs.Topologies.{IsRunnable, weights_in}
use Rattle.sp_topology.specs.Keys.{key_of}
use Rattle.sp_topology.specs.declared.topology.Topology.{Topology}
use Rattle.laws_node.specs.About.{IsAbout}
use Rattle.laws_node.specs.Nodes.{FitsAFrame, SignerHolds}
use Rattle.laws_node.specs.Sizes.{IsNode}

-- the version and the weights of a document have room in their fields
pub record IsVersion (t : Topology) : Type 0 where
  pub version : t.version < 2 ^ 32
  pub weights : All (λ weight. weight ≤ MAX_WEIGHT) (weights_in t.edges)

-- the arts fit a node and its signer: signatures are of one length, and the own ones are valid; what is read of bytes is in its ranges, and a document that
-- a frame brought has room in a frame; and what is about the node's topology is good
pub record ArtsFit (arts : Arts) (f : Fixed) (s : Signer) : Type 0 where
  pub long : (index : ℕ) (message : List ℕ) → length (arts.sign f.topology.height s.seed index message) ≡ f.signature_len
  pub key : List ℕ
  pub is_mine : key_of f.me.0 f.topology.nodes ≡ Some key
  pub valid : (index : ℕ) (message : List ℕ) → index < s.total → IsTrue (arts.valid key message (arts.sign f.topology.height s.seed index message))
  pub heads : (bytes : List ℕ) → AreBytes bytes → IsHead (arts.head bytes)
  pub sections : (bytes : List ℕ) (s : Contents) → AreBytes bytes → arts.sections f.signature_len bytes ≡ Ok s
      → IsContentsIn f.topology.format f.signature_len s
  pub own : (body : Body) → HasGoodFieldsIn f.topology.format body → IsAbout f.topology body → IsTrue (arts.is_good body)
  pub documents : (bytes : List ℕ) (d : Document) → AreBytes bytes → arts.read_document bytes ≡ Some d → IsVersion d.topology
  pub carried : (bytes frame : List ℕ) (s : Contents) → AreBytes bytes → arts.opened bytes ≡ Ok frame → arts.sections f.signature_len bytes ≡ Ok s
      → IfSome s.document FitsAFrame

-- each good message is read back from its bytes, so no other good one has them
abbrev pub ReadsBack : Arts → Type 0
ReadsBack arts = (body : Body) → IsTrue (arts.is_good body) → arts.read (arts.spell body) ≡ Ok body

-- what a client may ask of a priority message
abbrev pub PrioSendFits : PrioSend → Type 0
PrioSendFits m = (1 ≤ m.prio) × (m.prio ≤ MAX_PRIORITY) × (m.expiry < 2 ^ 64) × (length m.payload ≤ MAX_PAYLOAD_BYTES)

-- what comes is in its ranges
abbrev pub InputFits : Input → Type 0
InputFits (Poll to) = Unit {0}
InputFits (Datagram from bytes) = AreBytes bytes
InputFits (Tick now) = now < 2 ^ 64
InputFits (SendRel dst payload) = length payload ≤ MAX_PAYLOAD_BYTES
InputFits (SendPrio message) = PrioSendFits message
InputFits (SetWeight peer weight) = (1 ≤ weight) × (weight ≤ MAX_WEIGHT)
InputFits (TakeRel src) = Unit {0}
InputFits TakePrio = Unit {0}
InputFits (SendKrel message) = length message.payload ≤ MAX_PAYLOAD_BYTES
InputFits (TakeKrel src) = Unit {0}
InputFits (Publish document) = FitsAFrame document

-- what a life begins with is in its ranges
pub record Boots (f : Fixed) (s : Signer) : Type 0 where
  pub me : IsNode f.topology.format f.me
  pub boot : f.boot < 2 ^ 64
  pub topology : IsRunnable f.topology
  pub short : f.signature_len < 65536
  pub document : FitsAFrame f.document
  pub signer : SignerHolds s
