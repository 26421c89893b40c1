-- The frame that a node makes for a neighbour, as the neighbour reads it.
use Rattle.std.specs.Prelude.{ℕ, ◌≡◌, ◌≤◌, true, List, Ok}
use Rattle.sp_base.specs.declared.id.NodeId.{NodeId}
use Rattle.sp_node_format.specs.Format.{format_of}
use Rattle.sp_frame.specs.Frames.{head_of, opened_in, sections_part}
use Rattle.sp_frame.specs.Sections.{Contents, sections_of_in}
use Rattle.sp_frame.specs.declared.head.Head.{Head}
use Rattle.sp_rules.specs.Arts.{is_right}
use Rattle.sp_rules.specs.Node.{NodeState, is_neighbour, link_in}
use Rattle.sp_rules.specs.Polls.{contents_at, frame_to, head_to}
use Rattle.sp_hss.specs.KeyTree.{signature_len}
use Rattle.sp_sign.specs.Heights.{param_of}
use Rattle.sp_topology.specs.declared.topology.LmsHeight.{LmsHeight}
use Rattle.laws_node.specs.Nodes.{IsKept}

-- bytes are a frame of a format with this head and these sections, where signatures have this length
pub record Reads (format : ℕ) (bytes : List ℕ) (len : ℕ) (h : Head) (s : Contents) : Type 0 where
  pub opens : opened_in format bytes ≡ Ok bytes
  pub head : head_of bytes ≡ h
  pub sections : sections_of_in format len (sections_part bytes) ≡ Ok s

-- the longest signatures: those of trees of height 10
abbrev pub most_signature : ℕ
most_signature = 5076

-- the law that no signature is longer than a frame allows for
abbrev pub SignaturesAreShort : Type 0
SignaturesAreShort = (height : LmsHeight) → signature_len (param_of height) ≤ most_signature

-- whatever a node keeps, and whatever it says to a neighbour: what is in turn, a document, or nothing
abbrev pub PolledIsReadBack : Type 0
PolledIsReadBack = (n : NodeState) (v : NodeId) → IsKept (format_of n.fixed) n → n.fixed.signature_len ≤ most_signature → is_neighbour n v ≡ true
    → let bytes = frame_to (format_of n.fixed) n v in
    Reads n.fixed.topology.format bytes n.fixed.signature_len (head_to n v) (contents_at n v)
    × (is_right (format_of n.fixed) (link_in n v).key bytes ≡ true)
