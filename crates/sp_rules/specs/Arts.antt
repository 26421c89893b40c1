-- The arts that a node's rules stand on: what bytes say, and who may have made them. Rules speak of them by these functions alone, so no law
-- of a node looks into the grammar of frames, into tags or into signatures.
use Rattle.std.specs.Prelude.{ℕ, Bool, List, Option, Result, nat_eq}
use Rattle.std.specs.Cmp.Lexicographic.{pointwise}
use Rattle.sp_frame.specs.Frames.{tagged_part, tag_part}
use Rattle.sp_frame.specs.Sections.{Contents}
use Rattle.sp_frame.specs.declared.head.Head.{Head}
use Rattle.sp_frame.specs.declared.refused.FrameRefused.{FrameRefused}
use Rattle.sp_frame.specs.declared.refused.SectionRefused.{SectionRefused}
use Rattle.sp_msg.specs.declared.body.Body.{Body}
use Rattle.sp_msg.specs.declared.refused.MsgRefused.{MsgRefused}
use Rattle.sp_topology.specs.declared.topology.LmsHeight.{LmsHeight}
use Rattle.sp_topology.specs.declared.topology.Topology.{Topology}

-- what bytes say as a document: a topology, and the signature of the bytes before it
pub record Document : Type 0 where
  pub topology : Topology
  pub message : List ℕ
  pub signature : List ℕ

-- what a node's rules take from formats and signatures, without saying how they are made
pub record Arts : Type 0 where
  -- a datagram as a frame, or the first test of its bytes that fails
  pub opened : List ℕ → Result (List ℕ) FrameRefused
  -- the head of a frame
  pub head : List ℕ → Head
  -- the sections of a frame where signatures have this length, or the first thing that is wrong with them
  pub sections : ℕ → List ℕ → Result Contents SectionRefused
  -- the bytes of a frame before its tag
  pub frame : Head → Contents → List ℕ
  -- whether the control part of a frame begins as that of a document does
  pub is_document : List ℕ → Bool
  -- what bytes say as a document. None where they are none
  pub read_document : List ℕ → Option Document
  -- the tag of bytes under a key
  pub tag : List ℕ → List ℕ → List ℕ
  -- whether a message is one that this format has: each of its fields is in the range that the format gives it
  pub is_good : Body → Bool
  -- the bytes of a message
  pub spell : Body → List ℕ
  -- the message that bytes are, or the first thing that is wrong with them
  pub read : List ℕ → Result Body MsgRefused
  -- the signature of a message, by a seed with trees of this height, at an index
  pub sign : LmsHeight → List ℕ → ℕ → List ℕ → List ℕ
  -- whether under this key a message has this signature
  pub valid : List ℕ → List ℕ → List ℕ → Bool

-- whether the tag of a frame is that of all bytes before it
abbrev pub is_right : Arts → List ℕ → List ℕ → Bool
is_right arts key bytes = pointwise nat_eq (tag_part bytes) (arts.tag key (tagged_part bytes))
