-- What laws of runs ask of arts beside that they fit the nodes: what is written is read back, and is bytes; what is read is good; and of those that
-- count, that it comes through.
use Rattle.std.specs.Prelude.{ℕ, ◌≡◌, true, IsTrue, List, ◌++◌, None, Ok}
use Rattle.std.specs.List.{All}
use Rattle.sp_base.specs.Spelling.{AreBytes}
use Rattle.sp_frame.specs.Ranges.{IsContentsIn, IsHead}
use Rattle.sp_frame.specs.Sections.{Contents, with_document}
use Rattle.sp_frame.specs.declared.head.Head.{Head}
use Rattle.sp_msg.specs.Bodies.{payload_of}
use Rattle.sp_msg.specs.declared.kept.Kept.{Kept}
use Rattle.sp_rules.specs.Arts.{Arts, is_right}
use Rattle.sp_rules.specs.Pieces.{pieces_of}
use Rattle.sp_topology.specs.declared.topology.LmsHeight.{LmsHeight}
use Rattle.laws_node.specs.Inputs.{ReadsBack}
use Rattle.laws_node.specs.Nodes.{FitsAFrame}
use Rattle.laws_node.specs.Objects.{objects_in}

-- the payload and the signature of a message are bytes
abbrev pub IsOfBytes : Kept → Type 0
IsOfBytes o = AreBytes (payload_of o.body) × AreBytes o.signature

-- those of all objects of a frame
abbrev pub AreOfBytes : Contents → Type 0
AreOfBytes s = All IsOfBytes (objects_in (pieces_of s))

-- each message among them is good
abbrev pub HasGoodMessages : Arts → Contents → Type 0
HasGoodMessages arts s = All (λ o. IsTrue (arts.is_good o.body)) (objects_in (pieces_of s))

-- a head and sections as a frame under its tag
abbrev pub written : Arts → Head → Contents → (key : List ℕ) → List ℕ
written arts h s key = arts.frame h s ++ arts.tag key (arts.frame h s)

-- no part that no node writes beside others: no document, no probe
pub record IsPlain (s : Contents) : Type 0 where
  pub document : s.document ≡ None
  pub probe : s.probe ≡ None

-- frames and messages of one format
pub record Carries (format : ℕ) (arts : Arts) : Type 0 where
  -- a message alone
  pub bodies : ReadsBack arts
  -- under any head of the format, and any tag
  pub back : (len : ℕ) (h : Head) (s : Contents) (key : List ℕ) → h.format ≡ format → IsContentsIn format len s → HasGoodMessages arts s
      → arts.sections len (written arts h s key) ≡ Ok s
  pub frames : (h : Head) (s : Contents) → IsPlain s → AreOfBytes s → AreBytes (arts.frame h s)
  pub document_frames : (h : Head) (document : List ℕ) → AreBytes document → AreBytes (arts.frame h (with_document document))
  pub tags : (key bytes : List ℕ) → AreBytes (arts.tag key bytes)
  pub signatures : (height : LmsHeight) (seed : List ℕ) (index : ℕ) (message : List ℕ) → AreBytes (arts.sign height seed index message)
  pub reads : (len : ℕ) (bytes : List ℕ) (s : Contents) → AreBytes bytes → arts.sections len bytes ≡ Ok s → AreOfBytes s
  pub goods : (len : ℕ) (bytes : List ℕ) (s : Contents) → AreBytes bytes → arts.sections len bytes ≡ Ok s → HasGoodMessages arts s

-- and where signatures have this length, a frame that is written passes each test of its bytes at the other end of its edge
pub record ComesThrough (format : ℕ) (arts : Arts) (len : ℕ) : Type 0 where
  pub carries : Carries format arts
  -- its length, its name and its version are right
  pub opens : (h : Head) (s : Contents) (key : List ℕ) → IsHead h → h.format ≡ format → IsPlain s → IsContentsIn format len s → HasGoodMessages arts s
      → arts.opened (written arts h s key) ≡ Ok (written arts h s key)
  -- so are those of a document that a frame has room for
  pub documents_open : (h : Head) (document key : List ℕ) → IsHead h → h.format ≡ format → IsContentsIn format len (with_document document)
      → FitsAFrame document → arts.opened (written arts h (with_document document) key) ≡ Ok (written arts h (with_document document) key)
  -- its head is read back, its tag is right under the key, and its sections are read back by `back`
  pub heads : (h : Head) (s : Contents) (key : List ℕ) → IsHead h → arts.head (written arts h s key) ≡ h
  pub tags_are_right : (h : Head) (s : Contents) (key : List ℕ) → is_right arts key (written arts h s key) ≡ true
