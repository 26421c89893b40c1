-- What the parts of a frame may be where signatures are of one length, in each format.
use Rattle.std.specs.Prelude.{ℕ, ◌≡◌, ◌<◌, ◌≤◌, ◌^◌, ◌==◌, false, All, IfSome, List, length}
use Rattle.sp_base.specs.declared.format.TheConstants.{FORMAT_1}
use Rattle.sp_msg.specs.declared.kept.Kept.{Kept}
use Rattle.sp_frame.specs.Objects.{IsObject, most}
use Rattle.sp_frame.specs.Reliable.{Report, boot_bytes}
use Rattle.sp_frame.specs.Sections.{Contents, with_document}
use Rattle.sp_frame.specs.declared.head.Head.{Head}
use Rattle.sp_frame.specs.declared.kind.Kind.{Kind}
use Rattle.sp_frame.specs.declared.kind.Kind.TheVariants as kinds
use Rattle.sp_frame.specs.declared.probe.Probe.{Probe}

-- each number has room in its bytes
pub record IsHead (h : Head) : Type 0 where
  pub format : h.format < 256
  pub from : h.from.0 < 256
  pub to : h.to.0 < 256
  pub boot : h.boot < 2 ^ 64
  pub echo : h.echo < 2 ^ 64
  pub counter : h.counter < 2 ^ 64
  pub topology : h.topology < 2 ^ 32

-- a message under a link number
pub record IsNumbered (format len : ℕ) (message : ℕ × Kept) : Type 0 where
  pub number : message.0 < 2 ^ 64
  pub object : IsObject format kinds.Prio len message.1

-- the boots are 0 in format 1
pub record IsReport (format : ℕ) (acks messages : Kind) (len : ℕ) (r : Report) : Type 0 where
  pub src : r.flow.src.0 < 256
  pub dst : r.flow.dst.0 < 256
  pub sboot : r.sboot < 256 ^ boot_bytes format
  pub dboot : r.dboot < 256 ^ boot_bytes format
  pub base : r.base < 2 ^ 64
  pub have : r.have < 2 ^ 64
  pub ack : IfSome r.ack (IsObject format acks len)
  pub few : length r.rels ≤ most format messages
  pub rels : All (IsObject format messages len) r.rels

-- a probe and its echo with fields in their ranges
pub record IsProbe (p : Probe) : Type 0 where
  pub number : p.number < 2 ^ 64
  pub nonce : length p.nonce ≡ 8
  pub echo : p.echo < 2 ^ 64
  pub proof : length p.proof ≡ 32

-- a part that format 1 lacks
abbrev pub Later : ℕ → {X : Type 0} → (X → Type 0) → X → Type 0
Later format IsGood x = ((format == FORMAT_1) ≡ false) × IsGood x

-- a document with room in its length, and nothing beside it
pub record IsDocument (s : Contents) (document : List ℕ) : Type 0 where
  pub short : length document < 65536
  pub alone : s ≡ with_document document

-- sections whose fields are in the ranges of this format, where signatures have this length
pub record IsContentsIn (format len : ℕ) (s : Contents) : Type 0 where
  pub document : IfSome s.document (Later format (IsDocument s))
  pub few_weights : length s.weights ≤ most format kinds.Weight
  pub weights : All (IsObject format kinds.Weight len) s.weights
  pub prio_ack : s.prio_ack < 2 ^ 64
  pub few_prios : length s.prios ≤ most format kinds.Prio
  pub prios : All (IsNumbered format len) s.prios
  pub slot : IfSome s.slot (IsReport format kinds.Ack kinds.Rel len)
  pub paths : IfSome s.paths (Later format (IsReport format kinds.Kack kinds.Krel len))
  pub probe : IfSome s.probe (Later format IsProbe)
  pub epoch : IfSome s.epoch (Later format (IsObject format kinds.Epoch len))

-- ---- in format 1
abbrev pub IsContents : ℕ → Contents → Type 0
IsContents len s = IsContentsIn FORMAT_1 len s
