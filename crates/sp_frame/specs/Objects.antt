-- A signed message in a frame.
--
--     body length 2 | body | signature length 2 | signature
--
-- It is judged from the left: the body before anything after it, and the signature's length before the signature.
use Rattle.std.specs.Prelude.{ℕ, ◌≡◌, ◌<◌, ◌==◌, Bool, true, false, List, ◌++◌, length, Result, Ok, Err, if◌then◌else◌}
use Rattle.byteorder.specs.Endian.{big_bytes}
use Rattle.sp_base.specs.Refusals.{◌>>=◌}
use Rattle.sp_base.specs.Formats.{by_format}
use Rattle.sp_base.specs.declared.limits.TheConstants.{MAX_MESSAGES}
use Rattle.sp_msg.specs.Bodies.{HasGoodFieldsIn, encoded_in, read_body_in}
use Rattle.sp_msg.specs.declared.body.Body.{Body}
use Rattle.sp_msg.specs.declared.body.Body.TheVariants as bodies
use Rattle.sp_msg.specs.declared.kept.Kept.{Kept}
use Rattle.sp_msg.specs.declared.refused.MsgRefused.{MsgRefused}
use Rattle.sp_frame.specs.Grammar.{number, piece}
use Rattle.sp_frame.specs.declared.kind.Kind.{Kind}
use Rattle.sp_frame.specs.declared.kind.Kind.TheVariants as kinds
use Rattle.sp_frame.specs.declared.refused.SectionRefused.{SectionRefused}
use Rattle.sp_frame.specs.declared.refused.SectionRefused.TheVariants as refusals

-- how many objects of a kind a frame has at most, in each format
abbrev pub most : ℕ → Kind → ℕ
most format kinds.Weight = 1
most format kinds.Prio = MAX_MESSAGES
most format kinds.Ack = 1
most format kinds.Rel = by_format format MAX_MESSAGES 2
most format kinds.Kack = 1
most format kinds.Krel = 1
most format kinds.Epoch = 1

-- a message of this kind
abbrev pub is_of : Kind → Body → Bool
is_of kinds.Weight (bodies.Weight w) = true
is_of kinds.Prio (bodies.Prio p) = true
is_of kinds.Ack (bodies.Ack a) = true
is_of kinds.Rel (bodies.Rel r) = true
is_of kinds.Kack (bodies.Kack a) = true
is_of kinds.Krel (bodies.Krel r) = true
is_of kinds.Epoch (bodies.Epoch e) = true
is_of kind body = false

-- what was read, where it is a message of this kind
abbrev pub of_kind : Kind → Result Body MsgRefused → Result Body SectionRefused
of_kind kind (Ok body) = if is_of kind body then Ok body else Err refusals.Object
of_kind kind (Err refused) = Err refusals.Object

-- a length that must be this one
unfoldable pub length_of : ℕ → List ℕ → Result (ℕ × List ℕ) SectionRefused
length_of len bytes = number 2 bytes >>= λ n. if n.0 == len then Ok n else Err refusals.Object

-- a message of this kind, with a signature of this length
unfoldable pub object : ℕ → Kind → ℕ → List ℕ → Result (Kept × List ℕ) SectionRefused
object format kind len bytes = do
  size ← number 2 bytes
  spelling ← piece size.0 size.1
  body ← of_kind kind (read_body_in format spelling.0)
  long ← length_of len spelling.1
  signature ← piece len long.1
  Ok (record { body = body; signature = signature.0 }, signature.1)

-- a signed message: how long it is and its bytes, how long its signature is and that
unfoldable pub object_bytes : ℕ → Kept → List ℕ
object_bytes format o = big_bytes 2 (length (encoded_in format o.body)) ++ encoded_in format o.body ++ big_bytes 2 (length o.signature) ++ o.signature

-- an object that a frame can have where signatures are of this length
pub record IsObject (format : ℕ) (kind : Kind) (len : ℕ) (o : Kept) : Type 0 where
  pub fields : HasGoodFieldsIn format o.body
  pub is : is_of kind o.body ≡ true
  pub long : length o.signature ≡ len
  pub fits : len < 65536
