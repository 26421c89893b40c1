-- The priority section of a frame: up to which of its link numbers the neighbour was heard, and messages with link numbers of their own.
--
--     acknowledged link number 8 | count 1 | messages, each: link number 8, object
use Rattle.std.specs.Prelude.{ℕ, List, ◌++◌, Result}
use Rattle.byteorder.specs.Endian.{big_bytes}
use Rattle.sp_msg.specs.declared.kept.Kept.{Kept}
use Rattle.sp_frame.specs.Grammar.{◌⊗◌, counted, counted_bytes, number}
use Rattle.sp_frame.specs.Objects.{most, object, object_bytes}
use Rattle.sp_frame.specs.declared.kind.Kind.TheVariants as kinds
use Rattle.sp_frame.specs.declared.refused.SectionRefused.{SectionRefused}

-- a link number and the message under it
unfoldable pub numbered : ℕ → ℕ → List ℕ → Result ((ℕ × Kept) × List ℕ) SectionRefused
numbered format len bytes = (number 8 ⊗ object format kinds.Prio len) bytes

-- a priority message with its link number before it
unfoldable pub numbered_bytes : ℕ → ℕ × Kept → List ℕ
numbered_bytes format message = big_bytes 8 message.0 ++ object_bytes format message.1

-- the priority messages at the front of these bytes, as many as the format has at most, and what follows them
unfoldable pub prios : ℕ → ℕ → List ℕ → Result (List (ℕ × Kept) × List ℕ) SectionRefused
prios format len bytes = counted (numbered format len) (most format kinds.Prio) bytes

-- the bytes of priority messages
unfoldable pub prios_bytes : ℕ → List (ℕ × Kept) → List ℕ
prios_bytes format messages = counted_bytes (numbered_bytes format) messages
