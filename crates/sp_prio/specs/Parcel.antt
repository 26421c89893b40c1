-- A message on its way into a node: the message, the neighbour that it came from, none for an own one, and how many copies there are.
use Rattle.std.specs.Prelude.{ℕ, zero, suc, ◌≡◌, ◌<◌, List, Option, replicate}
use Rattle.sp_base.specs.declared.id.NodeId.{NodeId}
use Rattle.sp_msg.specs.declared.kept.Kept.{Kept}

pub record Parcel : Type 0 where
  pub kept : Kept
  pub came : Option NodeId
  pub copies : ℕ

-- ---- the copies beside a message

-- how many stand beside a message that goes into so many places: of several, it is the copy of the last one itself
abbrev pub beside_count : ℕ → ℕ
beside_count zero = zero
beside_count (suc zero) = 1
beside_count (suc (suc n)) = suc n

-- the copies of a message that stand beside it, with room for one more
pub record AreBeside (kept : Kept) (copies : ℕ) (beside : List Kept) (room : ℕ) : Type 0 where
  pub alike : beside ≡ replicate (beside_count copies) kept
  pub roomy : beside_count copies < room
