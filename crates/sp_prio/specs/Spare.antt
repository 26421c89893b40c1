-- The copies beside a message that isn't signed yet, and what shows that they become those of the signed one.
use Rattle.std.specs.Prelude.{ℕ, ◌≡◌, ◌≤◌, ◌<◌, All, List, length}
use Rattle.sp_msg.specs.declared.body.Body.{Body}
use Rattle.sp_msg.specs.declared.kept.Kept.{Kept}
use Rattle.sp_prio.specs.Parcel.{beside_count}

-- the body of a message, and for how many bytes of its signature there is room
pub record Unsigned : Type 0 where
  pub body : Body
  pub room : ℕ

-- into how many places the message goes, the copies beside it, and for how many signed ones there is room
pub record Spare : Type 0 where
  pub copies : ℕ
  pub unsigned : List Unsigned
  pub room : ℕ

-- it has the body of this message, and room for its signature
pub record Becomes (kept : Kept) (u : Unsigned) : Type 0 where
  pub body_is : u.body ≡ kept.body
  pub long : length kept.signature ≤ u.room

-- signed they are the copies that stand beside this message, and there is room for one more
pub record IsSpareOf (kept : Kept) (s : Spare) : Type 0 where
  pub each : All (Becomes kept) s.unsigned
  pub count : length s.unsigned ≡ beside_count s.copies
  pub roomy : beside_count s.copies < s.room

-- they are those of a message that differs in the bytes of its signature alone
pub record IsSpareFor (kept : Kept) (s : Spare) : Type 0 where
  pub like : Kept
  pub of_like : IsSpareOf like s
  pub body_is : like.body ≡ kept.body
  pub length_is : length like.signature ≡ length kept.signature
