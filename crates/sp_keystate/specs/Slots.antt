-- The key file: two slots, each with a gate and the numbers behind it. Which numbers a file stands for.
--
--    file       at 0 the first slot | at 64 the second slot
--    slot       1 gate | 8 serial | 8 bound | 8 boot          each number has its high byte first
--
-- A slot is open where all of it is there and its gate is a5. The file stands for the numbers of the open slot of the greatest serial,
-- the first where both are equal.
use Rattle.std.specs.Prelude.{ℕ, ◌+◌, ◌^◌, ◌<◌, ◌==◌, ◌&&◌, nat_lt, Bool, false, List, ◌++◌, length, take, drop, slice_get, Option, None, Some, if◌then◌else◌}
use Rattle.byteorder.specs.Endian.{big_number, big_bytes}
use Rattle.sp_keystate.specs.declared.numbers.Numbers.{Numbers}
use Rattle.sp_keystate.specs.declared.slot.Slot.{Slot}
use Rattle.sp_keystate.specs.declared.slot.Slot.TheVariants.{First, Second}
use Rattle.sp_keystate.specs.declared.slot.InUse.{InUse}

-- each number has its 8 bytes
pub record IsInRange (numbers : Numbers) : Type 0 where
  pub serial : numbers.serial < 2 ^ 64
  pub bound : numbers.bound < 2 ^ 64
  pub boot : numbers.boot < 2 ^ 64

-- where a slot begins
abbrev pub place : Slot → ℕ
place First = 0
place Second = 64

-- the slot that isn't this one
abbrev pub other : Slot → Slot
other First = Second
other Second = First

-- the 24 bytes of numbers
unfoldable pub bytes_in : Numbers → List ℕ
bytes_in numbers = (big_bytes 8 numbers.serial ++ big_bytes 8 numbers.bound) ++ big_bytes 8 numbers.boot

-- the numbers in a slot's bytes behind its gate
unfoldable pub numbers_in : List ℕ → Numbers
numbers_in bytes = record { serial = big_number 8 bytes; bound = big_number 8 (drop 8 bytes); boot = big_number 8 (drop 16 bytes) }

-- the bytes behind the gate of the slot that begins here: 24, or as many as there are
abbrev pub behind : List ℕ → ℕ → List ℕ
behind file at = take 24 (drop (at + 1) file)

-- whether a byte is an open gate
abbrev pub is_gate : Option ℕ → Bool
is_gate None = false
is_gate (Some b) = b == 0xa5

-- the slot that begins here is open
abbrev pub is_open : List ℕ → ℕ → Bool
is_open file at = is_gate (slice_get file at) && (length (behind file at) == 24)

-- the numbers of the slot that begins here, if it is open
abbrev pub opened_at : List ℕ → ℕ → Option Numbers
opened_at file at = if is_open file at then Some (numbers_in (behind file at)) else None

-- a slot with its numbers
abbrev pub in_slot : Slot → Numbers → InUse
in_slot slot numbers = record { slot = slot; numbers = numbers }

-- by what the first slot and the second have
abbrev pub latest : Option Numbers → Option Numbers → Option InUse
latest None None = None
latest (Some a) None = Some (in_slot First a)
latest None (Some b) = Some (in_slot Second b)
latest (Some a) (Some b) = if nat_lt a.serial b.serial then Some (in_slot Second b) else Some (in_slot First a)

-- the numbers that a file stands for, and their slot
abbrev pub in_use : List ℕ → Option InUse
in_use file = latest (opened_at file 0) (opened_at file 64)
