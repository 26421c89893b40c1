-- What a start takes from a key file before it signs.
use Rattle.std.specs.Prelude.{ℕ, ◌≡◌, ◌+◌, ◌-◌, ◌^◌, ◌<◌, ◌≤◌, ◌⊎◌, min, List, Option, None, Some, Result, Ok, Err, IfSome}
use Rattle.sp_outside.specs.Disk.{Disk, bytes_of, still}
use Rattle.sp_outside.specs.Moments.{AllSince}
use Rattle.sp_keystate.specs.declared.numbers.Numbers.{Numbers}
use Rattle.sp_keystate.specs.declared.slot.Slot.{Slot}
use Rattle.sp_keystate.specs.declared.slot.InUse.{InUse}
use Rattle.sp_keystate.specs.declared.starts.Started.{Started}
use Rattle.sp_keystate.specs.declared.refused.KeyRefused.{KeyRefused}
use Rattle.sp_keystate.specs.declared.refused.KeyRefused.TheVariants.{KeeperFault, Unformatted, Formatted, Exhausted}
use Rattle.sp_keystate.specs.Slots.{in_use, other, place}
use Rattle.sp_keystate.specs.Changes.{changed}
use Rattle.sp_keystate.specs.Soundness.{IsSound, Keeps}
use Rattle.sp_keystate.specs.States.{IsSoundAt, numbers_of}

-- the numbers that take the next boot
abbrev pub booted : Numbers → Numbers
booted numbers = record { serial = numbers.serial + 1; bound = numbers.bound; boot = numbers.boot + 1 }

-- The file stood for these numbers: the first index is their bound, and the boot is the next. It was changed twice: the boot was taken in the slot that
-- wasn't in use, and then the indexes in the one that was
pub record BeginsAt (after : Option Disk) (started : Started) (disk : Disk) : Type 0 where
  pub found : InUse
  pub stood : in_use (bytes_of disk) ≡ Some found
  pub first : started.first ≡ found.numbers.bound
  pub boot : started.state.boot ≡ found.numbers.boot + 1
  pub serial : started.state.serial ≡ found.numbers.serial + 2
  pub slot : started.state.slot ≡ found.slot
  pub changes : after ≡ Some (still (changed (changed (bytes_of disk) (place (other found.slot)) (booted found.numbers)) (place found.slot)
      (numbers_of started.state)))

-- what a start leaves in the key file: indexes that are reserved from its first on, and its number
pub record Starts (told after : Option Disk) (n total : ℕ) (started : Started) : Type 0 where
  pub begins : IfSome told (BeginsAt after started)
  -- some indexes are reserved, so many at most, and none from the total on
  pub some : started.first < total
  pub bound : started.state.bound ≡ min (started.first + n) total
  -- it isn't start 0, and no start has a number of 64 bits
  pub boot : (1 ≤ started.state.boot) × (started.state.boot < 2 ^ 63)
  -- the serial is a number of 64 bits
  pub serial : started.state.serial < 2 ^ 64

-- the numbers of a file have no start left: no boot, no index of this total, or no serial for two changes
abbrev pub AreSpent : ℕ → Numbers → Type 0
AreSpent total found = (2 ^ 63 - 1 ≤ found.boot) ⊎ ((total ≤ found.bound) ⊎ (2 ^ 64 - 2 ≤ found.serial))

-- the key file stands, and all of its indexes are used up
pub record IsSpent (total : ℕ) (disk : Disk) : Type 0 where
  pub found : InUse
  pub stood : in_use (bytes_of disk) ≡ Some found
  pub spent : AreSpent total found.numbers

-- why a key file gave no start
abbrev pub NoStart : Option Disk → ℕ → KeyRefused → Type 0
NoStart told total KeeperFault = Unit {0}
NoStart told total Unformatted = IfSome told (λ disk. in_use (bytes_of disk) ≡ None)
NoStart told total Formatted = ⊥
NoStart told total (Exhausted number) = IfSome told (IsSpent total)

-- a sound file is sound after the start
abbrev pub StartsSafely : Option Disk → Option Disk → Started → Type 0
StartsSafely None new started = Unit {0}
StartsSafely (Some disk) new started = (slot : Slot) (numbers : Numbers) → IsSound slot numbers (bytes_of disk) → IsSoundAt new started.state

-- and no moment meanwhile leaves a lower bound or a lower boot
abbrev pub KeepsAll : Option Disk → Option (List Disk) → Option (List Disk) → Type 0
KeepsAll told past now =
    (file : List ℕ) (slot : Slot) (numbers : Numbers) → told ≡ Some (still file) → IsSound slot numbers file
    → AllSince past now (Keeps numbers.bound numbers.boot)

-- a start is never refused as formatted
abbrev pub IsStartAnswer : {T : Type 0} → Result T KeyRefused → Type 0
IsStartAnswer (Ok x) = Unit {0}
IsStartAnswer (Err KeeperFault) = Unit {0}
IsStartAnswer (Err Unformatted) = Unit {0}
IsStartAnswer (Err Formatted) = ⊥
IsStartAnswer (Err (Exhausted number)) = Unit {0}
