-- What a key state promises of the file beneath it, and when it is at its end.
use Rattle.std.specs.Prelude.{ℕ, ◌≡◌, ◌+◌, ◌-◌, ◌^◌, ◌⊎◌, ◌==◌, nat_le, true, false, List, [], Option, None, Some, Result, Ok, Err, IfSome, if◌then◌else◌}
use Rattle.sp_outside.specs.Causes.{Rose}
use Rattle.sp_outside.specs.Disk.{Disk, IsImage, bytes_of, still}
use Rattle.sp_outside.specs.Moments.{AllSince}
use Rattle.sp_keystate.specs.declared.numbers.Numbers.{Numbers}
use Rattle.sp_keystate.specs.declared.slot.Slot.{Slot}
use Rattle.sp_keystate.specs.declared.slot.Slot.TheVariants.{First}
use Rattle.sp_keystate.specs.declared.slot.InUse.{InUse}
use Rattle.sp_keystate.specs.declared.refused.KeyRefused.{KeyRefused}
use Rattle.sp_keystate.specs.declared.refused.KeyRefused.TheVariants.{KeeperFault, Unformatted, Formatted, Exhausted}
use Rattle.sp_keystate.specs.declared.key_state.KeyState.{KeyState}
use Rattle.sp_keystate.specs.Slots.{in_slot, in_use, other, place}
use Rattle.sp_keystate.specs.Changes.{MayLeave, changed}
use Rattle.sp_keystate.specs.Soundness.{IsSound, Keeps}

abbrev pub numbers_of : KeyState → Numbers
numbers_of state = record { serial = state.serial; bound = state.bound; boot = state.boot }

-- nothing is pending on the disk, and its bytes open as this state
pub record OpensAs (state : KeyState) (disk : Disk) : Type 0 where
  pub file : List ℕ
  pub still : disk ≡ still file
  pub opens : in_use file ≡ Some (in_slot state.slot (numbers_of state))

-- no call failed since the state was opened, and where the keeper tells its bytes, they open as this state
pub record StandsFor (told : Option Disk) (state : KeyState) : Type 0 where
  pub is_current : state.is_current ≡ true
  pub opens : IfSome told (OpensAs state)

-- nothing is pending on the disk, its bytes open as this state, and are sound
pub record SoundAs (state : KeyState) (disk : Disk) : Type 0 where
  pub file : List ℕ
  pub still : disk ≡ still file
  pub sound : IsSound state.slot (numbers_of state) file

-- the keeper tells its bytes, and they are a sound file that opens as this state
abbrev pub IsSoundAt : Option Disk → KeyState → Type 0
IsSoundAt None state = ⊥
IsSoundAt (Some disk) state = SoundAs state disk

-- Of a sound file no moment of a call leaves a lower bound or a lower boot: each image opens with numbers that are no lower, and is
-- sound again
abbrev pub KeepsMeanwhile : Option Disk → Option (List Disk) → Option (List Disk) → KeyState → Type 0
KeepsMeanwhile told past now state =
    (file : List ℕ) → told ≡ Some (still file) → IsSound state.slot (numbers_of state) file → AllSince past now (Keeps state.bound state.boot)

-- the numbers that the next change writes
abbrev pub next_numbers : KeyState → (bound boot : ℕ) → Numbers
next_numbers state bound boot = record { serial = state.serial + 1; bound = bound; boot = boot }

-- the state after that change, which went to the other slot
abbrev pub changed_state : KeyState → (bound boot : ℕ) → KeyState
changed_state state bound boot = record state { serial = state.serial + 1; bound = bound; boot = boot; slot = other state.slot }

-- the state after a fault: it has to be opened again before use
abbrev pub outdated : KeyState → KeyState
outdated state = record state { is_current = false }

-- ---- what a call found in the file

-- all that was written is on the disk, and the file stands for this, or for nothing
abbrev pub Finds : Option Disk → Option Disk → Option InUse → Type 0
Finds None new found = new ≡ None
Finds (Some disk) new found = (new ≡ Some (still (bytes_of disk))) × (found ≡ in_use (bytes_of disk))

-- what a formatted file stands for
abbrev pub first_numbers : Numbers
first_numbers = record { serial = 1; bound = 0; boot = 0 }

-- no slot of the file was open, and the first slot has the first numbers
abbrev pub Formats : Option Disk → Option Disk → Type 0
Formats None new = new ≡ None
Formats (Some disk) new = (in_use (bytes_of disk) ≡ None) × (new ≡ Some (still (changed (bytes_of disk) (place First) first_numbers)))

-- meanwhile a crash leaves what it could leave before, or what that change may leave
abbrev pub FormatMoments : Option Disk → Option (List Disk) → Option (List Disk) → Type 0
FormatMoments None past now = Unit {0}
FormatMoments (Some disk) past now = AllSince past now (λ image. IsImage disk image ⊎ MayLeave (bytes_of disk) (place First) first_numbers image)

-- an empty file becomes a sound one
abbrev pub FormatsSafely : Option Disk → Option Disk → KeyState → Type 0
FormatsSafely None new state = Unit {0}
FormatsSafely (Some disk) new state = bytes_of disk ≡ [] → IfSome new (SoundAs state)

-- a sound file is sound for the state that it opens as
abbrev pub OpensSafely : Option Disk → Option Disk → KeyState → Type 0
OpensSafely None new state = Unit {0}
OpensSafely (Some disk) new state = (slot : Slot) (numbers : Numbers) → IsSound slot numbers (bytes_of disk) → IfSome new (SoundAs state)

-- ---- the ends of the numbers

-- the serial, where it is the last
abbrev pub serial_end : KeyState → Option ℕ
serial_end state = if state.serial == 2 ^ 64 - 1 then Some state.serial else None

-- why no more can be reserved of this total, if so: all of it is reserved, or the serial is the last
abbrev pub reserve_end : KeyState → ℕ → Option ℕ
reserve_end state total = if nat_le total state.bound then Some state.bound else serial_end state

-- why there is no next boot, if so
abbrev pub boot_end : KeyState → Option ℕ
boot_end state = if nat_le (2 ^ 63 - 1) state.boot then Some state.boot else serial_end state

-- ---- answers

-- the count of faults rose where the answer is a fault, and else it stands
abbrev pub HasFaultCause : {T : Type 0} → ℕ → ℕ → Result T KeyRefused → Type 0
HasFaultCause before now (Ok x) = now ≡ before
HasFaultCause before now (Err KeeperFault) = Rose before now
HasFaultCause before now (Err Unformatted) = now ≡ before
HasFaultCause before now (Err Formatted) = now ≡ before
HasFaultCause before now (Err (Exhausted number)) = now ≡ before

-- The answer of a call that changes the numbers, unless their end is this one
abbrev pub IsChangeAnswer : {T : Type 0} → Option ℕ → Result T KeyRefused → Type 0
IsChangeAnswer end (Ok x) = end ≡ None
IsChangeAnswer end (Err KeeperFault) = end ≡ None
IsChangeAnswer end (Err Unformatted) = ⊥
IsChangeAnswer end (Err Formatted) = ⊥
IsChangeAnswer end (Err (Exhausted number)) = end ≡ Some number

-- the state after such a call
abbrev pub IsChangedState : {T : Type 0} → (old next new : KeyState) → Result T KeyRefused → Type 0
IsChangedState old next new (Ok x) = new ≡ next
IsChangedState old next new (Err KeeperFault) = new ≡ outdated old
IsChangedState old next new (Err Unformatted) = ⊥
IsChangedState old next new (Err Formatted) = ⊥
IsChangedState old next new (Err (Exhausted number)) = new ≡ old

-- a call that opens a file is refused as unformatted or by a fault alone
abbrev pub IsOpenAnswer : {T : Type 0} → Result T KeyRefused → Type 0
IsOpenAnswer (Ok x) = Unit {0}
IsOpenAnswer (Err KeeperFault) = Unit {0}
IsOpenAnswer (Err Unformatted) = Unit {0}
IsOpenAnswer (Err Formatted) = ⊥
IsOpenAnswer (Err (Exhausted number)) = ⊥

-- and one that formats it, as formatted or by a fault
abbrev pub IsFormatAnswer : {T : Type 0} → Result T KeyRefused → Type 0
IsFormatAnswer (Ok x) = Unit {0}
IsFormatAnswer (Err KeeperFault) = Unit {0}
IsFormatAnswer (Err Unformatted) = ⊥
IsFormatAnswer (Err Formatted) = Unit {0}
IsFormatAnswer (Err (Exhausted number)) = ⊥
