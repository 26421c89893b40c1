-- What a small file tells of a call: its bytes, and what a crash could leave at each moment of the call.
use Rattle.std.specs.List.{AllByRecursion}
use Rattle.std.specs.Prelude.{ℕ, ◌≡◌, List, ◌++◌, length, take, drop, Option, None, Some, Result, Ok, Err}
use Rattle.sp_outside.specs.Disk.{Disk, IsImage, after_sync, after_write, bytes_of, patched}

-- each image of the one is an image of the other
abbrev pub IsWithin : Disk → Disk → Type 0
IsWithin inner outer = (image : List ℕ) → IsImage inner image → IsImage outer image

-- a read gave the bytes from this place on, up to the end of the buffer or of the file
abbrev pub GivesBytes : {E : Type 0} → Option Disk → ℕ → Result ℕ E → List ℕ → Type 0
GivesBytes None at result buffer = Unit {0}
GivesBytes (Some disk) at (Ok count) buffer = take count buffer ≡ take (length buffer) (drop at (bytes_of disk))
GivesBytes (Some disk) at (Err e) buffer = Unit {0}

-- The bytes were written. A write that failed may have done any part of it. An object that tells nothing tells nothing from then on
abbrev pub Wrote : {E : Type 0} → Option Disk → Option Disk → ℕ → List ℕ → Result (Unit {0}) E → Type 0
Wrote None None at bytes result = Unit {0}
Wrote None (Some new) at bytes result = ⊥
Wrote (Some old) None at bytes result = ⊥
Wrote (Some old) (Some new) at bytes (Ok x) = (bytes_of new ≡ patched (bytes_of old) at bytes) × IsWithin new (after_write old at bytes)
Wrote (Some old) (Some new) at bytes (Err e) = IsWithin new (after_write old at bytes)

-- all that was written is on the disk. A sync that failed leaves no image that wasn't one before
abbrev pub Synced : {E : Type 0} → Option Disk → Option Disk → Result (Unit {0}) E → Type 0
Synced None None result = Unit {0}
Synced None (Some new) result = ⊥
Synced (Some old) None result = ⊥
Synced (Some old) (Some new) (Ok x) = new ≡ after_sync old
Synced (Some old) (Some new) (Err e) = IsWithin new old

-- whatever a crash could leave at each of the moments that were added has P
abbrev pub AllSince : Option (List Disk) → Option (List Disk) → (List ℕ → Type 0) → Type 0
AllSince None new P = Unit {0}
AllSince (Some old) None P = ⊥
AllSince (Some old) (Some new) P = (added : List Disk) × (new ≡ old ++ added) × AllByRecursion (λ disk. (image : List ℕ) → IsImage disk image → P image) added

-- the moments of a call in which the disk never leaves more than this one
abbrev pub LeavesWithin : Option Disk → Option (List Disk) → Option (List Disk) → Type 0
LeavesWithin None past now = Unit {0}
LeavesWithin (Some disk) past now = AllSince past now (IsImage disk)

-- the moments of a write
abbrev pub LeavesOfWrite : Option Disk → ℕ → List ℕ → Option (List Disk) → Option (List Disk) → Type 0
LeavesOfWrite None at bytes past now = Unit {0}
LeavesOfWrite (Some disk) at bytes past now = AllSince past now (IsImage (after_write disk at bytes))
