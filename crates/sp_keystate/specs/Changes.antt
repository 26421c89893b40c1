-- A change of the slot that isn't in use, in three pieces, each one write and one sync: its gate is closed, the numbers are written
-- behind it, its gate is opened. What a crash may leave meanwhile.
use Rattle.std.specs.Prelude.{ℕ, ◌≡◌, ◌+◌, List, [], ◌∷◌, Option, None, Some}
use Rattle.sp_outside.specs.Disk.{Disk, IsImage, after_write, bytes_of, patched, still}
use Rattle.sp_outside.specs.Moments.{AllSince}
use Rattle.sp_keystate.specs.declared.numbers.Numbers.{Numbers}
use Rattle.sp_keystate.specs.Slots.{bytes_in}

-- the file after each piece, at the slot that begins here
abbrev pub closed : List ℕ → ℕ → List ℕ
closed file at = patched file at (0 ∷ [])

-- the file once the numbers are written behind a closed gate
abbrev pub numbered : List ℕ → ℕ → Numbers → List ℕ
numbered file at next = patched (closed file at) (at + 1) (bytes_in next)

-- the file once the gate is open again
abbrev pub changed : List ℕ → ℕ → Numbers → List ℕ
changed file at next = patched (numbered file at next) at (0xa5 ∷ [])

-- an image of a file that is on the disk but for these bytes, which are written from here on and not yet synced
abbrev pub IsTorn : List ℕ → ℕ → List ℕ → List ℕ → Type 0
IsTorn file at bytes image = IsImage (after_write (still file) at bytes) image

-- what a crash during a change may leave: the file torn at one of the three pieces
pub data MayLeave (file : List ℕ) (at : ℕ) (next : Numbers) (image : List ℕ) : Type 0 where
  Closing : IsTorn file at (0 ∷ []) image → MayLeave file at next image
  Numbering : IsTorn (closed file at) (at + 1) (bytes_in next) image → MayLeave file at next image
  Opening : IsTorn (numbered file at next) at (0xa5 ∷ []) image → MayLeave file at next image

-- ---- what a keeper tells of one piece, and of a change

-- the patched file is on the disk
abbrev pub Puts : Option Disk → Option Disk → ℕ → List ℕ → Type 0
Puts None new at bytes = new ≡ None
Puts (Some disk) new at bytes = new ≡ Some (still (patched (bytes_of disk) at bytes))

-- and each moment meanwhile leaves a file that was on the disk torn there at most
abbrev pub PutMoments : Option Disk → Option (List Disk) → Option (List Disk) → ℕ → List ℕ → Type 0
PutMoments old past now at bytes = (file : List ℕ) → old ≡ Some (still file) → AllSince past now (IsTorn file at bytes)

-- the changed file is on the disk
abbrev pub Changes : Option Disk → Option Disk → ℕ → Numbers → Type 0
Changes None new at next = new ≡ None
Changes (Some disk) new at next = new ≡ Some (still (changed (bytes_of disk) at next))

-- and each moment meanwhile leaves what a change of a file that was on the disk may leave
abbrev pub ChangeMoments : Option Disk → Option (List Disk) → Option (List Disk) → ℕ → Numbers → Type 0
ChangeMoments old past now at next = (file : List ℕ) → old ≡ Some (still file) → AllSince past now (MayLeave file at next)
