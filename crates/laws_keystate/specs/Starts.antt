-- One start of a daemon on a key file: what it does with the file and the signer, in order, and what it may leave when it is stopped.
--
-- It takes a boot, reserves indexes, extends the signer as far as they are reserved, and signs. All that is asked of it is what the calls
-- promise, and this order: reserved, then extended, then signed.
use Rattle.std.specs.Prelude.{ℕ, ◌≡◌, ◌+◌, ◌<◌, ◌≤◌, List, [], ◌∷◌, Some}
use Rattle.sp_lms.specs.declared.param.LmsParam.{LmsParam}
use Rattle.sp_hss.specs.Signer.{Signer}
use Rattle.sp_hss.specs.Uses.{Signing}
use Rattle.sp_keystate.specs.declared.numbers.Numbers.{Numbers}
use Rattle.sp_keystate.specs.declared.slot.Slot.{Slot}
use Rattle.sp_keystate.specs.Slots.{IsInRange, in_slot, in_use, other, place}
use Rattle.sp_keystate.specs.Changes.{MayLeave, changed}
use Rattle.sp_keystate.specs.Soundness.{Keeps}

-- how a start stands between two of its calls
pub record Standing : Type 0 where
  -- the key file, all of it on the disk, the slot in use and its numbers
  pub file : List ℕ
  pub slot : Slot
  pub numbers : Numbers
  -- the signer, whose indexes below its bound may be used
  pub signer : Signer

-- what it does, by the call that returned
pub data Act : Type 0 where
  Boots : (boot : ℕ) → Act
  Reserves : (bound : ℕ) → Act
  Extends : (upto : ℕ) → Act
  Signs : (index : ℕ) (message : List ℕ) → Act

-- It opened the file, and its signer begins at the bound that was found, with no index to use yet. A signer that is made after the first
-- reserve, from the bound that was found up to the new one, is this one extended
pub record Begins (height : LmsParam) (seed found : List ℕ) (begin : Standing) : Type 0 where
  pub file : begin.file ≡ found
  pub opens : in_use found ≡ Some (in_slot begin.slot begin.numbers)
  pub signer : begin.signer ≡ record { height = height; seed = seed; index = begin.numbers.bound; bound = begin.numbers.bound }

-- numbers that a change may write: one serial on, and no lower
pub record IsChange (numbers next : Numbers) : Type 0 where
  pub range : IsInRange next
  pub serial : next.serial ≡ numbers.serial + 1
  pub bound : numbers.bound ≤ next.bound
  pub boot : numbers.boot ≤ next.boot

-- the change was done: the other slot has these numbers
abbrev pub written : Standing → Numbers → Standing
written old next = record old { file = changed old.file (place (other old.slot)) next; slot = other old.slot; numbers = next }

-- numbers with another boot or another bound, one serial on
abbrev pub with_boot : Numbers → ℕ → Numbers
with_boot numbers boot = record { serial = numbers.serial + 1; bound = numbers.bound; boot = boot }

-- numbers with another bound, one change later
abbrev pub with_bound : Numbers → ℕ → Numbers
with_bound numbers bound = record { serial = numbers.serial + 1; bound = bound; boot = numbers.boot }

-- An act leads from how it stood to how it stands. The signer is extended to what was reserved at most, and signs below its bound
abbrev pub Does : Standing → Act → Standing → Type 0
Does old (Boots boot) new = (boot ≡ old.numbers.boot + 1) × IsChange old.numbers (with_boot old.numbers boot) × (new ≡ written old (with_boot old.numbers boot))
Does old (Reserves bound) new = IsChange old.numbers (with_bound old.numbers bound) × (new ≡ written old (with_bound old.numbers bound))
Does old (Extends upto) new =
    (old.signer.bound ≤ upto) × (upto ≤ old.numbers.bound) × (new ≡ record old { signer = record old.signer { bound = upto } })
Does old (Signs index message) new =
    (index ≡ old.signer.index) × (index < old.signer.bound) × (new ≡ record old { signer = record old.signer { index = old.signer.index + 1 } })

-- so many acts, one after another
pub data DoesAll : Standing → List Act → Standing → Type 0 where
  Nothing_more : (standing : Standing) → DoesAll standing [] standing
  And_then : (old between new : Standing) (act : Act) (acts : List Act) → Does old act between → DoesAll between acts new → DoesAll old (act ∷ acts) new

-- Where it is stopped: between two calls, when the file is as it stands, or at any moment of a change, when a crash may leave any image. And whatever else
-- is left of the file, if it is sound and has no lower bound and no lower boot
pub data Leaves (standing : Standing) (left : List ℕ) : Type 0 where
  Between : left ≡ standing.file → Leaves standing left
  During : (next : Numbers) → IsChange standing.numbers next → MayLeave standing.file (place (other standing.slot)) next left → Leaves standing left
  Kept : Keeps standing.numbers.bound standing.numbers.boot left → Leaves standing left

-- what it signed, and the boots that it took
abbrev pub signings_of : List Act → List Signing
signings_of [] = []
signings_of (Boots boot ∷ acts) = signings_of acts
signings_of (Reserves bound ∷ acts) = signings_of acts
signings_of (Extends upto ∷ acts) = signings_of acts
signings_of (Signs index message ∷ acts) = record { index = index; message = message } ∷ signings_of acts

-- the boots among acts
abbrev pub boots_of : List Act → List ℕ
boots_of [] = []
boots_of (Boots boot ∷ acts) = boot ∷ boots_of acts
boots_of (Reserves bound ∷ acts) = boots_of acts
boots_of (Extends upto ∷ acts) = boots_of acts
boots_of (Signs index message ∷ acts) = boots_of acts
