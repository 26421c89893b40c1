-- Files that no crash during a change takes back: what stands in the other slot does no harm, whatever becomes of its gate.
use Rattle.std.specs.Prelude.{ℕ, ◌≡◌, ◌<◌, ◌≤◌, ◌⊎◌, List, Some, slice_get}
use Rattle.sp_keystate.specs.declared.numbers.Numbers.{Numbers}
use Rattle.sp_keystate.specs.declared.slot.Slot.{Slot}
use Rattle.sp_keystate.specs.Slots.{behind, in_slot, in_use, numbers_in, other, place}

-- later, with no lower bound and no lower boot
pub record IsNext (numbers next : Numbers) : Type 0 where
  pub serial : numbers.serial < next.serial
  pub bound : numbers.bound ≤ next.bound
  pub boot : numbers.boot ≤ next.boot

-- earlier, or later and no lower
abbrev pub IsFine : Numbers → Numbers → Type 0
IsFine numbers there = (there.serial < numbers.serial) ⊎ IsNext numbers there

-- The slot that begins here may do no harm to these numbers if its gate opens, as a crash may make it while 0 is written there:
-- the gate is 0 already, which a crash leaves so, or behind it stand earlier numbers, or later ones that are no lower
abbrev pub IsHarmless : Numbers → List ℕ → ℕ → Type 0
IsHarmless numbers file at = (slice_get file at ≡ Some 0) ⊎ IsFine numbers (numbers_in (behind file at))

-- the file stands for these numbers, which are in this slot, and the other slot does no harm
pub record IsSound (slot : Slot) (numbers : Numbers) (file : List ℕ) : Type 0 where
  pub stands : in_use file ≡ Some (in_slot slot numbers)
  pub beside : IsHarmless numbers file (place (other slot))

-- the file is sound, and stands for numbers with no lower bound and no lower boot
pub record Keeps (bound boot : ℕ) (file : List ℕ) : Type 0 where
  pub slot : Slot
  pub numbers : Numbers
  pub sound : IsSound slot numbers file
  pub bound_kept : bound ≤ numbers.bound
  pub boot_kept : boot ≤ numbers.boot
