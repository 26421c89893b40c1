-- The start that a daemon takes from its key file, as the acts of a start: a boot, a reserve, and the signer extended.
use Rattle.std.proofs.Common.{◌≡◌, ℕ, ◌+◌, ◌<◌, ◌≤◌, List, [], ◌∷◌, Option, Some, refl, sym, ap, subst, ◌∙◌, arith}
use Rattle.std.specs.Prelude.{◌^◌, min}
use Rattle.sp_hss.specs.Uses.{Signing}
use Rattle.sp_lms.specs.declared.param.LmsParam.{LmsParam}
use Rattle.sp_keystate.specs.Changes.{changed}
use Rattle.sp_keystate.specs.Slots.{in_slot, in_use, other, place}
use Rattle.sp_keystate.specs.Starting.{BeginsAt, Starts, booted}
use Rattle.sp_keystate.specs.States.{numbers_of}
use Rattle.sp_keystate.specs.declared.key_state.KeyState.{KeyState}
use Rattle.sp_keystate.specs.declared.numbers.Numbers.{Numbers}
use Rattle.sp_keystate.specs.declared.slot.Slot.{Slot}
use Rattle.sp_keystate.specs.declared.slot.Slot.TheVariants.{First, Second}
use Rattle.sp_keystate.specs.declared.starts.Started.{Started}
use Rattle.sp_keystate.specs.declared.starts.TheConstants.{RESERVED}
use Rattle.sp_outside.specs.Disk.{Disk, bytes_of, still}
use Rattle.sp_outside.proofs.DiskLemmas.{bytes_of-still}
use Rattle.sp_service_turns.specs.declared.indexes.Indexes.{Indexes}
use Rattle.laws_keystate.specs.Runs.{indexes_at}
use Rattle.laws_keystate.specs.Starts.{And_then, Begins, Boots, Extends, IsChange, Nothing_more, Reserves, Standing, with_boot, with_bound, written}
use Rattle.laws_keystate.proofs.RunLemmas.{Fits, Went}

-- how a start begins, and where its acts led
pub record Begun (height : LmsParam) (seed found : List ℕ) (told : Option Disk) (keys : KeyState) (i : Indexes) (signed : List Signing) : Type 0 where
  pub begin : Standing
  pub begins : Begins height seed found begin
  pub went : Went begin told keys i signed

other_twice : (slot : Slot) → other (other slot) ≡ slot
other_twice First = refl
other_twice Second = refl

no_lower : (first bound total : ℕ) → first < total → bound ≡ min (first + 32) total → first ≤ bound
no_lower first bound total some is = grind (arith, some, is)

no_higher : (first bound total : ℕ) → bound ≡ min (first + 32) total → bound ≤ total
no_higher first bound total is = grind (arith, is)

-- from these numbers in this slot to this state, whose bound is above the first index
module _ (height : LmsParam) (seed found : List ℕ) (slot : Slot) (numbers : Numbers) (state : KeyState) (first total : ℕ) (few : total < 2 ^ 64)
    (first_is : first ≡ numbers.bound)
    (boot_is : state.boot ≡ numbers.boot + 1) (serial_is : state.serial ≡ numbers.serial + 2) (slot_is : state.slot ≡ slot) (up : first ≤ state.bound)
    (within : state.bound ≤ total)
    (boots : state.boot < 2 ^ 63) (serials : state.serial < 2 ^ 64) where
  abbrev begin : Standing
  begin = record
      { file = found; slot = slot; numbers = numbers; signer = record { height = height; seed = seed; index = numbers.bound; bound = numbers.bound } }

  abbrev mid : Standing
  mid = written begin (with_boot numbers (numbers.boot + 1))

  abbrev taken : Standing
  taken = written mid (with_bound (with_boot numbers (numbers.boot + 1)) state.bound)

  abbrev extended : Standing
  extended = record taken { signer = record { height = height; seed = seed; index = numbers.bound; bound = state.bound } }

  no_less : numbers.bound ≤ state.bound
  no_less = omega (arith, first_is, up)

  boots_on : IsChange numbers (with_boot numbers (numbers.boot + 1))
  boots_on = record {
    range = record { serial = omega (arith, serial_is, serials); bound = omega (arith, first_is, up, within, few); boot = omega (arith, boot_is, boots) };
    serial = refl;
    bound = omega arith;
    boot = omega arith;
  }

  reserves_on : IsChange (with_boot numbers (numbers.boot + 1)) (with_bound (with_boot numbers (numbers.boot + 1)) state.bound)
  reserves_on = record {
    range = record { serial = omega (arith, serial_is, serials); bound = omega (arith, within, few); boot = omega (arith, boot_is, boots) };
    serial = refl;
    bound = no_less;
    boot = omega arith;
  }

  numbers_are : numbers_of state ≡ with_bound (with_boot numbers (numbers.boot + 1)) state.bound
  numbers_are = let serial : state.serial ≡ numbers.serial + 1 + 1 = omega (arith, serial_is) in rw (serial, boot_is) refl

  file_is : (after : Option Disk)
      → after ≡ Some (still (changed (changed (bytes_of (still found)) (place (other slot)) (booted numbers)) (place slot) (numbers_of state)))
      → after ≡ Some (still taken.file)
  file_is after is =
      is
      ∙ ap (λ (l : List ℕ). Some (still (changed (changed l (place (other slot)) (booted numbers)) (place slot) (numbers_of state)))) (bytes_of-still found)
      ∙ ap (λ (x : Slot). Some (still (changed mid.file (place x) (numbers_of state)))) (sym (other_twice slot))
      ∙ ap (λ (n : Numbers). Some (still (changed mid.file (place (other mid.slot)) n))) numbers_are

  fits_now : (after : Option Disk) → after ≡ Some (still taken.file) → Fits extended after state (record { index = first; bound = state.bound; total = total })
  fits_now after is = record {
    at = record { disk = is; slot = slot_is ∙ sym (other_twice slot); numbers = numbers_are };
    index = sym first_is;
    bound = refl;
    kept = refl;
    ordered = up;
    within = within;
    few = few;
    boot = omega (arith, boots);
  }

  goes : (after : Option Disk) (i : Indexes) → in_use found ≡ Some (in_slot slot numbers) → after ≡ Some (still taken.file)
      → i ≡ record { index = first; bound = state.bound; total = total } → Begun height seed found after state i []
  goes after i opens is i_is = record {
    begin = begin;
    begins = record { file = refl; opens = opens; signer = refl };
    went = record {
      next = extended;
      acts = Boots (numbers.boot + 1) ∷ Reserves state.bound ∷ Extends state.bound ∷ [];
      does = And_then begin mid extended (Boots (numbers.boot + 1)) (Reserves state.bound ∷ Extends state.bound ∷ []) (refl, boots_on, refl)
          (And_then mid taken extended (Reserves state.bound) (Extends state.bound ∷ []) (reserves_on, refl)
          (And_then taken extended extended (Extends state.bound) [] (no_less, omega arith, refl) (Nothing_more extended)));
      fits = subst (Fits extended after state) (sym i_is) (fits_now after is);
      signs = refl;
    };
  }

-- what a start promises of a file that is all on the disk
pub start_goes : (height : LmsParam) (seed found : List ℕ) (after : Option Disk) (started : Started) (total : ℕ) → total < 2 ^ 64
    → Starts (Some (still found)) after RESERVED total started → (i : Indexes) → i ≡ indexes_at total started → Begun height seed found after started.state i []
start_goes height seed found after started total few starts i i_is =
    let at : BeginsAt after started (still found) = starts.begins in
    let up = no_lower started.first started.state.bound total starts.some starts.bound in
    let within = no_higher started.first started.state.bound total starts.bound in
    let opens : in_use found ≡ Some (in_slot at.found.slot at.found.numbers) = ap in_use (sym (bytes_of-still found)) ∙ at.stood in
    let file = file_is height seed found at.found.slot at.found.numbers started.state started.first total few at.first at.boot at.serial at.slot up within
    starts.boot.1 starts.serial after at.changes in
    goes height seed found at.found.slot at.found.numbers started.state started.first total few at.first at.boot at.serial at.slot up within starts.boot.1
    starts.serial after i opens file i_is
