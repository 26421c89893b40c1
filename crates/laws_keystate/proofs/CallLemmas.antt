-- The calls on a key file, as acts of a start.
use Rattle.std.proofs.Common.{◌≡◌, ℕ, ◌+◌, ◌≤◌, List, Option, None, Some, refl, sym, ap, subst, ◌∙◌, arith}
use Rattle.std.proofs.lemmas.Option.{none-some}
use Rattle.sp_outside.specs.Disk.{Disk, bytes_of, still}
use Rattle.sp_outside.proofs.DiskLemmas.{bytes_of-still}
use Rattle.sp_keystate.specs.declared.numbers.Numbers.{Numbers}
use Rattle.sp_keystate.specs.declared.slot.Slot.{Slot}
use Rattle.sp_keystate.specs.declared.key_state.KeyState.{KeyState}
use Rattle.sp_keystate.specs.Slots.{IsInRange, in_use, other, place}
use Rattle.sp_keystate.specs.Changes.{Changes, MayLeave, changed}
use Rattle.sp_keystate.specs.States.{changed_state, next_numbers, numbers_of}
use Rattle.sp_keystate.proofs.Pieces.{same_some}
use Rattle.sp_keystate.proofs.Since.{since_weaker}
use Rattle.laws_keystate.specs.Starts.{During, IsChange, Leaves, Standing, with_boot, with_bound, written}
use Rattle.laws_keystate.specs.Calls.{ABootIsAnAct, ACrashLeavesWhatAStartMay, AReserveIsAnAct, AnOpenBegins, IsAt}

-- ---- an open

pub an_open_begins : AnOpenBegins
an_open_begins height seed found None after state told finds = absurd (none-some (still found) told)
an_open_begins height seed found (Some d) after state told finds =
    let bytes : bytes_of d ≡ found = ap bytes_of (same_some d (still found) told) ∙ bytes_of-still found in
    let numbers = numbers_of state in (
      record {
        file = found;
        slot = state.slot;
        numbers = numbers;
        signer =
            record { height = height; seed = seed; index = numbers.bound; bound = numbers.bound };
      },
      record { file = refl; opens = sym (finds.1 ∙ ap in_use bytes); signer = refl },
      record { disk = finds.0 ∙ ap (λ (l : List ℕ). Some (still l)) bytes; slot = refl; numbers = refl },
    )

-- ---- a change

changed_file : (told after : Option Disk) (file : List ℕ) (at : ℕ) (next : Numbers) → told ≡ Some (still file) → Changes told after at next
    → after ≡ Some (still (changed file at next))
changed_file None after file at next is changes = absurd (none-some (still file) is)
changed_file (Some d) after file at next is changes =
    changes ∙ ap (λ (l : List ℕ). Some (still (changed l at next))) (ap bytes_of (same_some d (still file) is) ∙ bytes_of-still file)

serial_same : (state : KeyState) (standing : Standing) (bound boot : ℕ) → numbers_of state ≡ standing.numbers
    → next_numbers state bound boot ≡ record { serial = standing.numbers.serial + 1; bound = bound; boot = boot }
serial_same state standing bound boot is = ap (λ (n : Numbers). record { serial = n.serial + 1; bound = bound; boot = boot }) is

at_after : (standing : Standing) (told after : Option Disk) (state new : KeyState) (bound boot : ℕ) → IsAt told state standing
    → Changes told after (place (other state.slot)) (next_numbers state bound boot) → new ≡ changed_state state bound boot
    → IsAt after new (written standing (next_numbers state bound boot))
at_after standing told after state new bound boot here changes is = record {
  disk = changed_file told after standing.file (place (other state.slot)) (next_numbers state bound boot) here.disk changes
      ∙ ap (λ (x : Slot). Some (still (changed standing.file (place (other x)) (next_numbers state bound boot)))) here.slot;
  slot = ap (λ (k : KeyState). k.slot) is ∙ ap other here.slot;
  numbers = ap numbers_of is;
}

change_of : (standing : Standing) (told : Option Disk) (state : KeyState) (bound boot : ℕ) → IsAt told state standing
    → IsInRange (next_numbers state bound boot) → state.bound ≤ bound → state.boot ≤ boot
    → IsChange standing.numbers (next_numbers state bound boot)
change_of standing told state bound boot here range a b =
    subst (λ (n : Numbers). IsChange n (next_numbers state bound boot)) here.numbers (record { range = range; serial = refl; bound = a; boot = b })

pub a_reserve_is_an_act : AReserveIsAnAct
a_reserve_is_an_act standing told after state new bound here range up changes is =
    let next = next_numbers state bound state.boot in
    let same : next ≡ with_bound standing.numbers bound = ap (λ (n : Numbers). with_bound n bound) here.numbers in (
      written standing next,
      (subst (IsChange standing.numbers) same (change_of standing told state bound state.boot here range up (omega arith)), ap (written standing) same),
      at_after standing told after state new bound state.boot here changes is,
    )

pub a_boot_is_an_act : ABootIsAnAct
a_boot_is_an_act standing told after state new here range changes is =
    let next = next_numbers state state.bound (state.boot + 1) in
    let same : next ≡ with_boot standing.numbers (state.boot + 1) = ap (λ (n : Numbers). with_boot n (state.boot + 1)) here.numbers in (
      written standing next,
      (
        ap (λ (n : Numbers). n.boot + 1) here.numbers,
        subst (IsChange standing.numbers) same (change_of standing told state state.bound (state.boot + 1) here range (omega arith) (omega arith)),
        ap (written standing) same,
      ),
      at_after standing told after state new state.bound (state.boot + 1) here changes is,
    )

pub a_crash_leaves : ACrashLeavesWhatAStartMay
a_crash_leaves standing told past now state bound boot here range a b moments =
    let next = next_numbers state bound boot in
    since_weaker past now (MayLeave standing.file (place (other state.slot)) next) (Leaves standing)
    (λ c may. During next (change_of standing told state bound boot here range a b)
    (subst (λ (x : Slot). MayLeave standing.file (place (other x)) next c) here.slot may))
    (moments standing.file here.disk)
