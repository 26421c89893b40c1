-- A key state over a change of its file.
use Rattle.std.proofs.Common.{◌≡◌, ℕ, ◌≤◌, ◌⊎◌, inl, inr, true, false, List, Option, None, Some, refl, sym, ap, subst, ◌∙◌, arith}
use Rattle.std.specs.Prelude.{IfSome, is_some}
use Rattle.std.proofs.lemmas.Option.{none-some}
use Rattle.sp_outside.specs.Disk.{Disk, IsImage, bytes_of, still}
use Rattle.sp_outside.specs.Moments.{LeavesWithin}
use Rattle.sp_outside.proofs.DiskLemmas.{bytes_of-still}
use Rattle.sp_keystate.specs.declared.numbers.Numbers.{Numbers}
use Rattle.sp_keystate.specs.declared.slot.InUse.{InUse}
use Rattle.sp_keystate.specs.declared.slot.Slot.{Slot}
use Rattle.sp_keystate.specs.declared.slot.Slot.TheVariants.{First}
use Rattle.sp_keystate.specs.declared.key_state.KeyState.{KeyState}
use Rattle.sp_keystate.specs.Slots.{IsInRange, in_slot, in_use, other, place}
use Rattle.sp_keystate.specs.Changes.{ChangeMoments, Changes, MayLeave, changed}
use Rattle.sp_keystate.specs.States.{Finds, FormatMoments, Formats, FormatsSafely, KeepsMeanwhile, OpensAs, OpensSafely, SoundAs, StandsFor, changed_state}
use Rattle.sp_keystate.specs.States.{first_numbers, next_numbers, numbers_of}
use Rattle.sp_keystate.proofs.Pieces.{same_some}
use Rattle.sp_keystate.proofs.Since.{since_on, since_weaker}
use Rattle.sp_keystate.specs.Soundness.{IsSound, Keeps}
use Rattle.sp_keystate.proofs.SoundLemmas.{change_keeps, change_sound, format_sound}
use Rattle.sp_keystate.proofs.Standing.{changed_in_use, formatted_in_use}

opens_after : (d e : Option Disk) (state : KeyState) (bound boot : ℕ) → IsInRange (next_numbers state bound boot) → IfSome d (OpensAs state)
    → Changes d e (place (other state.slot)) (next_numbers state bound boot) → IfSome e (OpensAs (changed_state state bound boot))
opens_after None None state bound boot range opens changes = tt
opens_after None (Some e) state bound boot range opens changes = absurd (none-some e (sym changes))
opens_after (Some d) None state bound boot range opens changes = absurd (none-some _ changes)
opens_after (Some d) (Some e) state bound boot range opens changes =
    let next = next_numbers state bound boot in
    let at = place (other state.slot) in
    let bytes : bytes_of d ≡ opens.file = ap bytes_of opens.still ∙ bytes_of-still opens.file in
    record {
      file = changed (bytes_of d) at next;
      still = ap (λ (o : Option Disk). elim o [ None ↦ e | Some k ↦ k ]) changes;
      opens = changed_in_use (bytes_of d) state.slot (numbers_of state) next range (omega arith) (ap in_use bytes ∙ opens.opens);
    }

pub stands_after : (d e : Option Disk) (state : KeyState) (bound boot : ℕ) → IsInRange (next_numbers state bound boot) → StandsFor d state
    → Changes d e (place (other state.slot)) (next_numbers state bound boot) → StandsFor e (changed_state state bound boot)
stands_after d e state bound boot range stands changes =
    record { is_current = stands.is_current; opens = opens_after d e state bound boot range stands.opens changes }

-- ---- a state that was made of what was found

opens_same : (a b : KeyState) (o : Option Disk) → in_slot b.slot (numbers_of b) ≡ in_slot a.slot (numbers_of a) → IfSome o (OpensAs a) → IfSome o (OpensAs b)
opens_same a b None same opens = tt
opens_same a b (Some disk) same opens = record { file = opens.file; still = opens.still; opens = opens.opens ∙ ap (λ (u : InUse). Some u) (sym same) }

pub stands_found : (d e : Option Disk) (state found : KeyState) (slot : Slot) (bound boot : ℕ) → slot ≡ other state.slot
    → IsInRange (next_numbers state bound boot) → StandsFor d state
    → Changes d e (place slot) (next_numbers state bound boot) → in_slot found.slot (numbers_of found) ≡ in_slot slot (next_numbers state bound boot)
    → found.is_current ≡ true → StandsFor e found
stands_found d e state found slot bound boot is range stands changes same current =
    record {
      is_current = current;
      opens = opens_same (changed_state state bound boot) found e (same ∙ ap (λ (x : Slot). in_slot x (next_numbers state bound boot)) is)
          (opens_after d e state bound boot range stands.opens (subst (λ (x : Slot). Changes d e (place x) (next_numbers state bound boot)) is changes));
    }

-- ---- a file that is formatted

not_found : (o : Option InUse) → is_some o ≡ false → o ≡ None
not_found None is = refl
not_found (Some x) is = absurd (true_not_false is)
  where
    true_not_false : true ≡ false → ⊥
    true_not_false wrong = cc

some_of : (d : Disk) (m : Option Disk) → m ≡ Some (still (bytes_of d)) → (e : Option Disk) (at : ℕ) (next : Numbers) → Changes m e at next
    → e ≡ Some (still (changed (bytes_of d) at next))
some_of d None is e at next changes = absurd (none-some (still (bytes_of d)) is)
some_of d (Some m) is e at next changes =
    changes ∙ ap (λ (l : List ℕ). Some (still (changed l at next))) (ap bytes_of (same_some m (still (bytes_of d)) is) ∙ bytes_of-still (bytes_of d))

none_of : (m e : Option Disk) (at : ℕ) (next : Numbers) → m ≡ None → Changes m e at next → e ≡ None
none_of None e at next is changes = changes
none_of (Some m) e at next is changes = absurd (none-some m (sym is))

pub formats : (d m e : Option Disk) (found : Option InUse) → Finds d m found → is_some found ≡ false → Changes m e (place First) first_numbers → Formats d e
formats None m e found finds is changes = none_of m e (place First) first_numbers finds changes
formats (Some d) m e found finds is changes = (sym finds.1 ∙ not_found found is, some_of d m finds.0 e (place First) first_numbers changes)

pub format_stands : (d e : Option Disk) (state : KeyState) → Formats d e → in_slot state.slot (numbers_of state) ≡ in_slot First first_numbers
    → state.is_current ≡ true → StandsFor e state
format_stands d e state formats same current = record { is_current = current; opens = go d e formats }
  where
    go : (a b : Option Disk) → Formats a b → IfSome b (OpensAs state)
    go None None f = tt
    go None (Some b) f = absurd (none-some b (sym f))
    go (Some a) None f = tt
    go (Some a) (Some b) f = record {
      file = changed (bytes_of a) (place First) first_numbers;
      still = same_some b (still (changed (bytes_of a) (place First) first_numbers)) f.1;
      opens = formatted_in_use (bytes_of a) f.0 ∙ ap (λ (u : InUse). Some u) (sym same);
    }

-- what the sync and the reads leave, and what the change leaves
pub format_finding : (d : Option Disk) (p q : Option (List Disk)) → LeavesWithin d p q → FormatMoments d p q
format_finding None p q leaves = tt
format_finding (Some d) p q leaves =
    since_weaker p q (IsImage d) (λ image. IsImage d image ⊎ MayLeave (bytes_of d) (place First) first_numbers image) (λ c h. inl h) leaves

pub format_changing : (d m : Option Disk) (p q t : Option (List Disk)) (found : Option InUse) → Finds d m found → LeavesWithin d p q
    → ChangeMoments m q t (place First) first_numbers → FormatMoments d p t
format_changing None m p q t found finds leaves moments = tt
format_changing (Some d) m p q t found finds leaves moments =
    let P : List ℕ → Type 0 = λ image. IsImage d image ⊎ MayLeave (bytes_of d) (place First) first_numbers image in
    since_on p q t P (format_finding (Some d) p q leaves)
    (since_weaker q t (MayLeave (bytes_of d) (place First) first_numbers) P (λ c h. inr h) (moments (bytes_of d) finds.0))

-- ---- sound files

pub keeps_meanwhile : (d : Option Disk) (p q : Option (List Disk)) (state : KeyState) (slot : Slot) (bound boot : ℕ) → slot ≡ other state.slot
    → IsInRange (next_numbers state bound boot) → state.bound ≤ bound → state.boot ≤ boot
    → ChangeMoments d p q (place slot) (next_numbers state bound boot) → KeepsMeanwhile d p q state
keeps_meanwhile d p q state slot bound boot is range bound_up boot_up moments file told sound =
    let next = next_numbers state bound boot in
    since_weaker p q (MayLeave file (place slot) next) (Keeps state.bound state.boot)
    (λ c left. change_keeps state.slot (numbers_of state) next file c sound range (record { serial = omega arith; bound = bound_up; boot = boot_up })
    (subst (λ (x : Slot). MayLeave file (place x) next c) is left)) (moments file told)

sound_same : (state : KeyState) (slot : Slot) (numbers : Numbers) (file : List ℕ) → in_slot state.slot (numbers_of state) ≡ in_slot slot numbers
    → IsSound slot numbers file → IsSound state.slot (numbers_of state) file
sound_same state slot numbers file same sound = subst (λ (u : InUse). IsSound u.slot u.numbers file) (sym same) sound

pub sound_after : (d e : Option Disk) (state found : KeyState) (slot : Slot) (bound boot : ℕ) → slot ≡ other state.slot
    → IsInRange (next_numbers state bound boot) → StandsFor d state
    → Changes d e (place slot) (next_numbers state bound boot) → in_slot found.slot (numbers_of found) ≡ in_slot slot (next_numbers state bound boot)
    → IfSome e (SoundAs found)
sound_after d None state found slot bound boot is range stands changes same = tt
sound_after None (Some e) state found slot bound boot is range stands changes same = absurd (none-some e (sym changes))
sound_after (Some d) (Some e) state found slot bound boot is range stands changes same =
    let next = next_numbers state bound boot in
    let bytes : bytes_of d ≡ stands.opens.file = ap bytes_of stands.opens.still ∙ bytes_of-still stands.opens.file in
    record {
      file = changed (bytes_of d) (place slot) next;
      still = same_some e (still (changed (bytes_of d) (place slot) next)) changes;
      sound = sound_same found slot next (changed (bytes_of d) (place slot) next) same
          (subst (λ (x : Slot). IsSound x next (changed (bytes_of d) (place x) next)) (sym is)
          (change_sound state.slot (numbers_of state) next (bytes_of d) (ap in_use bytes ∙ stands.opens.opens) range (omega arith)));
    }

pub opens_safely : (d e : Option Disk) (state : KeyState) → Finds d e (Some (in_slot state.slot (numbers_of state))) → OpensSafely d e state
opens_safely None e state finds = tt
opens_safely (Some d) None state finds = λ slot numbers sound. tt
opens_safely (Some d) (Some e) state finds = λ slot numbers sound. record {
  file = bytes_of d;
  still = same_some e (still (bytes_of d)) finds.0;
  sound = sound_same state slot numbers (bytes_of d) (same_some (in_slot state.slot (numbers_of state)) (in_slot slot numbers) (finds.1 ∙ sound.stands)) sound;
}

pub formats_safely : (d e : Option Disk) (state : KeyState) → Formats d e → in_slot state.slot (numbers_of state) ≡ in_slot First first_numbers
    → FormatsSafely d e state
formats_safely None e state formats same = tt
formats_safely (Some d) None state formats same = λ empty. tt
formats_safely (Some d) (Some e) state formats same = λ empty. record {
  file = changed (bytes_of d) (place First) first_numbers;
  still = same_some e (still (changed (bytes_of d) (place First) first_numbers)) formats.1;
  sound = sound_same state First first_numbers (changed (bytes_of d) (place First) first_numbers) same
      (subst (λ (l : List ℕ). IsSound First first_numbers (changed l (place First) first_numbers)) (sym empty) format_sound);
}
