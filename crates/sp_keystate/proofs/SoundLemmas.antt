-- A sound file stays sound, whatever a crash leaves of it during a change.
use Rattle.std.proofs.Common.{◌≡◌, ℕ, ◌+◌, ◌<◌, inl, inr, true, false, List, [], ◌∷◌, length, Option, None, Some, refl, sym, ap, subst, ◌∙◌, lit<, lit≤, arith}
use Rattle.std.specs.Prelude.{nat_lt, slice_get}
use Rattle.std.proofs.lemmas.Bool.Decides.{nat_tests}
use Rattle.std.proofs.lemmas.Option.{slice_get_within}
use Rattle.sp_keystate.specs.declared.numbers.Numbers.{Numbers}
use Rattle.sp_keystate.specs.declared.slot.Slot.{Slot}
use Rattle.sp_keystate.specs.declared.slot.Slot.TheVariants.{First, Second}
use Rattle.sp_keystate.specs.Slots.{IsInRange, behind, bytes_in, in_slot, in_use, numbers_in, opened_at, other, place}
use Rattle.sp_keystate.specs.Changes.{Closing, IsTorn, MayLeave, Numbering, Opening, changed, closed, numbered}
use Rattle.sp_keystate.specs.States.{first_numbers}
use Rattle.sp_keystate.specs.Soundness.{IsFine, IsHarmless, IsNext, IsSound, Keeps}
use Rattle.sp_keystate.proofs.Torn.{patched_has, patched_torn, torn_kept, torn_same}
use Rattle.sp_keystate.proofs.SlotLemmas.{FineOpt, closed_fine, fine_open, open_numbers, stays_open}
use Rattle.sp_keystate.proofs.Standing.{apart, behind_past, changed_here, changed_there, formatted_in_use, gate_leaves, head_at, here_of, length_in}
use Rattle.sp_keystate.proofs.Standing.{next_in_use, numbered_body, reads_back}

pub other_other : (slot : Slot) → other (other slot) ≡ slot
other_other First = refl
other_other Second = refl

-- an earlier slot beside does no harm
pub sound_next : (s next : Numbers) (slot : Slot) (m : List ℕ) → s.serial < next.serial → opened_at m (place slot) ≡ Some s
    → opened_at m (place (other slot)) ≡ Some next → IsSound (other slot) next m
sound_next s next slot m up here there =
    record {
      stands = next_in_use m slot s next up here there;
      beside = inr
          (inl (subst (λ (x : Slot). (numbers_in (behind m (place x))).serial < next.serial) (sym (other_other slot))
          (subst (λ (t : Numbers). t.serial < next.serial) (sym (open_numbers m (place slot) s here)) up)));
    }

-- an earlier one in the other slot, or none
stays_alone : (s : Numbers) (slot : Slot) (c : List ℕ) → opened_at c (place slot) ≡ Some s → opened_at c (place (other slot)) ≡ None
    → in_use c ≡ Some (in_slot slot s)
stays_alone s First c here none = rw (here, none) refl
stays_alone s Second c here none = rw (here, none) refl

stays_latest : (s t : Numbers) (slot : Slot) (c : List ℕ) → opened_at c (place slot) ≡ Some s → opened_at c (place (other slot)) ≡ Some t → t.serial < s.serial
    → in_use c ≡ Some (in_slot slot s)
stays_latest s t First c here there down =
    let lt : nat_lt s.serial t.serial ≡ false = grind (arith, nat_tests) in rw (here, there, lt) refl
stays_latest s t Second c here there down =
    let lt : nat_lt t.serial s.serial ≡ true = grind (arith, nat_tests) in rw (here, there, lt) refl

-- by what the other slot has
keeps_by : (s : Numbers) (slot : Slot) (c : List ℕ) (o : Option Numbers) → opened_at c (place slot) ≡ Some s → IsHarmless s c (place (other slot))
    → opened_at c (place (other slot)) ≡ o → FineOpt s o → Keeps s.bound s.boot c
keeps_by s slot c None here harmless there fine =
    record {
      slot = slot;
      numbers = s;
      sound = record { stands = stays_alone s slot c here there; beside = harmless };
      bound_kept = omega arith;
      boot_kept =
          omega arith;
    }
keeps_by s slot c (Some t) here harmless there (inl down) =
    record {
      slot = slot;
      numbers = s;
      sound = record { stands = stays_latest s t slot c here there down; beside = harmless };
      bound_kept =
          omega arith;
      boot_kept = omega arith;
    }
keeps_by s slot c (Some t) here harmless there (inr up) =
    record { slot = other slot; numbers = t; sound = sound_next s t slot c up.serial here there; bound_kept = up.bound; boot_kept = up.boot }

-- what is harmless is fine where it is open
fine_there : (s : Numbers) (c : List ℕ) (at : ℕ) → IsHarmless s c at → FineOpt s (opened_at c at)
fine_there s c at (inl shut) = closed_fine s c at shut
fine_there s c at (inr is_fine) = fine_open s c at (λ gate full. is_fine)

keeps : (s : Numbers) (slot : Slot) (c : List ℕ) → opened_at c (place slot) ≡ Some s → IsHarmless s c (place (other slot)) → Keeps s.bound s.boot c
keeps s slot c here harmless = keeps_by s slot c (opened_at c (place (other slot))) here harmless refl (fine_there s c (place (other slot)) harmless)

-- ---- the three pieces

-- 0 is written to the gate
first_piece : (s : Numbers) (slot : Slot) (f c : List ℕ) → IsSound slot s f → IsTorn f (place (other slot)) (0 ∷ []) c → Keeps s.bound s.boot c
first_piece s slot f c sound torn =
    keeps s slot c (stays_open f c (0 ∷ []) (place slot) at at s (apart slot) (omega arith) (omega arith) (here_of f slot s sound.stands) torn)
    (harmless sound.beside)
  where
    at : ℕ
    at = place (other slot)

    harmless : IsHarmless s f at → IsHarmless s c at
    harmless (inl zero_there) = inl (torn_kept f at 0 c torn zero_there)
    harmless (inr is_fine) = inr (subst (λ (b : List ℕ). IsFine s (numbers_in b)) (sym (gate_leaves f c at 0 torn)) is_fine)

-- the file after it
closed_here : (s : Numbers) (slot : Slot) (f : List ℕ) → opened_at f (place slot) ≡ Some s → opened_at (closed f (place (other slot))) (place slot) ≡ Some s
closed_here s slot f here =
    stays_open f (closed f (place (other slot))) (0 ∷ []) (place slot) (place (other slot)) (place (other slot)) s (apart slot) (omega arith) (omega arith) here
    (patched_torn f (place (other slot)) (0 ∷ []))

-- numbers are written behind a closed gate
second_piece : (s next : Numbers) (slot : Slot) (f c : List ℕ) → opened_at f (place slot) ≡ Some s
    → IsTorn (closed f (place (other slot))) (place (other slot) + 1) (bytes_in next) c → Keeps s.bound s.boot c
second_piece s next slot f c here torn =
    let at = place (other slot) in
    let g = closed f at in
    let size = length_in next in
    let shut : slice_get g at ≡ Some 0 = head_at g at 0 (patched_has f at (0 ∷ [])) in
    keeps s slot c (stays_open g c (bytes_in next) (place slot) at (at + 1) s (apart slot) (omega arith) (omega (arith, size)) (closed_here s slot f here) torn)
    (inl (torn_same g (at + 1) (bytes_in next) c at torn (inl (omega arith)) (slice_get_within g at 0 shut) ∙ shut))

-- the gate is opened before them
third_piece : (s next : Numbers) (slot : Slot) (f c : List ℕ) → IsInRange next → IsNext s next → opened_at f (place slot) ≡ Some s
    → IsTorn (numbered f (place (other slot)) next) (place (other slot)) (0xa5 ∷ []) c → Keeps s.bound s.boot c
third_piece s next slot f c range up here torn =
    let at = place (other slot) in
    let g = numbered f at next in
    let size = length_in next in
    let beside =
    stays_open (closed f at) g (bytes_in next) (place slot) at (at + 1) s (apart slot) (omega arith) (omega (arith, size)) (closed_here s slot f here)
    (patched_torn (closed f at) (at + 1) (bytes_in next)) in
    let numbers : numbers_in (behind c at) ≡ next = ap numbers_in (gate_leaves g c at 0xa5 torn ∙ numbered_body f at next) ∙ reads_back next range in
    keeps s slot c (stays_open g c (0xa5 ∷ []) (place slot) at at s (apart slot) (omega arith) (omega arith) beside torn)
    (inr (inr (subst (λ (t : Numbers). IsNext s t) (sym numbers) up)))

-- whatever a crash leaves during a change keeps the bound and the boot
pub change_keeps : (slot : Slot) (s next : Numbers) (f c : List ℕ) → IsSound slot s f → IsInRange next → IsNext s next → MayLeave f (place (other slot)) next c
    → Keeps s.bound s.boot c
change_keeps slot s next f c sound range up (Closing torn) = first_piece s slot f c sound torn
change_keeps slot s next f c sound range up (Numbering torn) = second_piece s next slot f c (here_of f slot s sound.stands) torn
change_keeps slot s next f c sound range up (Opening torn) = third_piece s next slot f c range up (here_of f slot s sound.stands) torn

-- and the changed file is sound
pub change_sound : (slot : Slot) (s next : Numbers) (f : List ℕ) → in_use f ≡ Some (in_slot slot s) → IsInRange next → s.serial < next.serial
    → IsSound (other slot) next (changed f (place (other slot)) next)
change_sound slot s next f stands range up =
    sound_next s next slot (changed f (place (other slot)) next) up (changed_here f slot s next (here_of f slot s stands))
    (changed_there f (place (other slot)) next range)

-- ---- an empty file, formatted

-- a key file that was made of nothing is sound in its first slot
pub format_sound : IsSound First first_numbers (changed [] (place First) first_numbers)
unfolding numbers_in
format_sound = record { stands = formatted_in_use [] refl; beside = inr (inl (subst (λ (l : List ℕ). (numbers_in l).serial < 1) (sym nothing) (lit< tt))) }
  where
    size : length (bytes_in first_numbers) ≡ 24
    size = length_in first_numbers

    nothing : behind (changed [] 0 first_numbers) 64 ≡ []
    nothing =
        behind_past (numbered [] 0 first_numbers) (changed [] 0 first_numbers) 0 64 (0xa5 ∷ []) (patched_torn (numbered [] 0 first_numbers) 0 (0xa5 ∷ []))
        (lit≤ tt)
        ∙ behind_past (closed [] 0) (numbered [] 0 first_numbers) (0 + 1) 64 (bytes_in first_numbers)
        (patched_torn (closed [] 0) (0 + 1) (bytes_in first_numbers)) (omega (arith, size))
        ∙ behind_past [] (closed [] 0) 0 64 (0 ∷ []) (patched_torn [] 0 (0 ∷ [])) (lit≤ tt)
