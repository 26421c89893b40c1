-- A start: an open, the next boot, and a reserve.
use Rattle.std.proofs.Common.{◌≡◌, ℕ, ◌+◌, ◌<◌, ◌≤◌, min, Bool, true, false, List, Option, None, Some, refl, sym, ap, subst, ◌∙◌, arith, inl, inr}
use Rattle.std.specs.Prelude.{Err, IfSome, ◌==◌, ◌-◌, ◌^◌, if◌then◌else◌, nat_le}
use Rattle.std.proofs.lemmas.Bool.Decides.{nat_tests}
use Rattle.std.proofs.lemmas.Option.{none-some}
use Rattle.sp_outside.specs.Disk.{Disk, IsImage, bytes_of, still}
use Rattle.sp_outside.specs.Moments.{AllSince, LeavesWithin}
use Rattle.sp_outside.proofs.DiskLemmas.{bytes_of-still, only_image}
use Rattle.sp_keystate.specs.declared.numbers.Numbers.{Numbers}
use Rattle.sp_keystate.specs.declared.slot.Slot.{Slot}
use Rattle.sp_keystate.specs.declared.slot.InUse.{InUse}
use Rattle.sp_keystate.specs.declared.key_state.KeyState.{KeyState}
use Rattle.sp_keystate.specs.declared.starts.Started.{Started}
use Rattle.sp_keystate.specs.Slots.{in_slot, in_use, other, place}
use Rattle.sp_keystate.specs.Changes.{Changes, changed}
use Rattle.sp_keystate.specs.Soundness.{IsSound, Keeps}
use Rattle.sp_keystate.specs.States.{Finds, IsChangeAnswer, IsOpenAnswer, IsSoundAt, KeepsMeanwhile, SoundAs, boot_end, changed_state, next_numbers, numbers_of}
use Rattle.sp_keystate.specs.States.{reserve_end, serial_end}
use Rattle.sp_keystate.specs.declared.refused.KeyRefused.{KeyRefused}
use Rattle.sp_keystate.specs.declared.refused.KeyRefused.TheVariants.{KeeperFault, Unformatted, Formatted, Exhausted}
use Rattle.sp_keystate.specs.Starting.{AreSpent, BeginsAt, IsSpent, KeepsAll, NoStart, Starts, StartsSafely, booted}
use Rattle.sp_keystate.proofs.Pieces.{same_some}
use Rattle.sp_keystate.proofs.Since.{since_on, since_weaker}
use Rattle.sp_keystate.proofs.SoundLemmas.{other_other}

-- ---- what was found

-- the keeper tells its bytes
abbrev IsTold : Option Disk → Type 0
IsTold None = ⊥
IsTold (Some disk) = Unit {0}

no_end : (total bound : ℕ) (o : Option ℕ) → (if nat_le total bound then Some bound else o) ≡ None → bound < total
no_end total bound o is = go (nat_le total bound) refl is
  where
    go : (t : Bool) → nat_le total bound ≡ t → (if t then Some bound else o) ≡ None → bound < total
    go true most e = absurd (none-some bound (sym e))
    go false less e = grind (arith, nat_tests)

no_last : (opened : KeyState) → boot_end opened ≡ None → opened.boot < 2 ^ 63 - 1
no_last opened is = go (nat_le (2 ^ 63 - 1) opened.boot) refl is
  where
    go : (t : Bool) → nat_le (2 ^ 63 - 1) opened.boot ≡ t → (if t then Some opened.boot else serial_end opened) ≡ None → opened.boot < 2 ^ 63 - 1
    go true most e = absurd (none-some opened.boot (sym e))
    go false less e = grind (arith, nat_tests)

-- a change of a file that was on the disk
pub changed_file : (told after : Option Disk) (file : List ℕ) (at : ℕ) (next : Numbers) → told ≡ Some (still file) → Changes told after at next
    → after ≡ Some (still (changed file at next))
changed_file None after file at next is changes = absurd (none-some (still file) is)
changed_file (Some d) after file at next is changes =
    changes ∙ ap (λ (l : List ℕ). Some (still (changed l at next))) (ap bytes_of (same_some d (still file) is) ∙ bytes_of-still file)

-- the two changes of a start
changed_twice : (d : Disk) (e f g : Option Disk) (opened next last : KeyState) (bound : ℕ) → e ≡ Some (still (bytes_of d))
    → Changes e f (place (other opened.slot)) (next_numbers opened opened.bound (opened.boot + 1)) → next ≡ changed_state opened opened.bound (opened.boot + 1)
    → Changes f g (place (other next.slot)) (next_numbers next bound next.boot) → last ≡ changed_state next bound next.boot
    → g ≡ Some (still (changed (changed (bytes_of d) (place (other opened.slot)) (booted (numbers_of opened))) (place opened.slot) (numbers_of last)))
changed_twice d e f g opened next last bound found boots is reserves last_is =
    let file = changed (bytes_of d) (place (other opened.slot)) (booted (numbers_of opened)) in
    let there : f ≡ Some (still file) = changed_file e f (bytes_of d) (place (other opened.slot)) (booted (numbers_of opened)) found boots in
    let slot : other next.slot ≡ opened.slot = ap (λ (s : KeyState). other s.slot) is ∙ other_other opened.slot in
    let numbers : next_numbers next bound next.boot ≡ numbers_of last = sym (ap numbers_of last_is) in
    changed_file f g file (place (other next.slot)) (next_numbers next bound next.boot) there reserves
    ∙ ap (λ (s : Slot). Some (still (changed file (place s) (next_numbers next bound next.boot)))) slot
    ∙ ap (λ (n : Numbers). Some (still (changed file (place opened.slot) n))) numbers

begins_at : (d e f g : Option Disk) (opened next last : KeyState) (bound : ℕ) → Finds d e (Some (in_slot opened.slot (numbers_of opened)))
    → Changes e f (place (other opened.slot)) (next_numbers opened opened.bound (opened.boot + 1)) → next ≡ changed_state opened opened.bound (opened.boot + 1)
    → Changes f g (place (other next.slot)) (next_numbers next bound next.boot) → last ≡ changed_state next bound next.boot
    → IfSome d (BeginsAt g (record { state = last; first = opened.bound }))
begins_at None e f g opened next last bound finds boots is reserves last_is = tt
begins_at (Some d) e f g opened next last bound finds boots is reserves last_is =
    let boot : next.boot ≡ opened.boot + 1 = ap (λ (s : KeyState). s.boot) is in
    let serial : next.serial ≡ opened.serial + 1 = ap (λ (s : KeyState). s.serial) is in
    let last_boot : last.boot ≡ next.boot = ap (λ (s : KeyState). s.boot) last_is in
    let last_serial_is : last.serial ≡ next.serial + 1 = ap (λ (s : KeyState). s.serial) last_is in
    record {
      found = in_slot opened.slot (numbers_of opened);
      stood = sym finds.1;
      first = refl;
      boot = last_boot ∙ boot;
      serial = omega (arith, serial, last_serial_is);
      slot = ap (λ (s : KeyState). s.slot) last_is ∙ ap (λ (s : KeyState). other s.slot) is ∙ other_other opened.slot;
      changes = changed_twice d e f g opened next last bound finds.0 boots is reserves last_is;
    }

pub starts : (d e f g : Option Disk) (opened next last : KeyState) (n total : ℕ) → Finds d e (Some (in_slot opened.slot (numbers_of opened)))
    → boot_end opened ≡ None → next ≡ changed_state opened opened.bound (opened.boot + 1) → reserve_end next total ≡ None
    → last ≡ changed_state next (min (next.bound + n) total) next.boot → last.serial < 2 ^ 64
    → Changes e f (place (other opened.slot)) (next_numbers opened opened.bound (opened.boot + 1))
    → Changes f g (place (other next.slot)) (next_numbers next (min (next.bound + n) total) next.boot)
    → Starts d g n total (record { state = last; first = opened.bound })
starts d e f g opened next last n total finds another boot room is numbered boots reserves =
    let bound : next.bound ≡ opened.bound = ap (λ (s : KeyState). s.bound) boot in
    let last_bound : last.bound ≡ min (next.bound + n) total = ap (λ (s : KeyState). s.bound) is in
    let last_boot : last.boot ≡ opened.boot + 1 = ap (λ (s : KeyState). s.boot) is ∙ ap (λ (s : KeyState). s.boot) boot in
    let some : next.bound < total = no_end total next.bound (serial_end next) room in
    record {
      begins = begins_at d e f g opened next last (min (next.bound + n) total) finds boots boot reserves is;
      some = omega (arith, some, bound);
      bound = last_bound ∙ ap (λ (b : ℕ). min (b + n) total) bound;
      boot = (omega (arith, last_boot), (let few = no_last opened another in omega (arith, last_boot, few)));
      serial = numbered;
    }

-- a call that changes the file leaves one that is told, where one was
told_on : (d e : Option Disk) (at : ℕ) (next : Numbers) → Changes d e at next → IsTold d → IsTold e
told_on None e at next changes told = absurd told
told_on (Some d) None at next changes told = absurd (none-some _ changes)
told_on (Some d) (Some e) at next changes told = tt

found_on : (d e : Option Disk) (o : Option InUse) → Finds d e o → IsTold d → IsTold e
found_on None e o finds told = absurd told
found_on (Some d) None o finds told = absurd (none-some _ finds.0)
found_on (Some d) (Some e) o finds told = tt

sound_told : (e : Option Disk) (state : KeyState) → IsTold e → IfSome e (SoundAs state) → IsSoundAt e state
sound_told None state told sound = absurd told
sound_told (Some e) state told sound = sound

pub starts_safely : (d e f g : Option Disk) (o : Option InUse) (at to : ℕ) (next later : Numbers) (started : Started) → Finds d e o → Changes e f at next
    → Changes f g to later
    → IfSome g (SoundAs started.state) → StartsSafely d g started
starts_safely None e f g o at to next later started finds boots reserves sound = tt
starts_safely (Some d) e f g o at to next later started finds boots reserves sound = λ slot numbers is.
    sound_told g started.state (told_on f g to later reserves (told_on e f at next boots (found_on (Some d) e o finds tt))) sound

-- ---- what a crash leaves meanwhile

pub keeps_open : (d : Option Disk) (p q : Option (List Disk)) → LeavesWithin d p q → KeepsAll d p q
keeps_open None p q leaves file slot numbers told sound = absurd (none-some (still file) told)
keeps_open (Some d) p q leaves file slot numbers told sound =
    since_weaker p q (IsImage d) (Keeps numbers.bound numbers.boot)
    (λ c h. record {
      slot = slot;
      numbers = numbers;
      sound = subst (IsSound slot numbers) (sym (only_image file c (subst (λ (k : Disk). IsImage k c) (same_some d (still file) told) h))) sound;
      bound_kept = omega arith;
      boot_kept = omega arith;
    })
    leaves

-- the state that was opened of a sound file
opened_as : (d e : Option Disk) (opened : KeyState) (file : List ℕ) (slot : Slot) (numbers : Numbers)
    → Finds d e (Some (in_slot opened.slot (numbers_of opened))) → d ≡ Some (still file) → IsSound slot numbers file
    → (e ≡ Some (still file)) × (in_slot opened.slot (numbers_of opened) ≡ in_slot slot numbers)
opened_as None e opened file slot numbers finds told sound = absurd (none-some (still file) told)
opened_as (Some d) e opened file slot numbers finds told sound =
    let bytes : bytes_of d ≡ file = ap bytes_of (same_some d (still file) told) ∙ bytes_of-still file in (
      finds.0 ∙ ap (λ (l : List ℕ). Some (still l)) bytes,
      same_some (in_slot opened.slot (numbers_of opened)) (in_slot slot numbers) (finds.1 ∙ ap in_use bytes ∙ sound.stands),
    )

keeps_on : (p q t : Option (List Disk)) (bound boot : ℕ) (bound_now boot_now : ℕ) → bound ≤ bound_now → boot ≤ boot_now → AllSince p q (Keeps bound boot)
    → AllSince q t (Keeps bound_now boot_now) → AllSince p t (Keeps bound boot)
keeps_on p q t bound boot bound_now boot_now a b before after =
    since_on p q t (Keeps bound boot) before
    (since_weaker q t (Keeps bound_now boot_now) (Keeps bound boot)
    (λ c k. record {
      slot = k.slot;
      numbers = k.numbers;
      sound = k.sound;
      bound_kept = (let h = k.bound_kept in omega (arith, h, a));
      boot_kept =
          (let h = k.boot_kept in omega (arith, h, b));
    }) after)

-- while the boot is taken
pub keeps_boot : (d e : Option Disk) (p q t : Option (List Disk)) (opened : KeyState) → Finds d e (Some (in_slot opened.slot (numbers_of opened)))
    → KeepsAll d p q
    → KeepsMeanwhile e q t opened → KeepsAll d p t
keeps_boot d e p q t opened finds before during file slot numbers told sound =
    let found = opened_as d e opened file slot numbers finds told sound in
    let bound : numbers.bound ≡ opened.bound = ap (λ (u : InUse). u.numbers.bound) (sym found.1) in
    let boot : numbers.boot ≡ opened.boot = ap (λ (u : InUse). u.numbers.boot) (sym found.1) in
    keeps_on p q t numbers.bound numbers.boot opened.bound opened.boot (omega (arith, bound)) (omega (arith, boot)) (before file slot numbers told sound)
    (during file found.0 (subst (λ (u : InUse). IsSound u.slot u.numbers file) (sym found.1) sound))

sound_there : (f : Option Disk) (now : KeyState) (d : Disk) → f ≡ Some d → IfSome f (SoundAs now)
    → (file : List ℕ) × (f ≡ Some (still file)) × IsSound now.slot (numbers_of now) file
sound_there None now d is sound = absurd (none-some d is)
sound_there (Some f) now d is sound = (sound.file, ap (λ (k : Disk). Some k) sound.still, sound.sound)

changes_there : (e f : Option Disk) (at : ℕ) (next : Numbers) (file : List ℕ) → e ≡ Some (still file) → Changes e f at next → (d : Disk) × (f ≡ Some d)
changes_there None f at next file is changes = absurd (none-some (still file) is)
changes_there (Some e) f at next file is changes = (still (changed (bytes_of e) at next), changes)

-- while the indexes are reserved
pub keeps_reserve : (d e f : Option Disk) (p t u : Option (List Disk)) (opened booted : KeyState) (at : ℕ) (next : Numbers)
    → Finds d e (Some (in_slot opened.slot (numbers_of opened)))
    → booted ≡ changed_state opened opened.bound (opened.boot + 1) → Changes e f at next → IfSome f (SoundAs booted) → KeepsAll d p t
    → KeepsMeanwhile f t u booted → KeepsAll d p u
keeps_reserve d e f p t u opened booted at next finds is changes safe before during file slot numbers told sound =
    let found = opened_as d e opened file slot numbers finds told sound in
    let there = changes_there e f at next file found.0 changes in
    let now = sound_there f booted there.0 there.1 safe in
    let bound : numbers.bound ≡ booted.bound = ap (λ (u : InUse). u.numbers.bound) (sym found.1) ∙ sym (ap (λ (s : KeyState). s.bound) is) in
    let boot : numbers.boot + 1 ≡ booted.boot = ap (λ (u : InUse). u.numbers.boot + 1) (sym found.1) ∙ sym (ap (λ (s : KeyState). s.boot) is) in
    keeps_on p t u numbers.bound numbers.boot booted.bound booted.boot (omega (arith, bound)) (omega (arith, boot)) (before file slot numbers told sound)
    (during now.0 now.1 now.2)

-- ---- why there is no start

unformatted : (d e : Option Disk) → Finds d e None → IfSome d (λ disk. in_use (bytes_of disk) ≡ None)
unformatted None e finds = tt
unformatted (Some d) e finds = sym finds.1

pub unopened : (d e : Option Disk) (total : ℕ) (refused : KeyRefused) → IsOpenAnswer {T = Unit {0}} (Err refused) → (refused ≡ Unformatted → Finds d e None)
    → NoStart d total refused
unopened d e total KeeperFault answer finds = tt
unopened d e total Unformatted answer finds = unformatted d e (finds refl)
unopened d e total Formatted answer finds = absurd answer
unopened d e total (Exhausted number) answer finds = absurd answer

spent : (d e : Option Disk) (total : ℕ) (opened : KeyState) → Finds d e (Some (in_slot opened.slot (numbers_of opened))) → AreSpent total (numbers_of opened)
    → IfSome d (IsSpent total)
spent None e total opened finds is = tt
spent (Some d) e total opened finds is = record { found = in_slot opened.slot (numbers_of opened); stood = sym finds.1; spent = is }

-- only the last serial number ends a key file
pub last_serial : (serial number : ℕ) → (if serial == 2 ^ 64 - 1 then Some serial else None) ≡ Some number → serial ≡ 2 ^ 64 - 1
last_serial serial number is = go (serial == 2 ^ 64 - 1) refl is
  where
    go : (t : Bool) → (serial == 2 ^ 64 - 1) ≡ t → (if t then Some serial else None) ≡ Some number → serial ≡ 2 ^ 64 - 1
    go true same e = grind (arith, nat_tests)
    go false other e = absurd (none-some number e)

no_boot : (total number : ℕ) (opened : KeyState) → boot_end opened ≡ Some number → AreSpent total (numbers_of opened)
no_boot total number opened is = go (nat_le (2 ^ 63 - 1) opened.boot) refl is
  where
    go : (t : Bool) → nat_le (2 ^ 63 - 1) opened.boot ≡ t → (if t then Some opened.boot else serial_end opened) ≡ Some number
        → AreSpent total (numbers_of opened)
    go true most e = inl (grind (arith, nat_tests))
    go false less e = inr (inr (let last = last_serial opened.serial number e in omega (arith, last)))

no_index : (total number : ℕ) (opened booted : KeyState) → booted ≡ changed_state opened opened.bound (opened.boot + 1) → reserve_end booted total ≡ Some number
    → AreSpent total (numbers_of opened)
no_index total number opened booted boots is = go (nat_le total booted.bound) refl is
  where
    bound : booted.bound ≡ opened.bound
    bound = ap (λ (s : KeyState). s.bound) boots

    serial : booted.serial ≡ opened.serial + 1
    serial = ap (λ (s : KeyState). s.serial) boots

    go : (t : Bool) → nat_le total booted.bound ≡ t → (if t then Some booted.bound else serial_end booted) ≡ Some number → AreSpent total (numbers_of opened)
    go true most e = inr (inl (let least : total ≤ booted.bound = grind (arith, nat_tests) in omega (arith, least, bound)))
    go false less e = inr (inr (let last = last_serial booted.serial number e in omega (arith, last, serial)))

pub unbooted : (d e : Option Disk) (total : ℕ) (opened : KeyState) (refused : KeyRefused) → Finds d e (Some (in_slot opened.slot (numbers_of opened)))
    → IsChangeAnswer {T = Unit {0}} (boot_end opened) (Err refused) → NoStart d total refused
unbooted d e total opened KeeperFault finds answer = tt
unbooted d e total opened Unformatted finds answer = absurd answer
unbooted d e total opened Formatted finds answer = absurd answer
unbooted d e total opened (Exhausted number) finds answer = spent d e total opened finds (no_boot total number opened answer)

pub unreserved : (d e : Option Disk) (total : ℕ) (opened booted : KeyState) (refused : KeyRefused) → Finds d e (Some (in_slot opened.slot (numbers_of opened)))
    → booted ≡ changed_state opened opened.bound (opened.boot + 1) → IsChangeAnswer {T = Unit {0}} (reserve_end booted total) (Err refused)
    → NoStart d total refused
unreserved d e total opened booted KeeperFault finds boots answer = tt
unreserved d e total opened booted Unformatted finds boots answer = absurd answer
unreserved d e total opened booted Formatted finds boots answer = absurd answer
unreserved d e total opened booted (Exhausted number) finds boots answer = spent d e total opened finds (no_index total number opened booted boots answer)
