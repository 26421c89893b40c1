-- Indexes and the key file over the parts of a turn, and over turns.
use Rattle.std.proofs.Common.{◌≡◌, ℕ, ◌+◌, ◌-◌, ◌≤◌, ◌<◌, min, Bool, true, false, List, [], ◌∷◌, Option, None, Some, Result, Ok, Err, refl, sym, ap, subst, ◌∙◌}
use Rattle.std.proofs.Common.{arith, inl, inr}
use Rattle.std.specs.Prelude.{◌&&◌, ◌^◌, if◌then◌else◌, nat_lt, nat_le, IfSome}
use Rattle.std.proofs.lemmas.Bool.Decides.{nat_tests}
use Rattle.std.proofs.lemmas.Option.{none-some}
use Rattle.sp_keystate.proofs.StartingLemmas.{last_serial}
use Rattle.sp_keystate.proofs.Since.{since_none, since_on, since_weaker}
use Rattle.sp_keystate.specs.Changes.{Changes}
use Rattle.sp_keystate.specs.Soundness.{Keeps}
use Rattle.sp_keystate.specs.Slots.{other, place}
use Rattle.sp_keystate.specs.States.{HasFaultCause, IsChangeAnswer, IsSoundAt, KeepsMeanwhile, SoundAs, StandsFor, changed_state, next_numbers, reserve_end}
use Rattle.sp_keystate.specs.States.{serial_end}
use Rattle.sp_keystate.specs.declared.key_state.KeyState.{KeyState}
use Rattle.sp_keystate.specs.declared.refused.KeyRefused.{KeyRefused}
use Rattle.sp_keystate.specs.declared.refused.KeyRefused.TheVariants.{KeeperFault, Unformatted, Formatted, Exhausted}
use Rattle.sp_keystate.specs.declared.numbers.Numbers.{Numbers}
use Rattle.sp_keystate.specs.declared.starts.TheConstants.{RESERVED}
use Rattle.sp_outside.specs.Disk.{Disk}
use Rattle.sp_recording.specs.declared.line.Line.TheVariants as lines
use Rattle.sp_service_turns.specs.Done.{Gets, Restocked}
use Rattle.sp_service_turns.specs.Early.{EarlyRestock, GetsFront, IfBroken}
use Rattle.sp_service_turns.specs.Indexes.{AreReserved, HaveLeft, UsesAtMost, are_few, next_bound, reserved_by}
use Rattle.sp_service_turns.specs.Inputs.{Reserve, Steps}
use Rattle.sp_service_turns.specs.Keys.{HoldsKeys, IfKeysEnd, IfKeysEndBy, IsEnd, KeepsKeys, KeysGoOn, NoMore, Reserves}
use Rattle.sp_service_turns.specs.Outside.{KeptFile, Text}
use Rattle.sp_service_turns.specs.declared.ended.Ended.{Ended}
use Rattle.sp_service_turns.specs.declared.ended.Ended.TheVariants as ended
use Rattle.sp_service_turns.specs.declared.indexes.Indexes.{Indexes}
use Rattle.sp_service_turns.proofs.TextLemmas.{gets_itself}

-- ---- indexes

enough : (i : Indexes) → are_few i ≡ false → HaveLeft 4 i
enough i is = go (nat_lt (i.bound - i.index) 4) refl is
  where
    go : (t : Bool) → nat_lt (i.bound - i.index) 4 ≡ t → (t && nat_lt i.bound i.total) ≡ false → HaveLeft 4 i
    go false many e = inl (grind (arith, nat_tests))
    go true few e = inr (grind (arith, nat_tests))

below : (i : Indexes) → are_few i ≡ true → i.bound < i.total
below i is = go (nat_lt (i.bound - i.index) 4) is
  where
    go : (t : Bool) → (t && nat_lt i.bound i.total) ≡ true → i.bound < i.total
    go true e = grind (arith, nat_tests)
    go false e = absurd (cc)

not_due : (i : Indexes) → are_few i ≡ false → None ≡ reserved_by i
not_due i is = sym (ap (λ (t : Bool). if t then Some (next_bound i) else None) is)

due : (i : Indexes) → are_few i ≡ true → Some (next_bound i) ≡ reserved_by i
due i is = sym (ap (λ (t : Bool). if t then Some (next_bound i) else None) is)

forward : (b n t : ℕ) → b < t → b ≤ min (b + n) t
forward b n t less = grind (arith, less)

capped : (b n t : ℕ) → min (b + n) t ≤ t
capped b n t = grind arith

stocked : (i j : Indexes) → i.index ≤ i.bound → i.bound < i.total → AreReserved i (next_bound i) j → HaveLeft 4 j
stocked i j ordered less reserved =
    let is : j ≡ record i { bound = next_bound i } = reserved (forward i.bound 32 i.total less) (capped i.bound 32 i.total) in
    subst (HaveLeft 4) (sym is) (go (nat_lt (i.bound + 32) i.total) refl)
  where
    go : (t : Bool) → nat_lt (i.bound + 32) i.total ≡ t → HaveLeft 4 (record i { bound = next_bound i })
    go true e = inl (grind (arith, nat_tests, ordered))
    go false e = inr (grind (arith, nat_tests))

pub left_after : (used n : ℕ) (i j : Indexes) → UsesAtMost used i j → HaveLeft (used + n) i → HaveLeft n j
left_after used n i j uses (inl left) = inl (omega (arith, left, uses.index, uses.bound))
left_after used n i j uses (inr all) = inr (omega (arith, all, uses.bound, uses.total))

pub left_less : (n : ℕ) (i : Indexes) → HaveLeft (n + 1) i → HaveLeft n i
left_less n i (inl left) = inl (omega (arith, left))
left_less n i (inr all) = inr all

-- ---- the key file over calls

pub unchanged : (told : Option Disk) (keys : KeyState) → KeysGoOn keys keys told told
unchanged told keys = record { bound = omega arith; boot = omega arith; sound = λ s. s }

pub kept_none : (keys : KeyState) (told : Option Disk) (past : Option (List Disk)) → KeepsKeys keys told past past
kept_none keys told past sound = since_none past (Keeps keys.bound keys.boot)

pub kept_by : (keys : KeyState) (told : Option Disk) (past now : Option (List Disk)) → KeepsMeanwhile told past now keys → KeepsKeys keys told past now
kept_by keys None past now meanwhile sound = absurd sound
kept_by keys (Some d) past now meanwhile sound = meanwhile sound.file (ap (λ (k : Disk). Some k) sound.still) sound.sound

-- ---- a reserve, or none

pub if_broken : {T : Type 0} {P : Type 0} (r : Result T Ended) → P → IfBroken r P
if_broken (Ok x) h = tt
if_broken (Err ended.Sink) h = h
if_broken (Err ended.Memory) h = h
if_broken (Err (ended.Keys refused)) h = tt

pub restocked_none : {N : Type 0} (steps : Steps N) (indexes : N → Indexes) (n : N) (keys : KeyState) (file : KeptFile) (b : Text) (i : Indexes) → i ≡ indexes n
    → are_few i ≡ false
    → Restocked steps indexes n n keys keys file file b b
restocked_none steps indexes n keys file b i is few =
    let here : are_few (indexes n) ≡ false = subst (λ (j : Indexes). are_few j ≡ false) is few in
    record { reserved = None; due = not_due (indexes n) here; step = refl; left = enough (indexes n) here; text = gets_itself b; keys = refl; file = refl }

abbrev kept_file : Option Disk → Option (List Disk) → ℕ → KeptFile
kept_file disk past faults = record { disk = disk; past = past; faults = faults }

-- a reserve from the bound of a node that has few left, as the node sees it
module _ (i at : Indexes) (keys new : KeyState) (upto : ℕ) (is : i ≡ at) (same : keys.bound ≡ at.bound) (bound : upto ≡ min (keys.bound + RESERVED) i.total)
    (few : are_few i ≡ true) (changed : new ≡ changed_state keys (min (keys.bound + RESERVED) i.total) keys.boot) where
  few_here : are_few at ≡ true
  few_here = subst (λ (j : Indexes). are_few j ≡ true) is few

  next_here : upto ≡ next_bound at
  next_here = bound ∙ ap (λ (n : ℕ). min (n + RESERVED) i.total) same ∙ ap (λ (j : Indexes). min (at.bound + RESERVED) j.total) is

  pub due_here : Some upto ≡ reserved_by at
  due_here = ap (λ (u : ℕ). Some u) next_here ∙ due at few_here

  new_is : new ≡ changed_state keys upto keys.boot
  new_is = changed ∙ ap (λ (u : ℕ). changed_state keys u keys.boot) (sym bound)

  pub reserves : (d0 d1 : Option Disk) (p0 p1 : Option (List Disk)) (f0 f1 : ℕ)
      → Changes d0 d1 (place (other keys.slot)) (next_numbers keys (min (keys.bound + RESERVED) i.total) keys.boot)
      → KeepsMeanwhile d0 p0 p1 keys → IfSome d1 (SoundAs new) → f1 ≡ f0 → Reserves keys upto (kept_file d0 p0 f0) (kept_file d1 p1 f1)
  reserves d0 d1 p0 p1 f0 f1 changes meanwhile sound faultless = record {
    change = subst (λ (u : ℕ). Changes d0 d1 (place (other keys.slot)) (next_numbers keys u keys.boot)) (sym bound) changes;
    kept = kept_by keys d0 p0 p1 meanwhile;
    sound = subst (λ (k : KeyState). IfSome d1 (SoundAs k)) new_is sound;
    faultless = faultless;
  }

  pub restocked_some : {N : Type 0} (steps : Steps N) (indexes : N → Indexes) (before after : N) (file_before file_after : KeptFile) (b0 b1 : Text)
      → at ≡ indexes before → i.index ≤ i.bound
      → steps before (Reserve upto) [] after → AreReserved at upto (indexes after) → Gets b0 b1 (lines.Reserve upto ∷ [])
      → Reserves keys upto file_before file_after
      → Restocked steps indexes before after keys new file_before file_after b0 b1
  restocked_some steps indexes before after file_before file_after b0 b1 here ordered step reserved text file =
      let order : at.index ≤ at.bound = subst (λ (j : Indexes). j.index ≤ j.bound) is ordered in
      record {
        reserved = Some upto;
        due = due_here ∙ ap reserved_by here;
        step = step;
        left = stocked at (indexes after) order (below at few_here) (subst (λ (u : ℕ). AreReserved at u (indexes after)) next_here reserved);
        text = text;
        keys = new_is;
        file = file;
      }

-- the file was changed, and the line that tells it may not have been written
pub early_restock : {N : Type 0} {T : Type 0} (steps : Steps N) (indexes : N → Indexes) (before after : N) (keys : KeyState) (upto : ℕ)
    (file_before file_after : KeptFile) (b0 b1 : Text) (r : Result T Ended)
    → Some upto ≡ reserved_by (indexes before) → steps before (Reserve upto) [] after → Reserves keys upto file_before file_after
    → GetsFront b0 b1 (lines.Reserve upto ∷ [])
    → IfBroken r (EarlyRestock steps indexes before keys file_before file_after b0 b1)
early_restock steps indexes before after keys upto file_before file_after b0 b1 r due step file text =
    if_broken r (record { upto = upto; due = due; new = after; step = step; file = file; text = text })

-- ---- the key file

sound_after : (keys : KeyState) (before after : Option Disk) (at : ℕ) (next : Numbers) (old : KeyState) → Changes before after at next
    → IfSome after (SoundAs keys)
    → IsSoundAt before old → IsSoundAt after keys
sound_after keys None after at next old changes there sound = absurd sound
sound_after keys (Some d) None at next old changes there sound = absurd (none-some _ changes)
sound_after keys (Some d) (Some e) at next old changes there sound = there

pub reserved_on : (old new : KeyState) (before after : Option Disk) (at n total : ℕ) (next : Numbers) → old.bound < total
    → new ≡ changed_state old (min (old.bound + n) total) old.boot → Changes before after at next → IfSome after (SoundAs new) → KeysGoOn old new before after
reserved_on old new before after at n total next less is changes there =
    let bound : new.bound ≡ min (old.bound + n) total = ap (λ (s : KeyState). s.bound) is in
    let boot : new.boot ≡ old.boot = ap (λ (s : KeyState). s.boot) is in
    record {
      bound = omega (arith, bound, forward old.bound n total less);
      boot = omega (arith, boot);
      sound = sound_after new before after at next old changes there;
    }

pub reserved_held : (told : Option Disk) (old new : KeyState) (i j : Indexes) (upto : ℕ) → StandsFor told new → old.bound ≡ i.bound → are_few i ≡ true
    → upto ≡ min (old.bound + RESERVED) i.total → new ≡ changed_state old upto old.boot → new.serial < 2 ^ 64 → AreReserved i upto j → HoldsKeys told new j
reserved_held told old new i j upto stands same few upto_is is numbered reserved =
    let b : upto ≡ next_bound i = upto_is ∙ ap (λ (n : ℕ). min (n + RESERVED) i.total) same in
    let less = below i few in
    let at : j ≡ record i { bound = upto } = reserved (subst (λ (u : ℕ). i.bound ≤ u) (sym b) (forward i.bound RESERVED i.total less))
    (subst (λ (u : ℕ). u ≤ i.total) (sym b) (capped i.bound RESERVED i.total)) in
    record { stands = stands; bound = ap (λ (s : KeyState). s.bound) is ∙ sym (ap (λ (k : Indexes). k.bound) at); serial = numbered }

pub less_than_total : (keys : KeyState) (i : Indexes) → keys.bound ≡ i.bound → are_few i ≡ true → keys.bound < i.total
less_than_total keys i same few = let less = below i few in omega (arith, same, less)

pub held_on : (told : Option Disk) (keys : KeyState) (used : ℕ) (i j : Indexes) → HoldsKeys told keys i → UsesAtMost used i j → HoldsKeys told keys j
held_on told keys used i j held uses = record { stands = held.stands; bound = held.bound ∙ sym uses.bound; serial = held.serial }

pub on_again : (a b c : KeyState) (t u v : Option Disk) → KeysGoOn a b t u → KeysGoOn b c u v → KeysGoOn a c t v
on_again a b c t u v before after = record {
  bound = omega (arith, before.bound, after.bound);
  boot = omega (arith, before.boot, after.boot);
  sound = λ s. after.sound (before.sound s);
}

pub kept_on : (a b : KeyState) (t u : Option Disk) (p q r : Option (List Disk)) → KeysGoOn a b t u → KeepsKeys a t p q → KeepsKeys b u q r → KeepsKeys a t p r
kept_on a b t u p q r on before after sound =
    since_on p q r (Keeps a.bound a.boot) (before sound)
    (since_weaker q r (Keeps b.bound b.boot) (Keeps a.bound a.boot)
    (λ c k. record {
      slot = k.slot;
      numbers = k.numbers;
      sound = k.sound;
      bound_kept = (let h = k.bound_kept in omega (arith, h, on.bound));
      boot_kept = (let h = k.boot_kept in omega (arith, h, on.boot));
    })
    (after (on.sound sound)))

pub keys_end_on : (T U : Type 0) (e : Ended) (P : Type 0) (Q R : KeyRefused → Type 0) → ((refused : KeyRefused) → P → Q refused → R refused)
    → IfKeysEnd {T = T} (Err e) P → IfKeysEndBy {T = T} (Err e) Q → IfKeysEndBy {T = U} (Err e) R
keys_end_on T U (ended.Keys refused) P Q R go h by = go refused h by
keys_end_on T U ended.Sink P Q R go h by = tt
keys_end_on T U ended.Memory P Q R go h by = tt

-- ---- why there are no more indexes

at_end : (keys : KeyState) (total : ℕ) (refused : KeyRefused) → keys.bound < total → IsChangeAnswer {T = Unit {0}} (reserve_end keys total) (Err refused)
    → IsEnd keys.serial refused
at_end keys total KeeperFault less answer = tt
at_end keys total Unformatted less answer = absurd answer
at_end keys total Formatted less answer = absurd answer
at_end keys total (Exhausted number) less answer = go (nat_le total keys.bound) refl answer
  where
    go : (t : Bool) → nat_le total keys.bound ≡ t → (if t then Some keys.bound else serial_end keys) ≡ Some number → keys.serial ≡ 2 ^ 64 - 1
    go true most e = let least : total ≤ keys.bound = grind (arith, nat_tests) in absurd (omega (arith, less, least))
    go false few e = last_serial keys.serial number e

pub no_more : (keys : KeyState) (i at : Indexes) (refused : KeyRefused) (d0 d1 : Option Disk) (p0 p1 : Option (List Disk)) (f0 f1 : ℕ) → i ≡ at
    → keys.bound ≡ at.bound → are_few i ≡ true
    → IsChangeAnswer {T = Unit {0}} (reserve_end keys i.total) (Err refused) → KeepsMeanwhile d0 p0 p1 keys → HasFaultCause {T = Unit {0}} f0 f1 (Err refused)
    → NoMore at keys refused (kept_file d0 p0 f0) (kept_file d1 p1 f1)
no_more keys i at refused d0 d1 p0 p1 f0 f1 is same few answer meanwhile faults = record {
  due = subst (λ (j : Indexes). are_few j ≡ true) is few;
  end = at_end keys i.total refused (less_than_total keys i (same ∙ sym (ap (λ (j : Indexes). j.bound) is)) few) answer;
  kept = kept_by keys d0 p0 p1 meanwhile;
  faults = faults;
}

pub ruleset kept_or_spent = (unchanged, kept_none, kept_by, no_more)
