-- What one start keeps, and what it leaves.
use Rattle.std.proofs.Common.{◌≡◌, ℕ, ◌+◌, ◌<◌, ◌≤◌, inl, inr, List, [], ◌∷◌, ◌++◌, Some, sym, ap, subst, ◌∙◌, arith}
use Rattle.std.specs.List.{Contains}
use Rattle.sp_lms.specs.declared.param.LmsParam.{LmsParam}
use Rattle.sp_hss.specs.Signer.{Signer}
use Rattle.sp_hss.specs.Uses.{Rising, Signing}
use Rattle.sp_keystate.specs.declared.numbers.Numbers.{Numbers}
use Rattle.sp_keystate.specs.declared.slot.Slot.{Slot}
use Rattle.sp_keystate.specs.declared.slot.InUse.{InUse}
use Rattle.sp_keystate.specs.Slots.{in_slot, in_use, other}
use Rattle.sp_keystate.specs.Soundness.{IsSound, Keeps}
use Rattle.sp_keystate.proofs.Pieces.{same_some}
use Rattle.sp_keystate.proofs.SoundLemmas.{change_keeps, change_sound}
use Rattle.laws_keystate.specs.Starts.{Act, And_then, Begins, Between, Boots, Does, DoesAll, During, Extends, IsChange, Kept, Leaves, Nothing_more, Reserves}
use Rattle.laws_keystate.specs.Starts.{Signs, Standing, boots_of, signings_of, with_boot, with_bound, written}
use Rattle.laws_keystate.specs.Histories.{AllRise}
use Rattle.laws_keystate.proofs.Elements.{first_or_other}

-- between two calls the file is sound, and the signer's bound is reserved
pub record IsWell (s : Standing) : Type 0 where
  pub sound : IsSound s.slot s.numbers s.file
  pub signer : s.signer.index ≤ s.signer.bound
  pub reserved : s.signer.bound ≤ s.numbers.bound

written_well : (old : Standing) (next : Numbers) → IsWell old → IsChange old.numbers next → IsWell (written old next)
written_well old next well change = record {
  sound = change_sound old.slot old.numbers next old.file well.sound.stands change.range (omega (arith, change.serial));
  signer = well.signer;
  reserved = (let a = well.reserved in let b = change.bound in omega (arith, a, b));
}

pub does_well : (old new : Standing) (act : Act) → IsWell old → Does old act new → IsWell new
does_well old new (Boots boot) well does = subst IsWell (sym does.2) (written_well old (with_boot old.numbers boot) well does.1)
does_well old new (Reserves bound) well does = subst IsWell (sym does.1) (written_well old (with_bound old.numbers bound) well does.0)
does_well old new (Extends upto) well does =
    subst IsWell (sym does.2) (record { sound = well.sound; signer = (let a = well.signer in let b = does.0 in omega (arith, a, b)); reserved = does.1 })
does_well old new (Signs index message) well does =
    subst IsWell (sym does.2) (record { sound = well.sound; signer = (let a = does.0 in let b = does.1 in omega (arith, a, b)); reserved = well.reserved })

-- neither number falls
pub record NoLower (old new : Standing) : Type 0 where
  pub bound : old.numbers.bound ≤ new.numbers.bound
  pub boot : old.numbers.boot ≤ new.numbers.boot

does_no_lower : (old new : Standing) (act : Act) → Does old act new → NoLower old new
does_no_lower old new (Boots boot) does = subst (NoLower old) (sym does.2) (record { bound = does.1.bound; boot = does.1.boot })
does_no_lower old new (Reserves bound) does = subst (NoLower old) (sym does.1) (record { bound = does.0.bound; boot = does.0.boot })
does_no_lower old new (Extends upto) does = subst (NoLower old) (sym does.2) (record { bound = omega arith; boot = omega arith })
does_no_lower old new (Signs index message) does = subst (NoLower old) (sym does.2) (record { bound = omega arith; boot = omega arith })

pub all_well : (old new : Standing) (acts : List Act) → IsWell old → DoesAll old acts new → IsWell new
all_well old new acts well (Nothing_more s) = well
all_well old new acts well (And_then s between t act rest does more) = all_well between new rest (does_well old between act well does) more

pub all_no_lower : (old new : Standing) (acts : List Act) → DoesAll old acts new → NoLower old new
all_no_lower old new acts (Nothing_more s) = record { bound = omega arith; boot = omega arith }
all_no_lower old new acts (And_then s between t act rest does more) =
    let a = does_no_lower old between act does in
    let b = all_no_lower between new rest more in
    record { bound = omega (arith, a.bound, b.bound); boot = omega (arith, a.boot, b.boot) }

-- ---- how it begins, and what it leaves

-- a file has one state
same_state : (file : List ℕ) (u v : InUse) → in_use file ≡ Some u → in_use file ≡ Some v → u ≡ v
same_state file u v one other = same_some u v (sym one ∙ other)

pub begins_as : (height : LmsParam) (seed found : List ℕ) (begin : Standing) (slot : Slot) (numbers : Numbers) → Begins height seed found begin
    → IsSound slot numbers found
    → in_slot begin.slot begin.numbers ≡ in_slot slot numbers
begins_as height seed found begin slot numbers begins sound =
    same_state found (in_slot begin.slot begin.numbers) (in_slot slot numbers) begins.opens sound.stands

pub begins_well : (height : LmsParam) (seed found : List ℕ) (begin : Standing) (slot : Slot) (numbers : Numbers) → Begins height seed found begin
    → IsSound slot numbers found → IsWell begin
begins_well height seed found begin slot numbers begins sound = record {
  sound = subst (λ (u : InUse). IsSound u.slot u.numbers begin.file) (sym (begins_as height seed found begin slot numbers begins sound))
      (subst (IsSound slot numbers) (sym begins.file) sound);
  signer = (let a = index in let b = bound in omega (arith, a, b));
  reserved = (let b = bound in omega (arith, b));
}
  where
    index : begin.signer.index ≡ begin.numbers.bound
    index = ap (λ (s : Signer). s.index) begins.signer

    bound : begin.signer.bound ≡ begin.numbers.bound
    bound = ap (λ (s : Signer). s.bound) begins.signer

pub leaves_keep : (end : Standing) (left : List ℕ) → IsWell end → Leaves end left → Keeps end.numbers.bound end.numbers.boot left
leaves_keep end left well (Between is) =
    record {
      slot = end.slot;
      numbers = end.numbers;
      sound = subst (IsSound end.slot end.numbers) (sym is) well.sound;
      bound_kept = omega arith;
      boot_kept =
          omega arith;
    }
leaves_keep end left well (During next change may) =
    change_keeps end.slot end.numbers next end.file left well.sound change.range
    (record { serial = omega (arith, change.serial); bound = change.bound; boot = change.boot }) may
leaves_keep end left well (Kept keeps) = keeps

-- ---- what it signs

pub rising_from : (low high : ℕ) (ss : List Signing) → low ≤ high → Rising high ss → Rising low ss
rising_from low high [] up rises = tt
rising_from low high (s ∷ ss) up rises = (omega (arith, up, rises.0), rises.1)

-- one act more in front
rise_on : (old between : Standing) (act : Act) (rest : List Act) (later : List Signing) → Does old act between
    → Rising between.signer.index (signings_of rest ++ later)
    → Rising old.signer.index (signings_of (act ∷ rest) ++ later)
rise_on old between (Boots boot) rest later d next = subst (λ (z : Standing). Rising z.signer.index (signings_of rest ++ later)) d.2 next
rise_on old between (Reserves bound) rest later d next = subst (λ (z : Standing). Rising z.signer.index (signings_of rest ++ later)) d.1 next
rise_on old between (Extends upto) rest later d next = subst (λ (z : Standing). Rising z.signer.index (signings_of rest ++ later)) d.2 next
rise_on old between (Signs index message) rest later d next =
    let here : Rising (old.signer.index + 1) (signings_of rest ++ later) =
    subst (λ (z : Standing). Rising z.signer.index (signings_of rest ++ later)) d.2 next in
    ((let a = d.0 in omega (arith, a)), subst (λ (n : ℕ). Rising (n + 1) (signings_of rest ++ later)) (sym d.0) here)

-- its indexes rise, and those of what comes after it, from what is reserved at its end on
pub all_rise : (old new : Standing) (acts : List Act) (later : List Signing) → IsWell old → DoesAll old acts new → Rising new.numbers.bound later
    → Rising old.signer.index (signings_of acts ++ later)
all_rise old new acts later well (Nothing_more s) rises =
    rising_from s.signer.index s.numbers.bound later (let a = well.signer in let b = well.reserved in omega (arith, a, b)) rises
all_rise old new acts later well (And_then s between t act rest does more) rises =
    rise_on s between act rest later does (all_rise between t rest later (does_well s between act well does) more rises)

abbrev IsBetween : Standing → Standing → Signing → Type 0
IsBetween old new signing = (old.signer.index ≤ signing.index) × (signing.index < new.numbers.bound)

within_on : (old between new : Standing) (act : Act) (rest : List Act) (signing : Signing) → IsWell old → NoLower between new → Does old act between
    → (Contains (signings_of rest) signing → IsBetween between new signing) → Contains (signings_of (act ∷ rest)) signing → IsBetween old new signing
within_on old between new (Boots boot) rest signing well kept d later c = subst (λ (z : Standing). IsBetween z new signing) d.2 (later c)
within_on old between new (Reserves bound) rest signing well kept d later c = subst (λ (z : Standing). IsBetween z new signing) d.1 (later c)
within_on old between new (Extends upto) rest signing well kept d later c = subst (λ (z : Standing). IsBetween z new signing) d.2 (later c)
within_on old between new (Signs index message) rest signing well kept d later c =
    elim (first_or_other (record { index = index; message = message }) (signings_of rest) signing c) [
      | inl is ↦
          let number : index ≡ signing.index = ap (λ (x : Signing). x.index) is in
          let bound : between.numbers.bound ≡ old.numbers.bound = ap (λ (z : Standing). z.numbers.bound) d.2 in
          let reserved = well.reserved in
          let below = d.1 in
          let start = d.0 in
          (omega (arith, number, start), omega (arith, number, below, reserved, bound, kept.bound))
      | inr other_one ↦
          let of_rest = later other_one in
          let first : between.signer.index ≡ old.signer.index + 1 = ap (λ (z : Standing). z.signer.index) d.2 in
          let low = of_rest.0 in
          (omega (arith, low, first), of_rest.1)
    ]

-- each index is above the first, and below what is reserved at its end
pub all_within : (old new : Standing) (acts : List Act) → IsWell old → DoesAll old acts new → (signing : Signing) → Contains (signings_of acts) signing
    → IsBetween old new signing
all_within old new acts well (Nothing_more s) signing one = absurd (omega (arith, one.1))
all_within old new acts well (And_then s between t act rest does more) signing one =
    within_on s between t act rest signing well (all_no_lower between t rest more) does
    (all_within between t rest (does_well s between act well does) more signing) one

-- ---- its boots

pub rise_from : (low high : ℕ) (ns : List ℕ) → low ≤ high → AllRise high ns → AllRise low ns
rise_from low high [] up rises = tt
rise_from low high (n ∷ ns) up rises = (omega (arith, up, rises.0), rises.1)

boots_on : (old between : Standing) (act : Act) (rest : List Act) (later : List ℕ) → Does old act between
    → AllRise between.numbers.boot (boots_of rest ++ later)
    → AllRise old.numbers.boot (boots_of (act ∷ rest) ++ later)
boots_on old between (Boots boot) rest later d next =
    let above = d.0 in
    let taken : between.numbers.boot ≡ boot = ap (λ (z : Standing). z.numbers.boot) d.2 in
    (omega (arith, above), subst (λ (n : ℕ). AllRise n (boots_of rest ++ later)) taken next)
boots_on old between (Reserves bound) rest later d next = subst (λ (z : Standing). AllRise z.numbers.boot (boots_of rest ++ later)) d.1 next
boots_on old between (Extends upto) rest later d next = subst (λ (z : Standing). AllRise z.numbers.boot (boots_of rest ++ later)) d.2 next
boots_on old between (Signs index message) rest later d next = subst (λ (z : Standing). AllRise z.numbers.boot (boots_of rest ++ later)) d.2 next

pub boots_rise : (old new : Standing) (acts : List Act) (later : List ℕ) → DoesAll old acts new → AllRise new.numbers.boot later
    → AllRise old.numbers.boot (boots_of acts ++ later)
boots_rise old new acts later (Nothing_more s) rises = rises
boots_rise old new acts later (And_then s between t act rest does more) rises =
    boots_on s between act rest later does (boots_rise between t rest later more rises)
