-- What holds over starts one after another.
use Rattle.std.proofs.Common.{◌≡◌, ℕ, ◌<◌, ◌≤◌, inl, inr, List, [], ◌∷◌, ◌++◌, sym, ap, subst, ◌∙◌, arith}
use Rattle.std.specs.List.{Contains}
use Rattle.sp_lms.specs.declared.param.LmsParam.{LmsParam}
use Rattle.sp_hss.specs.Signer.{Signer}
use Rattle.sp_hss.specs.Uses.{Rising, Signing}
use Rattle.sp_hss.proofs.Uses.{one_message, upper_leaf}
use Rattle.sp_keystate.specs.declared.numbers.Numbers.{Numbers}
use Rattle.sp_keystate.specs.declared.slot.Slot.{Slot}
use Rattle.sp_keystate.specs.declared.slot.Slot.TheVariants.{First}
use Rattle.sp_keystate.specs.declared.slot.InUse.{InUse}
use Rattle.sp_keystate.specs.Soundness.{IsSound, Keeps}
use Rattle.sp_keystate.specs.States.{first_numbers}
use Rattle.sp_keystate.proofs.SoundLemmas.{format_sound}
use Rattle.laws_keystate.specs.Starts.{boots_of, signings_of}
use Rattle.laws_keystate.specs.Histories.{AllRise, FollowOn, IsSomeSound, IsStart, Start, boots_in, formatted, signings_in}
use Rattle.laws_keystate.specs.Laws.{AStartSignsWhatItReserved, AnUpperLeafSignsOneKey, BootsRise, EveryFileIsSound, IndexesRise, NoIndexSignsTwoMessages}
use Rattle.laws_keystate.specs.Laws.{NoKeySignsTwoMessages}
use Rattle.laws_keystate.proofs.Elements.{first_or_other, once}
use Rattle.laws_keystate.proofs.StartLemmas.{IsWell, all_rise, all_well, all_within, begins_as, begins_well, boots_rise, leaves_keep, rise_from, rising_from}

ends_well : (height : LmsParam) (seed found : List ℕ) (start : Start) (slot : Slot) (numbers : Numbers) → IsSound slot numbers found
    → IsStart height seed found start → IsWell start.end
ends_well height seed found start slot numbers sound is =
    all_well start.begin start.end start.acts (begins_well height seed found start.begin slot numbers is.begins sound) is.does

-- what it leaves is sound and has no lower numbers than it had at its end
pub left_keeps : (height : LmsParam) (seed found : List ℕ) (start : Start) (slot : Slot) (numbers : Numbers) → IsSound slot numbers found
    → IsStart height seed found start
    → Keeps start.end.numbers.bound start.end.numbers.boot start.left
left_keeps height seed found start slot numbers sound is = leaves_keep start.end start.left (ends_well height seed found start slot numbers sound is) is.leaves

-- ---- the files

files_sound : (height : LmsParam) (seed found : List ℕ) (starts : List Start) (slot : Slot) (numbers : Numbers) → IsSound slot numbers found
    → FollowOn height seed found starts
    → (start : Start) → Contains starts start → IsSomeSound start.left
files_sound height seed found [] slot numbers sound follow start one = absurd (omega (arith, one.1))
files_sound height seed found (first ∷ starts) slot numbers sound follow start one =
    let keeps = left_keeps height seed found first slot numbers sound follow.0 in
    elim (first_or_other first starts start one) [
      | inl is ↦ subst (λ (s : Start). IsSomeSound s.left) is (record { slot = keeps.slot; numbers = keeps.numbers; sound = keeps.sound })
      | inr later ↦ files_sound height seed first.left starts keeps.slot keeps.numbers keeps.sound follow.1 start later
    ]

pub every_file_is_sound : EveryFileIsSound
every_file_is_sound height seed starts history =
    (record { slot = First; numbers = first_numbers; sound = format_sound }, files_sound height seed formatted starts First first_numbers format_sound history)

-- ---- the indexes

first_index : (height : LmsParam) (seed found : List ℕ) (start : Start) (slot : Slot) (numbers : Numbers) → IsSound slot numbers found
    → IsStart height seed found start → start.begin.signer.index ≡ numbers.bound
first_index height seed found start slot numbers sound is =
    ap (λ (s : Signer). s.index) is.begins.signer ∙ ap (λ (u : InUse). u.numbers.bound) (begins_as height seed found start.begin slot numbers is.begins sound)

indexes_from : (height : LmsParam) (seed found : List ℕ) (starts : List Start) (slot : Slot) (numbers : Numbers) → IsSound slot numbers found
    → FollowOn height seed found starts
    → Rising numbers.bound (signings_in starts)
indexes_from height seed found [] slot numbers sound follow = tt
indexes_from height seed found (start ∷ starts) slot numbers sound follow =
    let keeps = left_keeps height seed found start slot numbers sound follow.0 in
    let later = indexes_from height seed start.left starts keeps.slot keeps.numbers keeps.sound follow.1 in
    subst (λ (n : ℕ). Rising n (signings_of start.acts ++ signings_in starts)) (first_index height seed found start slot numbers sound follow.0)
    (all_rise start.begin start.end start.acts (signings_in starts) (begins_well height seed found start.begin slot numbers follow.0.begins sound) follow.0.does
    (rising_from start.end.numbers.bound keeps.numbers.bound (signings_in starts) keeps.bound_kept later))

pub indexes_rise : IndexesRise
indexes_rise height seed starts history = indexes_from height seed formatted starts First first_numbers format_sound history

pub no_index_twice : NoIndexSignsTwoMessages
no_index_twice height seed starts history a b one other same =
    ap (λ (s : Signing). s.message) (once 0 (signings_in starts) a b (indexes_rise height seed starts history) one other same)

pub no_key_twice : NoKeySignsTwoMessages
no_key_twice height seed starts history = one_message height seed (signings_in starts) (indexes_rise height seed starts history)

pub one_key : AnUpperLeafSignsOneKey
one_key height seed starts history = upper_leaf height seed (signings_in starts)

-- ---- what was reserved

reserved_in : (height : LmsParam) (seed found : List ℕ) (starts : List Start) (slot : Slot) (numbers : Numbers) → IsSound slot numbers found
    → FollowOn height seed found starts
    → (start : Start) → Contains starts start → (signing : Signing) → Contains (signings_of start.acts) signing
    → (start.begin.numbers.bound ≤ signing.index) × (signing.index < start.end.numbers.bound)
reserved_in height seed found [] slot numbers sound follow start one signing signed = absurd (omega (arith, one.1))
reserved_in height seed found (first ∷ starts) slot numbers sound follow start one signing signed =
    let keeps = left_keeps height seed found first slot numbers sound follow.0 in
    elim (first_or_other first starts start one) [
      | inl is ↦
          let begin_is : first.begin.signer.index ≡ first.begin.numbers.bound = ap (λ (s : Signer). s.index) follow.0.begins.signer in
          let within =
          all_within first.begin first.end first.acts (begins_well height seed found first.begin slot numbers follow.0.begins sound) follow.0.does signing
          (subst (λ (s : Start). Contains (signings_of s.acts) signing) (sym is) signed) in
          subst (λ (s : Start). (s.begin.numbers.bound ≤ signing.index) × (signing.index < s.end.numbers.bound)) is
          (subst (λ (n : ℕ). n ≤ signing.index) begin_is within.0, within.1)
      | inr later ↦ reserved_in height seed first.left starts keeps.slot keeps.numbers keeps.sound follow.1 start later signing signed
    ]

pub signs_what_it_reserved : AStartSignsWhatItReserved
signs_what_it_reserved height seed starts history = reserved_in height seed formatted starts First first_numbers format_sound history

-- ---- the boots

boots_from : (height : LmsParam) (seed found : List ℕ) (starts : List Start) (slot : Slot) (numbers : Numbers) → IsSound slot numbers found
    → FollowOn height seed found starts → AllRise numbers.boot (boots_in starts)
boots_from height seed found [] slot numbers sound follow = tt
boots_from height seed found (start ∷ starts) slot numbers sound follow =
    let keeps = left_keeps height seed found start slot numbers sound follow.0 in
    let later = boots_from height seed start.left starts keeps.slot keeps.numbers keeps.sound follow.1 in
    subst (λ (u : InUse). AllRise u.numbers.boot (boots_of start.acts ++ boots_in starts))
    (begins_as height seed found start.begin slot numbers follow.0.begins sound)
    (boots_rise start.begin start.end start.acts (boots_in starts) follow.0.does
    (rise_from start.end.numbers.boot keeps.numbers.boot (boots_in starts) keeps.boot_kept later))

pub boots_rise_in : BootsRise
boots_rise_in height seed starts history = boots_from height seed formatted starts First first_numbers format_sound history
