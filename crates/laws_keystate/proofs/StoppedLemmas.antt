-- A run of a daemon, stopped, as one start of a history; and runs one after another.
use Rattle.std.proofs.Common.{◌≡◌, ℕ, zero, suc, ◌<◌, ◌≤◌, List, [], ◌∷◌, ◌++◌, length, Option, None, Some, refl, sym, ap, subst, ◌∙◌, arith}
use Rattle.std.specs.List.{AllByRecursion}
use Rattle.std.specs.Prelude.{◌^◌, IfSome, slice_get}
use Rattle.std.proofs.lemmas.Option.{none-some}
use Rattle.sp_hss.specs.Uses.{Rising, Signing}
use Rattle.sp_lms.specs.declared.param.LmsParam.{LmsParam}
use Rattle.sp_lms.specs.declared.param.LmsParam.TheVariants.{H5}
use Rattle.sp_keystate.specs.Soundness.{IsSound, Keeps}
use Rattle.sp_keystate.specs.States.{IsSoundAt, SoundAs, changed_state, first_numbers, numbers_of}
use Rattle.sp_keystate.specs.declared.key_state.KeyState.{KeyState}
use Rattle.sp_keystate.specs.declared.numbers.Numbers.{Numbers}
use Rattle.sp_keystate.specs.declared.slot.Slot.{Slot}
use Rattle.sp_keystate.specs.declared.slot.Slot.TheVariants.{First}
use Rattle.sp_keystate.proofs.Pieces.{same_some}
use Rattle.sp_keystate.proofs.SoundLemmas.{format_sound}
use Rattle.sp_outside.specs.Disk.{Disk, IsImage, still}
use Rattle.sp_outside.specs.Moments.{AllSince}
use Rattle.sp_outside.proofs.DiskLemmas.{only_image}
use Rattle.sp_service_turns.specs.Inputs.{Steps}
use Rattle.sp_service_turns.specs.Keys.{KeepsKeys}
use Rattle.sp_service_turns.specs.Outside.{KeptFile}
use Rattle.sp_service_turns.specs.Runs.{keys_on}
use Rattle.sp_service_turns.specs.declared.indexes.Indexes.{Indexes}
use Rattle.laws_keystate.specs.Histories.{FollowOn, IsSomeSound, IsStart, Start, formatted, signings_in}
use Rattle.laws_keystate.specs.RunLaws.{ARunIsAStart, NoRunSignsAgain, RunsAreAHistory}
use Rattle.laws_keystate.specs.Runs.{After_its_reserve, As_it_stands, At_start, HasRun, In_its_reserve, In_turns, IsLeftNow, IsStopped, MayBeLeft, Run}
use Rattle.laws_keystate.specs.Runs.{RunsFollow, SignsInOrder, TurnLeaves, Without_reserve, indexes_at, signed_in}
use Rattle.laws_keystate.specs.Starts.{Between, Kept, Leaves, Nothing_more, Standing, signings_of}
use Rattle.laws_keystate.proofs.Elements.{once}
use Rattle.laws_keystate.proofs.HistoryLemmas.{indexes_rise, left_keeps}
use Rattle.laws_keystate.proofs.RunLemmas.{Fits, due_bound, signs_one, turns_go, went_on}
use Rattle.laws_keystate.proofs.StartLemmas.{IsWell, all_well, begins_well}
use Rattle.laws_keystate.proofs.TakenStart.{Begun, start_goes}

-- ---- a moment

get_all : (Q : Disk → Type 0) (added : List Disk) (n : ℕ) (disk : Disk) → AllByRecursion Q added → slice_get added n ≡ Some disk → Q disk
get_all Q [] n disk all there = absurd (none-some disk there)
get_all Q (x ∷ xs) zero disk all there = subst Q (same_some x disk there) all.0
get_all Q (x ∷ xs) (suc n) disk all there = get_all Q xs n disk all.1 there

in_added : (Q : Disk → Type 0) (old added : List Disk) (n : ℕ) (disk : Disk) → length old ≤ n → slice_get (old ++ added) n ≡ Some disk → AllByRecursion Q added
    → Q disk
in_added Q [] added n disk later there all = get_all Q added n disk all there
in_added Q (x ∷ old) added zero disk later there all = absurd (omega (arith, later))
in_added Q (x ∷ old) added (suc n) disk later there all = in_added Q old added n disk (omega (arith, later)) there all

-- what all images of some moments have, an image of one of them has
since_has : (past now : Option (List Disk)) (P : List ℕ → Type 0) (image : List ℕ) → AllSince past now P → MayBeLeft past now image → P image
since_has None now P image all may = absurd (none-some may.before may.before_is)
since_has (Some old) None P image all may = absurd all
since_has (Some old) (Some new) P image all may =
    in_added (λ (d : Disk). (i : List ℕ) → IsImage d i → P i) old all.0 may.moment may.disk
    (subst (λ (l : List Disk). length l ≤ may.moment) (sym (same_some old may.before may.before_is)) may.later)
    (ap (λ (l : List Disk). slice_get l may.moment) (sym all.1 ∙ same_some new may.all may.all_are) ∙ may.there) all.2 image may.leaves

-- ---- what a stopped run left

left_now : (told : Option Disk) (file left : List ℕ) → told ≡ Some (still file) → IsLeftNow told left → left ≡ file
left_now told file left is now = only_image file left (subst (λ (o : Option Disk). IsLeftNow o left) is now)

left_after : (told : Option Disk) (keys : KeyState) (left : List ℕ) → IfSome told (SoundAs keys) → IsLeftNow told left → Keeps keys.bound keys.boot left
left_after None keys left sound now = absurd now
left_after (Some disk) keys left sound now =
    let is : left ≡ sound.file = only_image sound.file left (subst (λ (d : Disk). IsImage d left) sound.still now) in
    record {
      slot = keys.slot;
      numbers = numbers_of keys;
      sound = subst (IsSound keys.slot (numbers_of keys)) (sym is) sound.sound;
      bound_kept =
          omega arith;
      boot_kept = omega arith;
    }

module _ (s : Standing) (told : Option Disk) (keys : KeyState) (i : Indexes) (well : IsWell s) (fits : Fits s told keys i) where
  sound_now : IsSoundAt told keys
  sound_now = subst (λ (o : Option Disk). IsSoundAt o keys) (sym fits.at.disk) (record { file = s.file; still = refl; sound = sound })
    where
      sound : IsSound keys.slot (numbers_of keys) s.file
      sound = subst (λ (n : Numbers). IsSound keys.slot n s.file) (sym fits.at.numbers)
          (subst (λ (x : Slot). IsSound x s.numbers s.file) (sym fits.at.slot) well.sound)

  kept_leaves : (left : List ℕ) → Keeps keys.bound keys.boot left → Leaves s left
  kept_leaves left keeps = Kept (subst (λ (n : Numbers). Keeps n.bound n.boot left) fits.at.numbers keeps)

  moment_leaves : (past now : Option (List Disk)) (left : List ℕ) → KeepsKeys keys told past now → MayBeLeft past now left → Leaves s left
  moment_leaves past now left keeps may = kept_leaves left (since_has past now (Keeps keys.bound keys.boot) left (keeps sound_now) may)

turn_leaves : (s : Standing) (keys : KeyState) (now : KeptFile) (i : Indexes) (left : List ℕ) → IsWell s → Fits s now.disk keys i → TurnLeaves i keys now left
    → Leaves s left
turn_leaves s keys now i left well fits (As_it_stands stands) = Between (left_now now.disk s.file left fits.at.disk stands)
turn_leaves s keys now i left well fits (In_its_reserve upto after due reserve may) =
    moment_leaves s now.disk keys i well fits now.past after.past left reserve.kept may
turn_leaves s keys now i left well fits (After_its_reserve upto after due reserve stands) =
    let keeps = left_after after.disk (changed_state keys upto keys.boot) left reserve.sound stands in
    let low = (due_bound i upto due).0 in
    let kept = fits.kept in
    let more = keeps.bound_kept in
    kept_leaves s now.disk keys i well fits left
    (record { slot = keeps.slot; numbers = keeps.numbers; sound = keeps.sound; bound_kept = omega (arith, more, low, kept); boot_kept = keeps.boot_kept })
turn_leaves s keys now i left well fits (Without_reserve refused after no_more may) =
    moment_leaves s now.disk keys i well fits now.past after.past left no_more.kept may

-- ---- a run is a start

module _ {N : Type 0} (steps : Steps N) (indexes : N → Indexes) (orderly : SignsInOrder steps indexes) (height : LmsParam) (seed : List ℕ) where
  run_goes : (found : List ℕ) (signed : List Signing) (last : N) (keys : KeyState) (now : KeptFile) → HasRun steps indexes found signed last keys now
      → Begun height seed found now.disk keys (indexes last) signed
  run_goes found signed last keys now run =
      let given : Indexes = indexes_at run.total run.started in
      let from = start_goes height seed found run.begun.disk run.started run.total run.few run.starts given refl in
      let serial = subst (λ (k : KeyState). k.serial < 2 ^ 64) run.keys_are run.serial in
      let taken = run.started.state in
      let first = signs_one from.went.next run.begun.disk taken given (indexes run.start) run.at_start from.went.fits run.begins run.announces in
      let on = turns_go steps indexes orderly run.peers 0 run.turns first.next taken run.begun now run.start last run.in_turns first.fits serial run.file
      run.moves run.signs in
      let keys = keys_on taken run.turns in
      let all = went_on from.went.next run.begun.disk now.disk taken keys (indexes run.start) (indexes last) run.at_start run.in_turns first on in
      subst (λ (k : KeyState). Begun height seed found now.disk k (indexes last) signed) (sym run.keys_are)
      (subst (λ (l : List Signing). Begun height seed found now.disk keys (indexes last) l) (sym run.together)
      (record {
        begin = from.begin;
        begins = from.begins;
        went = went_on from.begin run.begun.disk now.disk taken keys given (indexes last) [] (run.at_start ++ run.in_turns) from.went all;
      }))

  -- its file is sound now
  pub run_sound : (found : List ℕ) (signed : List Signing) (last : N) (keys : KeyState) (now : KeptFile) → IsSomeSound found
      → HasRun steps indexes found signed last keys now → IsSoundAt now.disk keys
  run_sound found signed last keys now sound run =
      let made = run_goes found signed last keys now run in
      let went = made.went in
      let well = all_well made.begin went.next went.acts (begins_well height seed found made.begin sound.slot sound.numbers made.begins sound.sound)
      went.does in
      sound_now went.next now.disk keys (indexes last) well went.fits

  pub a_start : (found : List ℕ) (signed : List Signing) (left : List ℕ) → IsSomeSound found → IsStopped steps indexes found signed left
      → (start : Start) × IsStart height seed found start × (signings_of start.acts ≡ signed) × (start.left ≡ left)
  a_start found signed left sound (At_start image past now keeps may) =
      let numbers = sound.numbers in
      let begin : Standing =
      record {
        file = found;
        slot = sound.slot;
        numbers = numbers;
        signer =
            record { height = height; seed = seed; index = numbers.bound; bound = numbers.bound };
      } in (
        record { begin = begin; acts = []; end = begin; left = image },
        record {
          begins = record { file = refl; opens = sound.sound.stands; signer = refl };
          does = Nothing_more begin;
          leaves = Kept (since_has past now (Keeps numbers.bound numbers.boot) image (keeps found sound.slot numbers refl sound.sound) may);
        },
        refl,
        refl,
      )
  a_start found signed left sound (In_turns these image last keys now run leaves) =
      let made = run_goes found these last keys now run in
      let went = made.went in
      let well = all_well made.begin went.next went.acts (begins_well height seed found made.begin sound.slot sound.numbers made.begins sound.sound)
      went.does in (
        record { begin = made.begin; acts = went.acts; end = went.next; left = image },
        record { begins = made.begins; does = went.does; leaves = turn_leaves went.next keys now (indexes last) image well went.fits leaves },
        went.signs,
        refl,
      )

  -- ---- runs one after another

  follow : (found : List ℕ) (runs : List Run) → IsSomeSound found → RunsFollow steps indexes found runs
      → (starts : List Start) × FollowOn height seed found starts × (signings_in starts ≡ signed_in runs)
  follow found [] sound runs = ([], tt, refl)
  follow found (run ∷ later) sound runs =
      let first = a_start found run.signed run.left sound runs.0 in
      let keeps = left_keeps height seed found first.0 sound.slot sound.numbers sound.sound first.1 in
      let next : IsSomeSound run.left = subst IsSomeSound first.3 (record { slot = keeps.slot; numbers = keeps.numbers; sound = keeps.sound }) in
      let rest = follow run.left later next runs.1 in (
        first.0 ∷ rest.0,
        (first.1, subst (λ (f : List ℕ). FollowOn height seed f rest.0) (sym first.3) rest.1),
        ap (λ (l : List Signing). l ++ signings_in rest.0) first.2 ∙ ap (λ (l : List Signing). run.signed ++ l) rest.2,
      )

pub a_run_is_a_start : {N : Type 0} (steps : Steps N) (indexes : N → Indexes) → ARunIsAStart steps indexes
a_run_is_a_start steps indexes orderly height seed found signed left sound run = a_start steps indexes orderly height seed found signed left sound run

pub runs_are_a_history : {N : Type 0} (steps : Steps N) (indexes : N → Indexes) → RunsAreAHistory steps indexes
runs_are_a_history steps indexes orderly height seed runs they =
    follow steps indexes orderly height seed formatted runs (record { slot = First; numbers = first_numbers; sound = format_sound }) they

-- no run on a key file signs with an index that an earlier run signed with
pub no_run_signs_again : {N : Type 0} (steps : Steps N) (indexes : N → Indexes) → NoRunSignsAgain steps indexes
no_run_signs_again steps indexes orderly runs they =
    let history = runs_are_a_history steps indexes orderly H5 [] runs they in
    let rises : Rising 0 (signed_in runs) = subst (Rising 0) history.2 (indexes_rise H5 [] history.0 history.1) in
    (rises, λ a b one other same. ap (λ (s : Signing). s.message) (once 0 (signed_in runs) a b rises one other same))
