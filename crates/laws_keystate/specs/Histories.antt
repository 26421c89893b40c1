-- The whole life of a seed on one key file: an empty file that was formatted, and starts one after another, each on what a crash may have
-- left of the one before. The file is never put back to an older state, and has one daemon at a time.
use Rattle.std.specs.Prelude.{ℕ, ◌<◌, List, [], ◌∷◌, ◌++◌}
use Rattle.sp_lms.specs.declared.param.LmsParam.{LmsParam}
use Rattle.sp_hss.specs.Uses.{Signing}
use Rattle.sp_keystate.specs.declared.numbers.Numbers.{Numbers}
use Rattle.sp_keystate.specs.declared.slot.Slot.{Slot}
use Rattle.sp_keystate.specs.declared.slot.Slot.TheVariants.{First}
use Rattle.sp_keystate.specs.Slots.{place}
use Rattle.sp_keystate.specs.Changes.{changed}
use Rattle.sp_keystate.specs.Soundness.{IsSound}
use Rattle.sp_keystate.specs.States.{first_numbers}
use Rattle.laws_keystate.specs.Starts.{Act, Begins, DoesAll, Leaves, Standing, boots_of, signings_of}

-- one start: how it began, what it did, how it stood when it was stopped, and the file that it left
pub record Start : Type 0 where
  pub begin : Standing
  pub acts : List Act
  pub end : Standing
  pub left : List ℕ

-- on the file that it found
pub record IsStart (height : LmsParam) (seed found : List ℕ) (start : Start) : Type 0 where
  pub begins : Begins height seed found start.begin
  pub does : DoesAll start.begin start.acts start.end
  pub leaves : Leaves start.end start.left

-- starts one after another, the first on this file
abbrev pub FollowOn : LmsParam → List ℕ → (found : List ℕ) → List Start → Type 0
FollowOn height seed found [] = Unit {0}
FollowOn height seed found (start ∷ starts) = IsStart height seed found start × FollowOn height seed start.left starts

-- what `format` makes of an empty file
abbrev pub formatted : List ℕ
formatted = changed [] (place First) first_numbers

-- the starts of a seed, from a file that was just formatted on
abbrev pub IsHistory : LmsParam → List ℕ → List Start → Type 0
IsHistory height seed starts = FollowOn height seed formatted starts

-- all that was signed, and all boots that were taken, in order
abbrev pub signings_in : List Start → List Signing
signings_in [] = []
signings_in (start ∷ starts) = signings_of start.acts ++ signings_in starts

-- the boots of all starts
abbrev pub boots_in : List Start → List ℕ
boots_in [] = []
boots_in (start ∷ starts) = boots_of start.acts ++ boots_in starts

-- each number is above the one before, and the first above this one
abbrev pub AllRise : ℕ → List ℕ → Type 0
AllRise above [] = Unit {0}
AllRise above (n ∷ ns) = (above < n) × AllRise n ns

-- a file that is sound, whatever its numbers
pub record IsSomeSound (file : List ℕ) : Type 0 where
  pub slot : Slot
  pub numbers : Numbers
  pub sound : IsSound slot numbers file
