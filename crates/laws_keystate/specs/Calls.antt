-- What the calls on a key file promise are the acts of a start: whoever makes just these calls, in this order, makes a history.
use Rattle.std.specs.Prelude.{ℕ, ◌≡◌, ◌+◌, ◌≤◌, List, Option, Some}
use Rattle.sp_outside.specs.Disk.{Disk, still}
use Rattle.sp_outside.specs.Moments.{AllSince}
use Rattle.sp_lms.specs.declared.param.LmsParam.{LmsParam}
use Rattle.sp_keystate.specs.declared.key_state.KeyState.{KeyState}
use Rattle.sp_keystate.specs.Slots.{IsInRange, in_slot, other, place}
use Rattle.sp_keystate.specs.Changes.{ChangeMoments, Changes}
use Rattle.sp_keystate.specs.States.{Finds, changed_state, next_numbers, numbers_of}
use Rattle.laws_keystate.specs.Starts.{Begins, Boots, Does, Leaves, Reserves, Standing}

-- the keeper and the key state are as a start stands
pub record IsAt (told : Option Disk) (state : KeyState) (standing : Standing) : Type 0 where
  pub disk : told ≡ Some (still standing.file)
  pub slot : state.slot ≡ standing.slot
  pub numbers : numbers_of state ≡ standing.numbers

-- an `open` that found a state begins a start
abbrev pub AnOpenBegins : Type 0
AnOpenBegins = (height : LmsParam) (seed found : List ℕ) (told after : Option Disk) (state : KeyState) → told ≡ Some (still found)
    → Finds told after (Some (in_slot state.slot (numbers_of state)))
    → (begin : Standing) × Begins height seed found begin × IsAt after state begin

-- a `reserve` that gave this bound is the act
abbrev pub AReserveIsAnAct : Type 0
AReserveIsAnAct = (standing : Standing) (told after : Option Disk) (state new : KeyState) (bound : ℕ) → IsAt told state standing
    → IsInRange (next_numbers state bound state.boot) → state.bound ≤ bound
    → Changes told after (place (other state.slot)) (next_numbers state bound state.boot) → new ≡ changed_state state bound state.boot
    → (next : Standing) × Does standing (Reserves bound) next × IsAt after new next

-- a `next_boot` that gave the next boot is the act
abbrev pub ABootIsAnAct : Type 0
ABootIsAnAct = (standing : Standing) (told after : Option Disk) (state new : KeyState) → IsAt told state standing
    → IsInRange (next_numbers state state.bound (state.boot + 1))
    → Changes told after (place (other state.slot)) (next_numbers state state.bound (state.boot + 1))
    → new ≡ changed_state state state.bound (state.boot + 1)
    → (next : Standing) × Does standing (Boots (state.boot + 1)) next × IsAt after new next

-- a crash at any moment of either call leaves what a start may leave
abbrev pub ACrashLeavesWhatAStartMay : Type 0
ACrashLeavesWhatAStartMay = (standing : Standing) (told : Option Disk) (past now : Option (List Disk)) (state : KeyState) (bound boot : ℕ)
    → IsAt told state standing → IsInRange (next_numbers state bound boot) → state.bound ≤ bound → state.boot ≤ boot
    → ChangeMoments told past now (place (other state.slot)) (next_numbers state bound boot)
    → AllSince past now (Leaves standing)
