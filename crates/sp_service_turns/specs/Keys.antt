-- What becomes of the key file while its daemon serves.
use Rattle.std.specs.Prelude.{ℕ, ◌≡◌, ◌≤◌, ◌<◌, ◌-◌, ◌^◌, true, List, Option, None, Some, Result, Err, IfSome}
use Rattle.sp_keystate.specs.Changes.{Changes}
use Rattle.sp_keystate.specs.Slots.{other, place}
use Rattle.sp_keystate.specs.Soundness.{Keeps}
use Rattle.sp_keystate.specs.States.{HasFaultCause, IsSoundAt, SoundAs, StandsFor, changed_state, next_numbers}
use Rattle.sp_keystate.specs.declared.key_state.KeyState.{KeyState}
use Rattle.sp_keystate.specs.declared.refused.KeyRefused.{KeyRefused}
use Rattle.sp_keystate.specs.declared.refused.KeyRefused.TheVariants.{KeeperFault, Unformatted, Formatted, Exhausted}
use Rattle.sp_outside.specs.Disk.{Disk}
use Rattle.sp_outside.specs.Moments.{AllSince}
use Rattle.sp_service_turns.specs.Indexes.{are_few}
use Rattle.sp_service_turns.specs.Outside.{KeptFile}
use Rattle.sp_service_turns.specs.declared.ended.Ended.{Ended}
use Rattle.sp_service_turns.specs.declared.ended.Ended.TheVariants as ended
use Rattle.sp_service_turns.specs.declared.indexes.Indexes.{Indexes}

-- the key file stands for this state, whose bound is that of the node, and whose serial has 64 bits
pub record HoldsKeys (told : Option Disk) (keys : KeyState) (indexes : Indexes) : Type 0 where
  pub stands : StandsFor told keys
  pub bound : keys.bound ≡ indexes.bound
  pub serial : keys.serial < 2 ^ 64

-- of a sound file no moment of some calls left a lower bound or a lower boot
abbrev pub KeepsKeys : KeyState → Option Disk → Option (List Disk) → Option (List Disk) → Type 0
KeepsKeys keys told past now = IsSoundAt told keys → AllSince past now (Keeps keys.bound keys.boot)

-- and after them it was sound again, with no lower numbers
pub record KeysGoOn (old new : KeyState) (told_before told_after : Option Disk) : Type 0 where
  pub bound : old.bound ≤ new.bound
  pub boot : old.boot ≤ new.boot
  pub sound : IsSoundAt told_before old → IsSoundAt told_after new

-- this holds where it was the key file that ended a call
abbrev pub IfKeysEnd : {T : Type 0} → Result T Ended → Type 0 → Type 0
IfKeysEnd (Err (ended.Keys refused)) Holds = Holds
IfKeysEnd result Holds = Unit {0}

-- the same of why it did
abbrev pub IfKeysEndBy : {T : Type 0} → Result T Ended → (KeyRefused → Type 0) → Type 0
IfKeysEndBy (Err (ended.Keys refused)) Holds = Holds refused
IfKeysEndBy result Holds = Unit {0}

-- ---- over a turn

-- what the key file stands for after a turn that reserved up to this bound, if it reserved
abbrev pub keys_after : KeyState → Option ℕ → KeyState
keys_after keys None = keys
keys_after keys (Some upto) = changed_state keys upto keys.boot

-- The key file stood for these keys, and one change of it, to the slot that wasn't in use, reserved up to this bound. Of a sound file no moment of it left
-- a lower bound than was reserved before. No call on it failed
pub record Reserves (keys : KeyState) (upto : ℕ) (before after : KeptFile) : Type 0 where
  pub change : Changes before.disk after.disk (place (other keys.slot)) (next_numbers keys upto keys.boot)
  pub kept : KeepsKeys keys before.disk before.past after.past
  pub sound : IfSome after.disk (SoundAs (changed_state keys upto keys.boot))
  pub faultless : after.faults ≡ before.faults

-- a turn that reserves nothing doesn't call it
abbrev pub FileMoves : Option ℕ → KeyState → KeptFile → KeptFile → Type 0
FileMoves None keys before after = after ≡ before
FileMoves (Some upto) keys before after = Reserves keys upto before after

-- ---- its end

-- Why a key file of this serial gives no more indexes, though not all are reserved: its keeper failed, or the serial is the last of 64 bits
abbrev pub IsEnd : ℕ → KeyRefused → Type 0
IsEnd serial KeeperFault = Unit {0}
IsEnd serial (Exhausted number) = serial ≡ 2 ^ 64 - 1
IsEnd serial Unformatted = ⊥
IsEnd serial Formatted = ⊥

-- Why a turn that begins so isn't made: few indexes are left, not all are reserved, and the key file gives no more. A call on it failed just where that is
-- why, and meanwhile no moment left a lower bound
pub record NoMore (indexes : Indexes) (keys : KeyState) (refused : KeyRefused) (before after : KeptFile) : Type 0 where
  pub due : are_few indexes ≡ true
  pub end : IsEnd keys.serial refused
  pub kept : KeepsKeys keys before.disk before.past after.past
  pub faults : HasFaultCause {T = Unit {0}} before.faults after.faults (Err refused)
