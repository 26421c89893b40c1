-- What verdicts and endings exclude.
use Rattle.std.specs.Prelude.{ℕ, ◌≡◌, ◌-◌, ◌^◌, ◌<◌, ◌⊎◌, List}
use Rattle.sp_keystate.specs.declared.key_state.KeyState.{KeyState}
use Rattle.sp_keystate.specs.declared.refused.KeyRefused.{KeyRefused}
use Rattle.sp_keystate.specs.declared.refused.KeyRefused.TheVariants.{KeeperFault}
use Rattle.sp_recording.specs.declared.line.Digest.{Digest}
use Rattle.sp_recording.specs.declared.line.Line.{Line}
use Rattle.sp_service_turns.specs.Inputs.{Input, Steps}
use Rattle.sp_service_turns.specs.Keys.{NoMore}
use Rattle.sp_service_turns.specs.Outside.{KeptFile}
use Rattle.sp_service_turns.specs.Verified.{Agrees, Differs}
use Rattle.sp_service_turns.specs.declared.indexes.Indexes.{Indexes}
use Rattle.sp_keystate.specs.declared.starts.TheConstants.{LEAST_LEFT}

-- what a node answers is determined, and so is what it goes on to
abbrev pub IsDetermined : {N : Type 0} → Steps N → Type 0
IsDetermined {N} steps = (old : N) (input : Input) (a b : List ℕ) (m n : N) → steps old input a m → steps old input b n → (a ≡ b) × (m ≡ n)

-- of such a node no line of a recording that agrees has a digest that differs
abbrev pub NothingAgreesAndDiffers : {N : Type 0} → Steps N → Type 0
NothingAgreesAndDiffers {N} steps =
    IsDetermined steps → (first last : N) (ls : List Line) (count place : ℕ) (recorded computed : Digest) → Agrees steps first ls last count
    → Differs steps first ls place recorded computed → ⊥

-- a key file ends no turn that begins with enough indexes, or with all of them reserved, and but for a fault of its keeper none before its last serial
abbrev pub KeyFilesEndLate : Type 0
KeyFilesEndLate = (i : Indexes) (keys : KeyState) (refused : KeyRefused) (before after : KeptFile) → NoMore i keys refused before after
    → (i.bound - i.index < LEAST_LEFT) × (i.bound < i.total) × ((refused ≡ KeeperFault) ⊎ (keys.serial ≡ 2 ^ 64 - 1))
