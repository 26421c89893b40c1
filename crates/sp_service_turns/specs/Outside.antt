-- What the wire, the clock, the key file and the recording of a daemon told.
use Rattle.std.specs.Prelude.{ℕ, ◌≡◌, List, ◌++◌, Option}
use Rattle.sp_outside.specs.Calls.{Call, Tells}
use Rattle.sp_outside.specs.Disk.{Disk}

-- what is known of a text
abbrev pub Text : Type 0
Text = Option (List ℕ)

-- what is known of the key file: its disk, the disk at each moment so far, and how many calls on it failed
pub record KeptFile : Type 0 where
  pub disk : Option Disk
  pub past : Option (List Disk)
  pub faults : ℕ

-- all that is outside of a daemon, as it stands
pub record Outside : Type 0 where
  pub wire : Option (List Call)
  pub clock : Option (List ℕ)
  pub text : Text
  pub file : KeptFile

-- what is known by what each of them tells: wire, clock and recording, and of the key file its disk, its moments and its failed calls
abbrev pub known : Option (List Call) → Option (List ℕ) → Text → Option Disk → Option (List Disk) → ℕ → Outside
known wire clock text disk past faults = record { wire = wire; clock = clock; text = text; file = record { disk = disk; past = past; faults = faults } }

-- nothing was called, but for the recording
abbrev pub IsQuiet : Outside → Outside → Type 0
IsQuiet before after = (after.wire ≡ before.wire) × (after.clock ≡ before.clock) × (after.file ≡ before.file)

-- just the first of these were added to what is told
pub record TellsFront {X : Type 0} (old new : Option (List X)) (all : List X) : Type 0 where
  pub first : List X
  pub rest : List X
  pub front : first ++ rest ≡ all
  pub told : Tells old new first
