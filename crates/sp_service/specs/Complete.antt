-- When a daemon must make its turns, and when its key file may end it.
use Rattle.std.specs.Prelude.{ℕ, ◌≡◌, ◌+◌, ◌^◌, ◌≤◌, ◌⊎◌, List, Some, None}
use Rattle.sp_config.specs.declared.config.Config.{Config}
use Rattle.sp_keystate.specs.Slots.{in_use}
use Rattle.sp_keystate.specs.Starting.{IsSpent}
use Rattle.sp_keystate.specs.declared.slot.InUse.{InUse}
use Rattle.sp_outside.specs.Disk.{Disk, bytes_of}
use Rattle.sp_topology.specs.declared.topology.Topology.{Topology}
use Rattle.sp_service.specs.Configured.{IsConfigured}
use Rattle.sp_service.specs.Starts.{total_of}

-- ---- a key file

-- the file gives no start: no slot of it is open, or its numbers have none left
abbrev pub GivesNoStart : ℕ → Disk → Type 0
GivesNoStart total disk = (in_use (bytes_of disk) ≡ None) ⊎ IsSpent total disk

-- its serial has no room for the two changes of a start, and one in each of so many turns
pub record LacksSerials (turns : ℕ) (disk : Disk) : Type 0 where
  pub found : InUse
  pub stood : in_use (bytes_of disk) ≡ Some found
  pub most : 2 ^ 64 ≤ found.numbers.serial + 2 + turns

-- the file is at its end for so many turns with a key of so many indexes
abbrev pub IsAtEnd : (total turns : ℕ) → Disk → Type 0
IsAtEnd total turns disk = GivesNoStart total disk ⊎ LacksSerials turns disk

-- ---- a configuration

-- the text says a configuration that fits a topology, and this holds of how many messages a key of it signs
pub record IsConfiguredFor (Holds : ℕ → Type 0) (text : List ℕ) : Type 0 where
  pub config : Config
  pub topology : Topology
  pub configured : IsConfigured text config topology
  pub holds : Holds (total_of topology)
