-- What a node's key state keeps: its file in memory opens as its state, which had a change for each boot.
use Rattle.std.specs.Prelude.{ℕ, ◌≤◌, List, Some}
use Rattle.sp_outside.specs.Disk.{still}
use Rattle.sp_keystate.specs.declared.key_state.KeyState.{KeyState}
use Rattle.sp_keystate.specs.States.{StandsFor}

-- so where the serial is below 2^62, the boot isn't at its end either
pub record IsRow (file : List ℕ) (state : KeyState) : Type 0 where
  pub stands : StandsFor (Some (still file)) state
  pub boot : state.boot ≤ state.serial
