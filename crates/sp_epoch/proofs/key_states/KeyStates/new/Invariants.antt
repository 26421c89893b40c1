use Rattle.std.proofs.Common.{◌≡◌, replicate}
use Rattle.sp_keystate.specs.States.{first_numbers}
use Rattle.sp_epoch.proofs.key_states.KeyStates.new.Given as goal

abbrev pub invariant-states : goal.invariant-states
invariant-states l = l.rows.items ≡ replicate l.counter first_numbers
