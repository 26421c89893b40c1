-- What a receive gave, as the code sees it and as the definitions do.
use Rattle.std.specs.Prelude.{ℕ, ◌≤◌, List, take}
use Rattle.sp_outside.specs.Calls as calls
use Rattle.sp_outside.specs.declared.wire.TheConstants.{DATAGRAM_BYTES}
use Rattle.sp_service_turns.specs.declared.ended.Heard.{Heard}
use Rattle.sp_service_turns.specs.declared.ended.Heard.TheVariants as heard

abbrev pub heard_in : List ℕ → Heard → calls.Got
heard_in buffer heard.Nothing = calls.Nothing
heard_in buffer heard.Lost = calls.Lost
heard_in buffer (heard.Came port count) = calls.Came port (take count buffer)

-- a datagram that was received isn't longer than its buffer
abbrev pub IsWithin : Heard → Type 0
IsWithin (heard.Came port count) = count ≤ DATAGRAM_BYTES
IsWithin _ = Unit {0}
