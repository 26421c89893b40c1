-- How a call ended that writes one line: so as was asked, or as the sink's fault; and how a daemon ends whose turn ended.
use Rattle.std.specs.Prelude.{ℕ, ◌≡◌, ◌⊎◌, List}
use Rattle.std.specs.Io.KnownBytes.{Appends}
use Rattle.sp_keystate.specs.RefusedLines.{refused_line}
use Rattle.sp_outside.specs.Streams.{AppendsFront}
use Rattle.sp_service_turns.specs.Outside.{Text}
use Rattle.sp_service_turns.specs.declared.ended.Ended.{Ended}
use Rattle.sp_service_turns.specs.declared.ended.Ended.TheVariants as ended
use Rattle.sp_service_turns.specs.declared.served.Served.{Served}
use Rattle.sp_service_turns.specs.declared.served.Served.TheVariants as served

-- the line was written, and it ended as it would; or the sink has a beginning of the line
abbrev pub IsTold : Served → List ℕ → Served → Text → Text → Type 0
IsTold would line ended before after = ((ended ≡ would) × Appends before after line) ⊎ ((ended ≡ served.Sink) × AppendsFront before after line)

-- a turn ended so, and with it the daemon: why the key file gave no more indexes is written
abbrev pub Stops : Ended → Text → Text → Served → Type 0
Stops (ended.Keys refused) before after end = IsTold (served.Keys refused) (refused_line refused) end before after
Stops ended.Sink before after end = (end ≡ served.Sink) × (after ≡ before)
Stops ended.Memory before after end = (end ≡ served.Memory) × (after ≡ before)
