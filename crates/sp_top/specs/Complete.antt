-- Which runs must be done, and which objects a command calls.
use Rattle.std.specs.Prelude.{ℕ, Bool, true, false, List, Option, Some, None}
use Rattle.sp_replay.specs.Complete.{IsCompleteReplay, IsDoneOrFailed}
use Rattle.sp_top.specs.declared.command.Command.{Command}
use Rattle.sp_top.specs.declared.command.Command.TheVariants as commands
use Rattle.sp_words.specs.declared.status.Status.{Status}

abbrev pub IsComplete : Option Command → Option (List ℕ) → Status → Type 0
IsComplete (Some commands.Replay) left status = IsCompleteReplay left status
IsComplete _ left status = Unit {0}

-- the schedule of a number never meets a forgery
abbrev pub GeneratesAll : Option Command → Status → Type 0
GeneratesAll (Some (commands.Generate number)) status = IsDoneOrFailed status
GeneratesAll _ status = Unit {0}

-- ---- what a command makes and calls

-- a replay and the schedule of a number are run, and leave their world
abbrev pub runs_world : Option Command → Bool
runs_world (Some commands.Replay) = true
runs_world (Some (commands.Generate number)) = true
runs_world _ = false

-- `generate`, `ask` and `format` read no input, and neither do words that are no command
abbrev pub reads : Option Command → Bool
reads None = false
reads (Some (commands.Generate number)) = false
reads (Some (commands.Ask a)) = false
reads (Some commands.Format) = false
reads _ = true

-- a daemon and a question call the wire
abbrev pub calls_wire : Option Command → Bool
calls_wire (Some (commands.Daemon turns)) = true
calls_wire (Some (commands.Ask a)) = true
calls_wire _ = false

-- a daemon alone calls the clock
abbrev pub calls_clock : Option Command → Bool
calls_clock (Some (commands.Daemon turns)) = true
calls_clock _ = false

-- a daemon and `format` call the keeper
abbrev pub calls_keeper : Option Command → Bool
calls_keeper (Some (commands.Daemon turns)) = true
calls_keeper (Some commands.Format) = true
calls_keeper _ = false

-- a replay, a daemon and a question write while they run, and all others at their end
abbrev pub writes_at_end : Option Command → Bool
writes_at_end (Some commands.Replay) = false
writes_at_end (Some (commands.Daemon turns)) = false
writes_at_end (Some (commands.Ask a)) = false
writes_at_end _ = true
