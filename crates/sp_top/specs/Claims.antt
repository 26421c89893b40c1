-- The headline: what the program promises of every run.
use Rattle.std.specs.Prelude.{ℕ, ◌≡◌, ◌≢◌, ◌⊎◌, false, List, Option, Some, None}
use Rattle.std.specs.Io.KnownBytes.{Appends}
use Rattle.sp_outside.specs.Streams.{AppendsFront}
use Rattle.sp_replay.specs.Claims.{Generates, Replays}
use Rattle.sp_service_turns.specs.Outside.{Outside}
use Rattle.sp_top.specs.Complete.{GeneratesAll, IsComplete, calls_keeper, calls_wire, runs_world}
use Rattle.sp_top.specs.Outputs.{IsOutput}
use Rattle.sp_top.specs.Services.{ServiceEnds}
use Rattle.sp_top.specs.declared.command.Command.{Command}
use Rattle.sp_top.specs.declared.command.Command.TheVariants as commands
use Rattle.sp_words.specs.declared.status.Status.{Status}
use Rattle.sp_words.specs.declared.status.Status.TheVariants as statuses
use Rattle.sp_world.specs.Past.{Past}

-- the sink got the whole output that goes with the status
pub record IsWritten (said : Option Command) (left : Option (List ℕ)) (status : Status) (before after : Option (List ℕ)) : Type 0 where
  pub output : List ℕ
  pub is_output : IsOutput left said status output
  pub written : Appends before after output

-- the sink got a beginning of an output that some status would have had
pub record IsBegun (said : Option Command) (left : Option (List ℕ)) (before after : Option (List ℕ)) : Type 0 where
  pub status : Status
  pub output : List ℕ
  pub is_output : IsOutput left said status output
  pub begun : AppendsFront before after output

-- what the sink got of a command that writes at its end, by how the run ended
abbrev pub WroteAtEnd : Option Command → Option (List ℕ) → Status → Option (List ℕ) → Option (List ℕ) → Type 0
WroteAtEnd said left statuses.Sink before after = IsBegun said left before after
WroteAtEnd said left statuses.Source before after = after ≡ before
WroteAtEnd said left statuses.Memory before after = after ≡ before
WroteAtEnd said left status before after = IsWritten said left status before after

-- what the sink got, by what the words say
abbrev pub Wrote : Option Command → Option (List ℕ) → Option Past → Status → Option (List ℕ) → Option (List ℕ) → Type 0
Wrote (Some commands.Replay) left past status before after = Replays left past status before after
Wrote (Some (commands.Generate number)) left past status before after = Generates number past status before after
Wrote said left past status before after = WroteAtEnd said left status before after

-- ---- what is claimed of each run, by what its words say

-- with what the source, the sink, the wire and the key file had before, the number of the status and the world
pub record SaidClaims (said : Option Command) (left : Option (List ℕ)) (past : Option Past) (status : Status) (before after : Outside) : Type 0 where
  -- what the sink got is the output that goes with the status; or, where something outside failed, a beginning of an output of the same input
  pub wrote : calls_wire said ≡ false → calls_keeper said ≡ false → Wrote said left past status before.text after.text
  -- a command that runs no schedule leaves no world
  pub worldless : runs_world said ≡ false → past ≡ None
  -- a daemon's calls, readings, start, steps and recording, a question's calls and reply, and a key file that is made
  pub served : ServiceEnds said left status before after
  -- a schedule of which nothing is forged is run to its end, and a text with a bad line is refused, unless something outside fails
  pub complete : status ≢ statuses.Source → status ≢ statuses.Sink → IsComplete said left status
  -- the schedule of a number never meets a forgery
  pub generated : GeneratesAll said status
  -- the usage status comes exactly where the words are no command
  pub usage : status ≡ statuses.Usage → said ≡ None
  pub only_usage : said ≡ None → (status ≡ statuses.Usage) ⊎ ((status ≡ statuses.Sink) ⊎ (status ≡ statuses.Memory))
