-- What the words of a command line say: one of the commands, or none.
--
--     replay    topology    verify                                 read standard input
--     paths --from S --to D --paths K      daemon --turns N        read standard input
--     generate --seed N      ask --port P --local L --turns N --request LINE      format
use Rattle.std.specs.Prelude.{ℕ, ◌≡◌, ◌⊎◌, List, Option, Some, None}
use Rattle.sp_client.specs.Requests.{IsRequest}
use Rattle.sp_client.specs.declared.request.Request.{Request}
use Rattle.sp_offline.specs.Ranges.{IsOffline}
use Rattle.sp_offline.specs.declared.command.Offline.TheVariants as offlines
use Rattle.sp_words.specs.CommandLines.{IsAsk, IsCommandLine, IsSeed, IsTurns}
use Rattle.sp_words.specs.declared.command_line.CommandLine.{CommandLine}
use Rattle.sp_words.specs.declared.command_line.CommandLine.TheVariants as lines
use Rattle.sp_top.specs.declared.command.Command.{Command}
use Rattle.sp_top.specs.declared.command.Command.TheVariants as commands

-- the command of a command line. `ask` has to have a request
abbrev pub IsMeant : CommandLine → Command → Type 0
IsMeant lines.Replay command = command ≡ commands.Replay
IsMeant lines.Topology command = command ≡ commands.Offline offlines.Topology
IsMeant lines.Format command = command ≡ commands.Format
IsMeant lines.Verify command = command ≡ commands.Verify
IsMeant (lines.Paths q) command = command ≡ commands.Offline (offlines.Paths (record { from = q.from; to = q.to; paths = q.paths }))
IsMeant (lines.Generate seed) command = command ≡ commands.Generate seed
IsMeant (lines.Daemon turns) command = command ≡ commands.Daemon turns
IsMeant (lines.Ask a) command = (command ≡ commands.Ask a) × ((r : Request) × IsRequest a.request.now r)

-- words that say a command
pub record AreWords (words : List (List ℕ)) (command : Command) : Type 0 where
  pub line : CommandLine
  pub said : IsCommandLine words line
  pub meant : IsMeant line command

-- the words say this command, or none
abbrev pub Says : List (List ℕ) → Option Command → Type 0
Says words None = (command : Command) → AreWords words command → ⊥
Says words (Some command) = AreWords words command

-- what the words say has this. Where no memory was left to read them, all has it that they may say
abbrev pub BySaid : List (List ℕ) → (Option Command → Type 0) → Type 0
BySaid words Holds = ((said : Option Command) × Says words said × Holds said) ⊎ ((said : Option Command) → Holds said)

-- ---- ranges

-- a command whose numbers are in their ranges
abbrev pub IsInRange : Command → Type 0
IsInRange (commands.Generate number) = IsSeed number
IsInRange (commands.Offline command) = IsOffline command
IsInRange (commands.Daemon turns) = IsTurns turns
IsInRange (commands.Ask a) = IsAsk a × ((r : Request) × IsRequest a.request.now r)
IsInRange _ = Unit {0}
