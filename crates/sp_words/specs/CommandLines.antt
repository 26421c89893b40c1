-- The command lines: each command with just its options, each number in its range and in its one spelling.
--
--     replay    topology    format    verify
--     paths --from S --to D --paths K
--     generate --seed N
--     daemon --turns N
--     ask --port P --local L --turns N --request LINE
use Rattle.std.specs.Prelude.{ℕ, ◌≡◌, ◌≢◌, ◌≤◌, List, Some, None, codes}
use Rattle.std.specs.Fmt.{decimal}
use Rattle.clap.specs.Walk.{Text}
use Rattle.sp_paths.specs.declared.limits.TheConstants.{MAX_PATHS}
use Rattle.sp_recording.specs.declared.line.TheConstants.{MAX_TURNS}
use Rattle.sp_words.specs.Parse.{Texts, Gives}
use Rattle.sp_words.specs.declared.command_line.Ask.{Ask}
use Rattle.sp_words.specs.declared.command_line.CommandLine.{CommandLine}
use Rattle.sp_words.specs.declared.command_line.CommandLine.TheVariants as lines
use Rattle.sp_words.specs.declared.command_line.PathsQuery.{PathsQuery}

-- ---- texts

-- a command without options
abbrev pub alone : Text → Texts
alone name = record {
  command = Some name;
  from = None;
  to = None;
  paths = None;
  seed = None;
  turns = None;
  port = None;
  local = None;
  request = None;
}

-- the texts of `paths` for a question
abbrev pub paths_texts : PathsQuery → Texts
paths_texts q = record (alone (codes "paths")) { from = Some (decimal q.from.0); to = Some (decimal q.to.0); paths = Some (decimal q.paths) }

-- the texts of `generate`
abbrev pub generate_texts : Text → Texts
generate_texts seed = record (alone (codes "generate")) { seed = Some seed }

-- the texts of `daemon`
abbrev pub daemon_texts : Text → Texts
daemon_texts turns = record (alone (codes "daemon")) { turns = Some turns }

-- the texts of `ask`
abbrev pub ask_texts : Ask → Texts
ask_texts a = record (alone (codes "ask")) {
  port = Some (decimal a.port);
  local = Some (decimal a.local);
  turns = Some (decimal a.turns);
  request = Some a.request.now;
}

-- what a command line gives to the command and to each option
abbrev pub texts_for : CommandLine → Texts
texts_for lines.Replay = alone (codes "replay")
texts_for lines.Topology = alone (codes "topology")
texts_for lines.Format = alone (codes "format")
texts_for lines.Verify = alone (codes "verify")
texts_for (lines.Paths q) = paths_texts q
texts_for (lines.Generate seed) = generate_texts (decimal seed)
texts_for (lines.Daemon turns) = daemon_texts (decimal turns)
texts_for (lines.Ask a) = ask_texts a

-- ---- ranges

-- the number of a generated schedule in its range
abbrev pub IsSeed : ℕ → Type 0
IsSeed seed = (1 ≤ seed) × (seed ≤ 4294967295)

-- a number of turns in its range
abbrev pub IsTurns : ℕ → Type 0
IsTurns turns = (1 ≤ turns) × (turns ≤ MAX_TURNS)

-- a port in its range
abbrev pub IsPort : ℕ → Type 0
IsPort port = (1 ≤ port) × (port ≤ 65535)

-- two different ends, and how many paths
pub record IsPathsQuery (q : PathsQuery) : Type 0 where
  pub from : q.from.0 ≤ 255
  pub to : q.to.0 ≤ 255
  pub count : (1 ≤ q.paths) × (q.paths ≤ MAX_PATHS)
  pub apart : q.from ≢ q.to

-- what is asked, with numbers in their ranges
pub record IsAsk (a : Ask) : Type 0 where
  pub port : IsPort a.port
  pub local : IsPort a.local
  pub turns : IsTurns a.turns

-- a command line whose numbers are in their ranges
abbrev pub IsInRange : CommandLine → Type 0
IsInRange (lines.Paths q) = IsPathsQuery q
IsInRange (lines.Generate seed) = IsSeed seed
IsInRange (lines.Daemon turns) = IsTurns turns
IsInRange (lines.Ask a) = IsAsk a
IsInRange _ = Unit {0}

-- ---- command lines

-- texts of this command line
pub record AreTextsOf (texts : Texts) (line : CommandLine) : Type 0 where
  pub range : IsInRange line
  pub are : texts ≡ texts_for line

-- words of this command line
pub record IsCommandLine (words : List Text) (line : CommandLine) : Type 0 where
  pub texts : Texts
  pub given : Gives words texts
  pub of_line : AreTextsOf texts line
