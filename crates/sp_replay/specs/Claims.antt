-- What is promised of the world of a run, and of what a replay and the schedule of a number write.
use Rattle.std.specs.Prelude.{ℕ, ◌≡◌, ◌⊎◌, ◌++◌, false, List, Option, Some, None, IfSome}
use Rattle.std.specs.Io.KnownBytes.{Appends}
use Rattle.laws_runs_format.specs.Headline.{RunClaims, RunLives}
use Rattle.sp_journal.specs.JournalText.{journal_lines}
use Rattle.sp_outside.specs.Streams.{AppendsFront}
use Rattle.sp_replay.specs.Fronts.{IsFront}
use Rattle.sp_replay.specs.Outputs.{IsGenerated, IsOutput, generated_text, lines_but_last}
use Rattle.sp_runs.specs.Scenarios.{setting_of}
use Rattle.sp_words.specs.declared.status.Status.{Status}
use Rattle.sp_words.specs.declared.status.Status.TheVariants as statuses
use Rattle.sp_world.specs.Past.{Past, IsPast}

-- what holds of the world of an outcome
pub record WorldClaims (past : Past) : Type 0 where
  -- Its events are a run without forgery: each event is a step of its acting node alone, or a node starts or stops, or it comes to nobody; and the
  -- journal tells it
  pub run : IsPast past
  -- what is claimed of each such run, after each of its events, whether nodes start and stop or not
  pub lives : RunLives (setting_of past.scenario) past.events past.journal
  -- and what more is claimed where the header says no epochs
  pub claims : past.scenario.epochs ≡ false → RunClaims (setting_of past.scenario) past.events past.journal

-- ---- a replay

-- the sink got the whole output that goes with the status
pub record IsWritten (left : Option (List ℕ)) (past : Option Past) (status : Status) (before after : Option (List ℕ)) : Type 0 where
  pub output : List ℕ
  pub is_output : IsOutput left past status output
  pub written : Appends before after output

-- the sink got a beginning of an output that some status would have had; the world is a front of that output's
pub record IsBegun (left : Option (List ℕ)) (past : Option Past) (before after : Option (List ℕ)) : Type 0 where
  pub whole : Option Past
  pub claims : IfSome whole WorldClaims
  pub goes_on : IsFront past whole
  pub status : Status
  pub output : List ℕ
  pub is_output : IsOutput left whole status output
  pub begun : AppendsFront before after output

-- Of a past whose run is this whole one, the journal was written but for its last piece; and what was begun is no more than this journal, unless the
-- whole run has no more. Where there is no past, the header is refused
abbrev pub WroteUpTo : Option Past → Option Past → Option (List ℕ) → Option (List ℕ) → Type 0
WroteUpTo None whole before after = whole ≡ None
WroteUpTo (Some past) whole before after =
    ((rest : List ℕ) × Appends before after (lines_but_last past.journal ++ rest))
    × ((whole ≡ Some past) ⊎ AppendsFront before after (journal_lines past.journal))

-- its sink failed, and its world came as far as it wrote
pub record IsSunk (left : Option (List ℕ)) (past : Option Past) (before after : Option (List ℕ)) : Type 0 where
  pub begun : IsBegun left past before after
  pub wrote : WroteUpTo past begun.whole before after

-- what the sink got, by how the replay ended
abbrev pub Replays : Option (List ℕ) → Option Past → Status → Option (List ℕ) → Option (List ℕ) → Type 0
Replays left past statuses.Sink before after = IsSunk left past before after
Replays left past statuses.Source before after = IsBegun left past before after
Replays left past statuses.Memory before after = IsBegun left past before after
Replays left past status before after = IsWritten left past status before after

-- ---- the schedule of a number

-- what the sink got, by how it ended: the whole summary of the schedule's run, or a beginning of it, or nothing where there was no memory
abbrev pub Generates : ℕ → Option Past → Status → Option (List ℕ) → Option (List ℕ) → Type 0
Generates number (Some past) statuses.Done before after = IsGenerated number past × Appends before after (generated_text past.journal)
Generates number (Some past) statuses.Sink before after = IsGenerated number past × AppendsFront before after (generated_text past.journal)
Generates number None statuses.Memory before after = after ≡ before
Generates number past status before after = ⊥
