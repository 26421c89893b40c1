-- What follows of a replay from what is claimed of it: which schedules are run to their end, which texts are refused, what a forgery leaves, and what
-- a replay had done that broke off.
use Rattle.std.specs.Prelude.{ℕ, ◌≡◌, ◌≢◌, false, List, [], ◌∷◌, ◌++◌, Option, Some, None}
use Rattle.std.specs.Io.KnownBytes.{Appends}
use Rattle.std.specs.List.{All}
use Rattle.laws_runs_format.specs.Hostile.{IsHostile}
use Rattle.laws_runs_format.specs.Unforged.{IsHarmless}
use Rattle.sp_base.specs.declared.id.NodeId.{NodeId}
use Rattle.sp_journal.specs.JournalText.{journal_lines}
use Rattle.sp_journal.specs.declared.entry.Entry.{Entry}
use Rattle.laws_runs_format.specs.Arts.{arts_of}
use Rattle.sp_replay.specs.Claims.{IsSunk}
use Rattle.sp_replay.specs.Complete.{EndsAs, IsCompleteReplay}
use Rattle.sp_replay.specs.Fronts.{IsBrokenOff}
use Rattle.sp_replay.specs.Outputs.{IsForgery, Spells}
use Rattle.sp_runs.specs.Inputs.{acting}
use Rattle.sp_runs.specs.Runs.{Clean}
use Rattle.sp_runs.specs.Scenarios.{setting_of}
use Rattle.sp_runs.specs.Worlds.{World, node_in}
use Rattle.sp_runs.specs.declared.what.What.{What}
use Rattle.sp_schedule_events.specs.declared.event.Event.{Event}
use Rattle.sp_schedule_events.specs.declared.scenario.Scenario.{Scenario}
use Rattle.sp_words.specs.declared.status.Status.{Status}
use Rattle.sp_words.specs.declared.status.Status.TheVariants as statuses
use Rattle.sp_world.specs.Past.{Past}

-- a schedule of harmless events, without epochs, is run to its end
abbrev pub HarmlessSchedulesAreRun : Type 0
HarmlessSchedulesAreRun = (text : List ℕ) (s : Scenario) (es : List Event) (status : Status) → Spells text s es → s.epochs ≡ false
    → All (IsHarmless (setting_of s)) es → IsCompleteReplay (Some text) status → EndsAs statuses.Done status

-- a text without a byte is no schedule
abbrev pub EmptyTextsAreRefused : Type 0
EmptyTextsAreRefused = (status : Status) → IsCompleteReplay (Some []) status → EndsAs statuses.Refused status

-- a source that failed before its first byte: no world was made, and nothing was written
abbrev pub NothingReadIsNothingDone : Type 0
NothingReadIsNothingDone = (text : List ℕ) (past : Option Past) (before after : Option (List ℕ)) → IsBrokenOff (Some text) (Some text) past before after
    → (past ≡ None) × Appends before after []

-- a sink that failed got the journal of all events of the world but the last
abbrev pub AllButTheLastIsWritten : Type 0
AllButTheLastIsWritten = (left : Option (List ℕ)) (past : Past) (first : List Entry) (last : Entry) (before after : Option (List ℕ))
    → past.journal ≡ first ++ last ∷ [] → IsSunk left (Some past) before after → (rest : List ℕ) × Appends before after (journal_lines first ++ rest)

-- A forgery leaves all frames, and all nodes but the one that acted in its event, which is the adversary's, as they were at the end of the run before it.
-- So also where the source told nothing of its text
pub record LeavesOthers (past : Past) : Type 0 where
  pub event : Event
  pub hostile : IsHostile event
  pub world : World
  pub run : Clean (arts_of (setting_of past.scenario)) (setting_of past.scenario) past.events past.journal world
  pub frames : past.world.directions ≡ world.directions
  pub nodes : (u : NodeId) → u ≢ acting event → node_in past.world.nodes u ≡ node_in world.nodes u

-- the law that a forgery leaves all events before it as they were
abbrev pub ForgeriesLeaveOthers : Type 0
ForgeriesLeaveOthers = (left : Option (List ℕ)) (past : Past) (number : ℕ) (what : What) → IsForgery left past number what → LeavesOthers past
