-- The way of a document over this format: frames with documents begin as such, and so versions of the topology spread in every setting that a schedule's header
-- makes.
use Rattle.std.specs.Prelude.{ℕ, ◌≡◌, true}
use Rattle.sp_node_format.specs.Format.{format_in}
use Rattle.sp_runs.specs.Scenarios.{IsHeader, setting_of}
use Rattle.sp_runs.specs.Settings.{may_change}
use Rattle.sp_schedule_events.specs.declared.scenario.Scenario.{Scenario}
use Rattle.laws_progress.specs.Spreading.{DocumentsBegin, SpreadsInRounds}
use Rattle.laws_runs_format.specs.Arts.{arts_of}

-- a frame with a document begins as one, with signatures of any length
abbrev pub FormatBringsDocuments : Type 0
FormatBringsDocuments = (format len : ℕ) → DocumentsBegin format (format_in format) len

-- while the nodes of a path stay up, each runs after hops + 1 rounds under at least the version of each of them before
abbrev pub SchedulesSpreadVersions : Type 0
SchedulesSpreadVersions = (s : Scenario) → IsHeader s → may_change (setting_of s) ≡ true → SpreadsInRounds (arts_of (setting_of s)) (setting_of s)
