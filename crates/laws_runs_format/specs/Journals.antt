-- How much the journal of a run tells: an entry for each event, and no more deliveries than a number of 8 bytes counts.
use Rattle.std.specs.Prelude.{◌≡◌, ◌≤◌, ◌*◌, List, length}
use Rattle.sp_frame.specs.declared.frame.TheConstants.{MAX_FRAME_BYTES}
use Rattle.sp_journal.specs.JournalText.{delivered_count, priority_count}
use Rattle.sp_journal.specs.declared.entry.Entry.{Entry}
use Rattle.sp_runs.specs.Runs.{Clean}
use Rattle.sp_runs.specs.Scenarios.{IsHeader, setting_of}
use Rattle.sp_runs.specs.Worlds.{World}
use Rattle.sp_schedule_events.specs.declared.event.Event.{Event}
use Rattle.sp_schedule_events.specs.declared.scenario.Scenario.{Scenario}
use Rattle.laws_runs_format.specs.Arts.{arts_of}

-- each event has an entry, which tells no more deliveries than a frame has bytes
pub record IsCountable (es : List Event) (js : List Entry) : Type 0 where
  pub entries : length js ≡ length es
  pub deliveries : delivered_count js ≤ MAX_FRAME_BYTES * length js
  pub priority : priority_count js ≤ MAX_FRAME_BYTES * length js

-- of each run of a header in its ranges
abbrev pub JournalsAreCountable : Type 0
JournalsAreCountable = (s : Scenario) (es : List Event) (js : List Entry) (w : World) → IsHeader s
    → Clean (arts_of (setting_of s)) (setting_of s) es js w
    → IsCountable es js
