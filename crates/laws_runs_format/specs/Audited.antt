-- What an auditor finds of every run of a schedule: no broken promise.
use Rattle.std.specs.Prelude.{◌≡◌, false, List}
use Rattle.sp_journal.specs.declared.entry.Entry.{Entry}
use Rattle.sp_runs.specs.Runs.{Clean}
use Rattle.sp_runs.specs.Scenarios.{IsHeader, setting_of}
use Rattle.sp_runs.specs.Worlds.{World}
use Rattle.sp_schedule_events.specs.declared.event.Event.{Event}
use Rattle.sp_schedule_events.specs.declared.scenario.Scenario.{Scenario}
use Rattle.laws_runs.specs.Good.{AreGood}
use Rattle.laws_runs_format.specs.Arts.{arts_of}
use Rattle.laws_runs_format.specs.Headline.{RunClaims}

-- of each run without forgery of a header in its ranges without epochs
abbrev pub RunsPassAudits : Type 0
RunsPassAudits = (s : Scenario) (es : List Event) (js : List Entry) (w : World) → IsHeader s → s.epochs ≡ false
    → Clean (arts_of (setting_of s)) (setting_of s) es js w
    → AreGood (setting_of s) es js

-- and so of each that the headline is true of
abbrev pub ClaimedRunsPassAudits : Type 0
ClaimedRunsPassAudits = (s : Scenario) (es : List Event) (js : List Entry) → IsHeader s → s.epochs ≡ false → RunClaims (setting_of s) es js
    → AreGood (setting_of s) es js
