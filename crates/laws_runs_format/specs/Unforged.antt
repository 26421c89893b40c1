-- Schedules of which no event is forged: what that means, and which schedules are such whatever their runs answer.
use Rattle.std.specs.Prelude.{ℕ, ◌≡◌, ◌∷◌, ◌++◌, false, List}
use Rattle.std.specs.List.{All}
use Rattle.sp_journal.specs.declared.entry.Entry.{Entry}
use Rattle.sp_runs.specs.Runs.{Clean, IsForgedAt}
use Rattle.sp_runs.specs.Scenarios.{setting_of}
use Rattle.sp_runs.specs.Settings.{Setting}
use Rattle.sp_runs.specs.Worlds.{World}
use Rattle.sp_runs.specs.declared.what.What.{What}
use Rattle.sp_schedule.specs.Scenarios.{IsSchedule}
use Rattle.sp_schedule_events.specs.declared.event.Event.{Event}
use Rattle.sp_schedule_events.specs.declared.event.Event.TheVariants as events
use Rattle.sp_schedule_events.specs.declared.scenario.Scenario.{Scenario}
use Rattle.sp_generate.specs.Generated.{generated_events, generated_scenario}
use Rattle.laws_runs.specs.Crafts.{IsNoFrame, NamesNoCorrectNode}
use Rattle.laws_runs_format.specs.Arts.{arts_of}

-- no event of the schedule is forged, after any run of those before it
abbrev pub NothingForged : Scenario → List Event → Type 0
NothingForged s es = (before : List Event) (event : Event) (after : List Event) (js : List Entry) (w : World) (what : What) → es ≡ before ++ event ∷ after
    → Clean (arts_of (setting_of s)) (setting_of s) before js w → IsForgedAt (arts_of (setting_of s)) (setting_of s) before js w event what → ⊥

-- what the adversary brings is no frame, or was crafted by a compromised node in the name of one. A crafted document isn't counted among these, since the
-- administrator's key may sign it
abbrev pub IsHarmless : Setting → Event → Type 0
IsHarmless x (events.Flip u v number back bit) = ⊥
IsHarmless x (events.Inject u v bytes) = IsNoFrame (arts_of x) bytes
IsHarmless x (events.Craft c v key body) = NamesNoCorrectNode x (events.Craft c v key body)
IsHarmless x (events.CraftStatus c v s d base have) = NamesNoCorrectNode x (events.CraftStatus c v s d base have)
IsHarmless x (events.CraftDocument c v key version weights) = ⊥
IsHarmless x _ = Unit {0}

-- a good schedule of harmless events, without epochs
abbrev pub HarmlessSchedulesForgeNothing : Type 0
HarmlessSchedulesForgeNothing = (s : Scenario) (es : List Event) → IsSchedule s es → s.epochs ≡ false → All (IsHarmless (setting_of s)) es → NothingForged s es

-- so the schedule of each number
abbrev pub GeneratedForgeNothing : Type 0
GeneratedForgeNothing = (number : ℕ) → NothingForged (generated_scenario number) (generated_events number)
