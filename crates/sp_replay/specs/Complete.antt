-- Which runs must be done: what a replay and the schedule of a number may not refuse.
use Rattle.std.specs.Prelude.{ℕ, ◌≡◌, ◌⊎◌, List, Option, Some, None}
use Rattle.laws_runs_format.specs.Unforged.{NothingForged}
use Rattle.sp_schedule.specs.declared.stage.Stage.{Stage}
use Rattle.sp_schedule.specs.declared.stage.Stage.TheVariants as stages
use Rattle.sp_schedule.specs.declared.stage.Ending.TheVariants as endings
use Rattle.sp_schedule.specs.declared.refused.Kind.{Kind}
use Rattle.sp_schedule_events.specs.declared.scenario.Scenario.{Scenario}
use Rattle.sp_schedule_events.specs.declared.event.Event.{Event}
use Rattle.sp_replay.specs.Outputs.{IsRead, Spells}
use Rattle.sp_words.specs.declared.status.Status.{Status}
use Rattle.sp_words.specs.declared.status.Status.TheVariants as statuses

-- ---- inputs

-- the text is that of a schedule of which no event is forged
pub record IsHonest (text : List ℕ) : Type 0 where
  pub scenario : Scenario
  pub events : List Event
  pub spells : Spells text scenario events
  pub unforged : NothingForged scenario events

-- no event of a stage is forged. Before the line `begin` it has none
abbrev pub IsUnforged : Stage → Type 0
IsUnforged (stages.Events s es) = NothingForged s es
IsUnforged (stages.End s es) = NothingForged s es
IsUnforged _ = Unit {0}

-- the text has a first bad line, and no event before it is forged
pub record HasBadLine (text : List ℕ) : Type 0 where
  pub stage : Stage
  pub line : ℕ
  pub kind : Kind
  pub reading : IsRead text stage (endings.Refused line kind)
  pub unforged : IsUnforged stage

-- this holds of what a source told that it had left
abbrev pub Tells : (List ℕ → Type 0) → Option (List ℕ) → Type 0
Tells Holds None = ⊥
Tells Holds (Some text) = Holds text

-- ---- endings

-- it ended so, or there was no memory
abbrev pub EndsAs : Status → Status → Type 0
EndsAs wanted status = (status ≡ wanted) ⊎ (status ≡ statuses.Memory)

-- How a replay ends in which neither the source nor the sink fails.
pub record IsCompleteReplay (left : Option (List ℕ)) (status : Status) : Type 0 where
  -- a schedule of which nothing is forged is run to its end
  pub honest : Tells IsHonest left → EndsAs statuses.Done status
  -- a text that is no schedule is refused, where nothing is forged before its first bad line
  pub bad : Tells HasBadLine left → EndsAs statuses.Refused status

-- it is done, or the sink failed, or there was no memory
abbrev pub IsDoneOrFailed : Status → Type 0
IsDoneOrFailed status = (status ≡ statuses.Done) ⊎ ((status ≡ statuses.Sink) ⊎ (status ≡ statuses.Memory))
