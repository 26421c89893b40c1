-- How far a replay came while it read: its run is a front of a whole one, and where its source fails, all that had come was done.
use Rattle.std.specs.Prelude.{ℕ, ◌≡◌, ◌++◌, false, List, Option, Some, None}
use Rattle.std.specs.Io.KnownBytes.{Appends, Consumes}
use Rattle.sp_journal.specs.declared.entry.Entry.{Entry}
use Rattle.sp_lines.specs.Texts.{Leads, Nothing_left}
use Rattle.sp_schedule.specs.Feeds.{is_ready}
use Rattle.sp_schedule.specs.Lines.{says}
use Rattle.sp_schedule.specs.declared.stage.Stage.{Stage}
use Rattle.sp_schedule.specs.declared.stage.Stage.TheVariants as stages
use Rattle.sp_schedule_events.specs.declared.event.Event.{Event}
use Rattle.sp_world.specs.Past.{Past}
use Rattle.sp_replay.specs.Outputs.{AreDone, lines_before}

-- the events and the entries of a past are the first of a whole one's, of the same scenario
pub record IsFrontOf (past whole : Past) : Type 0 where
  pub scenario : whole.scenario ≡ past.scenario
  pub more : List Event
  pub events : whole.events ≡ past.events ++ more
  pub entries : List Entry
  pub journal : whole.journal ≡ past.journal ++ entries

-- before the header was read whole there is none
abbrev pub IsFront : Option Past → Option Past → Type 0
IsFront None whole = Unit {0}
IsFront (Some past) None = ⊥
IsFront (Some past) (Some whole) = IsFrontOf past whole

-- what has come of a text are good lines, which lead to this stage, and the front of one more, which is neither whole nor too long
pub record HasCome (front : List ℕ) (stage : Stage) : Type 0 where
  pub lines : List ℕ
  pub waiting : List ℕ
  pub joined : front ≡ lines ++ waiting
  pub next : ℕ
  pub good : Leads says stages.Start 1 lines stage next Nothing_left
  pub waits : is_ready waiting ≡ false

-- A source failed. All events that had come were done, and their journal was written, and no more
pub record IsBrokenOff (left rest : Option (List ℕ)) (past : Option Past) (before after : Option (List ℕ)) : Type 0 where
  pub front : List ℕ
  pub taken : Consumes left rest front
  pub stage : Stage
  pub come : HasCome front stage
  pub done : AreDone stage past
  pub written : Appends before after (lines_before past)
