-- How many complete rounds of a path a schedule has.
use Rattle.std.specs.Prelude.{ℕ, List}
use Rattle.sp_audit.specs.Counted.{IsCount}
use Rattle.sp_base.specs.declared.id.NodeId.{NodeId}
use Rattle.sp_runs.specs.Paths.{IsCorrectPath}
use Rattle.sp_runs.specs.Scenarios.{setting_of}
use Rattle.sp_schedule_events.specs.declared.event.Event.{Event}
use Rattle.sp_schedule_events.specs.declared.scenario.Scenario.{Scenario}
use Rattle.sp_auditor.specs.Texts.{File, IsUnfit, TellsPlain}
use Rattle.sp_auditor.specs.declared.count.Count.{Count}
use Rattle.sp_auditor.specs.declared.count.Count.TheVariants as counts

-- so many follow one after another from the event of this number on, and one more don't
pub record HasRounds (schedule : File) (path : List NodeId) (from n : ℕ) : Type 0 where
  pub scenario : Scenario
  pub events : List Event
  pub plain : TellsPlain schedule scenario events
  pub counted : IsCount (setting_of scenario) events path from n

-- the nodes are no path of the schedule's correct nodes
pub record HasNoPath (schedule : File) (path : List NodeId) : Type 0 where
  pub scenario : Scenario
  pub events : List Event
  pub plain : TellsPlain schedule scenario events
  pub none : (s d : NodeId) → IsCorrectPath (setting_of scenario) s d path → ⊥

-- this is the count of a path's rounds in a file
abbrev pub IsCounted : File → List NodeId → ℕ → Count → Type 0
IsCounted schedule path from (counts.Rounds n) = HasRounds schedule path from n
IsCounted schedule path from counts.NoPath = HasNoPath schedule path
IsCounted schedule path from (counts.Unjudged unfit) = IsUnfit schedule unfit
