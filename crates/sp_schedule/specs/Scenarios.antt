-- A scenario in its ranges, and events in theirs, one after the other.
use Rattle.std.specs.Prelude.{ℕ, ◌≡◌, ◌+◌, ◌≤◌, true, List, [], ◌∷◌, ◌++◌, length}
use Rattle.sp_base.specs.Formats.{IsFormat}
use Rattle.sp_base.specs.Spelling.{AreBytes}
use Rattle.sp_base.specs.declared.format.TheConstants.{FORMAT_2}
use Rattle.sp_base.specs.declared.limits.TheConstants.{MAX_BUFFER, MAX_EVENTS, MAX_STORE}
use Rattle.sp_base.specs.declared.id.NodeId.{NodeId}
use Rattle.sp_base.specs.declared.id.Limits.{Limits}
use Rattle.sp_graph.specs.Edges.{IsGraphIn}
use Rattle.sp_schedule_events.specs.EventLines.{InRange}
use Rattle.sp_schedule_events.specs.declared.scenario.Scenario.{Scenario}
use Rattle.sp_schedule_events.specs.declared.event.Event.{Event}

abbrev pub IsSeed : List ℕ → Type 0
IsSeed seed = (length seed ≡ 32) × AreBytes seed

-- at most so many messages of a reliable flow, and so many entries of a priority store
pub record AreBounds (limits : Limits) : Type 0 where
  pub buffer : (1 ≤ limits.buffer) × (limits.buffer ≤ MAX_BUFFER)
  pub store : (1 ≤ limits.store) × (limits.store ≤ MAX_STORE)

-- ids from this one on up to the last node, each above the one before
abbrev pub Ascend : ℕ → ℕ → List NodeId → Type 0
Ascend low nodes [] = Unit {0}
Ascend low nodes (b ∷ bs) = (low ≤ b.0) × (b.0 ≤ nodes) × Ascend (b.0 + 1) nodes bs

-- a scenario whose fields are in their ranges
pub record IsScenario (s : Scenario) : Type 0 where
  pub format : IsFormat s.format
  pub seed : IsSeed s.seed
  pub limits : AreBounds s.limits
  pub graph : IsGraphIn s.format s.graph
  pub bad : Ascend 1 s.graph.nodes s.bad
  pub epochs : s.epochs ≡ true → s.format ≡ FORMAT_2

-- each event may come after those before it
pub data AreInRange (s : Scenario) : List Event → Type 0 where
  None_yet : AreInRange s []
  One_more : {before : List Event} (e : Event) → AreInRange s before → InRange s before e → AreInRange s (before ++ e ∷ [])

-- a good scenario with good events, which aren't too many
pub record IsSchedule (s : Scenario) (es : List Event) : Type 0 where
  pub scenario : IsScenario s
  pub events : AreInRange s es
  pub count : length es ≤ MAX_EVENTS
