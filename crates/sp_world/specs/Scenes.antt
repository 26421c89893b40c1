-- All of a world that events change, as it stands in memory.
use Rattle.std.specs.Prelude.{◌≡◌, ◌≤◌, ◌<◌, ◌^◌, true, List, Some, IsTrue}
use Rattle.sp_adversary.specs.Crafters.{Crafters, crafters_of}
use Rattle.sp_base.specs.declared.id.NodeId.{NodeId}
use Rattle.sp_epoch.specs.Numbers.{IsOneOf, numbers_at}
use Rattle.sp_keystate.specs.declared.numbers.Numbers.{Numbers}
use Rattle.sp_rules.specs.Node.{NodeState}
use Rattle.sp_runs.specs.Scenarios.{IsHeader, setting_of}
use Rattle.sp_runs.specs.Settings.{is_correct}
use Rattle.sp_runs.specs.Worlds.{Crafted, Direction, World, node_in}
use Rattle.sp_schedule_events.specs.declared.published.Published.{Published}
use Rattle.sp_schedule_events.specs.declared.scenario.Scenario.{Scenario}
use Rattle.sp_world_steps.specs.Polls.{world_of}

-- the key files, the nodes, the frames, the signers for crafted objects, and the last version that was published
pub record Scene : Type 0 where
  pub keys : List Numbers
  pub nodes : List NodeState
  pub directions : List Direction
  pub crafters : Crafters
  pub published : Published

-- the world that it is
abbrev pub world_in : Scene → World
world_in c = world_of c.keys c.nodes c.directions c.crafters.keys c.published

-- the crafting signers are those of the scenario
abbrev pub IsOf : Scenario → Scene → Type 0
IsOf s c = c.crafters ≡ crafters_of s c.crafters.keys

-- ---- before a start, a stop and a reserve

-- a node's file may be changed
pub record HasFile (s : Scenario) (keys : List Numbers) (u : NodeId) : Type 0 where
  pub there : IsOneOf keys u
  pub serial : (numbers_at keys u).serial < 2 ^ 61
  pub boot : (numbers_at keys u).boot < 2 ^ 61
  pub bound : (numbers_at keys u).bound ≤ (setting_of s).total

-- a correct node may start
pub record CanBegin (s : Scenario) (keys : List Numbers) (u : NodeId) : Type 0 where
  pub header : IsHeader s
  pub epochs : s.epochs ≡ true
  pub correct : IsTrue (is_correct (setting_of s) u)
  pub file : HasFile s keys u

-- the signer of a node that runs has the bound of its file, below the total of its key
pub record IsFiled (s : Scenario) (keys : List Numbers) (u : NodeId) (n : NodeState) : Type 0 where
  pub me : n.fixed.me ≡ u
  pub file : HasFile s keys u
  pub bound : n.signer.bound ≡ (numbers_at keys u).bound
  pub total : n.signer.total ≡ (setting_of s).total

-- with epochs each node of this id that runs is such
abbrev pub AreFiled : Scenario → List Numbers → List NodeState → NodeId → Type 0
AreFiled s keys nodes u = s.epochs ≡ true → (n : NodeState) → node_in nodes u ≡ Some n → IsFiled s keys u n

-- with so many objects crafted
abbrev pub with_crafted : Scene → List Crafted → Scene
with_crafted c crafted = record c { crafters = record c.crafters { keys = crafted } }
