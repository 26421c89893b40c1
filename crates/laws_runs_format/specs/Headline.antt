-- The headline: what holds of every run of a schedule without forgery, after each of its events, whatever compromised nodes send.
use Rattle.std.specs.Prelude.{ℕ, ◌≡◌, ◌<◌, ◌≤◌, false, true, IsTrue, List, [], Some, take}
use Rattle.sp_base.specs.declared.id.NodeId.{NodeId}
use Rattle.sp_journal.specs.declared.entry.Entry.{Entry}
use Rattle.sp_rules.specs.Node.{NodeState, topology_now}
use Rattle.sp_rules.specs.Topologies.{succeeds}
use Rattle.sp_rules.specs.declared.kflow.FlowKind.{FlowKind}
use Rattle.sp_runs.specs.Bounds.{IsBounded}
use Rattle.sp_runs.specs.Held.{AreShares}
use Rattle.sp_runs.specs.Runs.{Clean}
use Rattle.sp_runs.specs.Scenarios.{IsHeader, setting_of}
use Rattle.sp_runs.specs.Settings.{Setting, fixed_at, is_correct, is_node, may_change}
use Rattle.sp_runs.specs.Told.{effects_at}
use Rattle.sp_runs.specs.Worlds.{World, node_in}
use Rattle.sp_schedule_events.specs.declared.event.Event.{Event}
use Rattle.sp_schedule_events.specs.declared.scenario.Scenario.{Scenario}
use Rattle.laws_progress.specs.Delivery.{DeliversInRounds, ReturnsInRounds}
use Rattle.laws_progress.specs.LifeDelivery.{DeliversInLives, ReturnsInLives, StartsAreTold}
use Rattle.laws_progress.specs.Rising.{VersionsNeverFall}
use Rattle.laws_progress.specs.Spreading.{SpreadsInRounds}
use Rattle.laws_node.specs.Withdrawals.{Obeys}
use Rattle.laws_runs.specs.Flows.{FlowClaims}
use Rattle.laws_runs.specs.HeldBoots.{BootClaims}
use Rattle.laws_runs.specs.KeyFiles.{KeysStand}
use Rattle.laws_runs.specs.LifeFlows.{LifeFlowClaims}
use Rattle.laws_runs.specs.LifeKeys.{KeyClaims}
use Rattle.laws_runs.specs.LifePriority.{LifePrioClaims}
use Rattle.laws_runs.specs.LifeWeights.{LifeWeightClaims}
use Rattle.laws_runs.specs.Past.{past}
use Rattle.laws_runs.specs.Priority.{PrioClaims}
use Rattle.laws_runs.specs.Since.{effects_since}
use Rattle.laws_runs.specs.States.{NodeClaims, SignClaims}
use Rattle.laws_runs.specs.Versions.{IsPublished}
use Rattle.laws_runs.specs.Weights.{WeightClaims}
use Rattle.laws_runs_format.specs.Arts.{arts_of}

-- what holds of these events, their journal and the world that they lead to
pub record Claims (x : Setting) (es : List Event) (js : List Entry) (w : World) : Type 0 where
  -- exactly the correct nodes have a state
  pub nodes : NodeClaims x w
  -- Reliable messages from any node to a correct one, in plain flows and in those on paths. What was delivered of a correct source is a prefix of what it
  -- sent, under the numbers 1, 2, 3 and so on, and nothing counts as acknowledged that wasn't delivered
  pub reliable : (kind : FlowKind) (s d : NodeId) → IsTrue (is_node x s) → IsTrue (is_correct x d) → (s ≡ d → ⊥)
      → FlowClaims kind (arts_of x) x s d es js w
  -- priority messages of any source at a correct node: each number at most once, and those of a correct source were sent
  pub priority : (s d : NodeId) → IsTrue (is_correct x d) → PrioClaims x s d es js
  -- no buffer of a correct node is above its bound
  pub bounded : (u : NodeId) (n : NodeState) → node_in w.nodes u ≡ Some n → IsBounded x u n
  -- each eviction takes from the source that has most, and leaves it its share
  pub shares : (u : NodeId) (place : ℕ) → AreShares x.store place [] (effects_at es js u)
  -- the weight of a link is the greatest of its minimum and what its ends said last
  pub weights : WeightClaims (arts_of x) x es js w
  -- whatever a correct node keeps or sends bears its signer's valid signature, and a correct signer signed it in this run
  pub signed : SignClaims (arts_of x) x es js w

-- A run of this setting without forgery. After each of its events, as after all, there is one world, of which the claims hold.
pub record RunClaims (x : Setting) (es : List Event) (js : List Entry) : Type 0 where
  pub reached : (n : ℕ) → (w : World) × Clean (arts_of x) x (take n es) (take n js) w
  pub one : (n : ℕ) (w v : World) → Clean (arts_of x) x (take n es) (take n js) w → Clean (arts_of x) x (take n es) (take n js) v → w ≡ v
  pub claims : (n : ℕ) (w : World) → Clean (arts_of x) x (take n es) (take n js) w → Claims x (take n es) (take n js) w
  -- Within a version, of both kinds of flows: what was accepted is delivered, and what was acknowledged has returned, after so many complete rounds of a path
  -- of correct nodes
  pub delivered : DeliversInRounds (arts_of x) x
  pub returned : ReturnsInRounds (arts_of x) x

-- Of each run of a header in its ranges without epochs, with room for one message a flow at least, as each schedule has it.
abbrev pub EveryRun : Type 0
EveryRun = (s : Scenario) (es : List Event) (js : List Entry) (w : World) → IsHeader s → s.epochs ≡ false → 1 ≤ s.limits.buffer
    → Clean (arts_of (setting_of s)) (setting_of s) es js w → RunClaims (setting_of s) es js

-- ---- with epochs too

-- the versions of the topology that correct nodes run under
pub record VersionClaims (x : Setting) (es : List Event) (w : World) : Type 0 where
  -- each is the header's, or the administrator handed it out with these weights
  pub published : (u : NodeId) (n : NodeState) → node_in w.nodes u ≡ Some n → IsPublished x es n.live.version n.live.weights
  -- of two nodes the topology of the one with the higher version follows that of the other, however many versions lie between
  pub follow : (u v : NodeId) (n m : NodeState) → node_in w.nodes u ≡ Some n → node_in w.nodes v ≡ Some m → n.live.version < m.live.version
      → IsTrue (succeeds (topology_now n) (topology_now m))
  -- nothing waits at a node for an edge that its version withdraws, nor for or from a node that is removed in it, and no flow of such a node goes on
  pub obey : (u : NodeId) (n : NodeState) → node_in w.nodes u ≡ Some n → Obeys n

-- what holds of every run of these events, whether nodes start and stop or not
pub record LivesClaims (x : Setting) (es : List Event) (js : List Entry) (w : World) (run : Clean (arts_of x) x es js w) : Type 0 where
  -- only correct nodes run, each as the header makes it for the boot of its life
  pub nodes : (u : NodeId) (n : NodeState) → node_in w.nodes u ≡ Some n → IsTrue (is_correct x u) × (n.fixed ≡ fixed_at x u n.fixed.boot)
  -- each that runs has the boot of its key file, and signs below its bound
  pub keys : KeysStand x es w
  -- of itself each holds the boot of its life, and of a correct node no boot that this one didn't take
  pub boots : BootClaims (arts_of x) x es js w
  -- no one-time index signs twice, whatever starts and stops are between, and boots rise
  pub rise : (u : NodeId) → IsTrue (is_correct x u) → KeyClaims u (past (arts_of x) x es js w run)
  -- Reliable messages from any node to a correct one, of each pair of boots, in plain flows and in those on paths. What was delivered of a correct source,
  -- while the destination had its boot and held that of the source, is a prefix of what the source sent while it had this boot and held that one, under the
  -- numbers 1, 2, 3 and so on; and nothing counts as acknowledged under two boots that wasn't delivered under them
  pub reliable : (kind : FlowKind) (s d : NodeId) → IsTrue (is_node x s) → IsTrue (is_correct x d) → (s ≡ d → ⊥)
      → LifeFlowClaims kind (arts_of x) x s d es js (past (arts_of x) x es js w run) w
  -- priority messages of any source at a correct node, of each pair of boots: each number at most once, and those of a correct source were sent under that boot
  pub priority : (s d : NodeId) → IsTrue (is_correct x d) → LifePrioClaims x s d (past (arts_of x) x es js w run)
  -- no buffer of a correct node is above its bound
  pub bounded : (u : NodeId) (n : NodeState) → node_in w.nodes u ≡ Some n → IsBounded x u n
  -- since the last start of a node, each eviction takes from the source that has most, and leaves it its share
  pub shares : (u : NodeId) (place : ℕ) → AreShares x.store place [] (effects_since es js u)
  -- the weight of a link is the greatest of its minimum and what its ends said last since then
  pub weights : LifeWeightClaims (arts_of x) x es js w
  -- whatever a correct node keeps or sends bears its signer's valid signature, and a correct signer signed it in this run, in one of its lives
  pub signed : SignClaims (arts_of x) x es js w
  -- no correct node runs under a version that the administrator didn't hand out, a later one follows an earlier one, and none keeps what its own withdraws
  pub versions : VersionClaims x es w

-- A run of this setting without forgery, with epochs or without. After each of its events, as after all, there is one world, of which the claims hold.
pub record RunLives (x : Setting) (es : List Event) (js : List Entry) : Type 0 where
  pub reached : (n : ℕ) → (w : World) × Clean (arts_of x) x (take n es) (take n js) w
  pub one : (n : ℕ) (w v : World) → Clean (arts_of x) x (take n es) (take n js) w → Clean (arts_of x) x (take n es) (take n js) v → w ≡ v
  pub claims : (n : ℕ) (w : World) → (run : Clean (arts_of x) x (take n es) (take n js) w) → LivesClaims x (take n es) (take n js) w run
  -- Within a version, while the nodes of a path stay up: after so many rounds that tell starts each holds the boot of each other's life, and from then on what
  -- flows of both kinds accept is delivered, and what is acknowledged returns, after as many complete rounds as without epochs, whatever all other nodes do
  pub told : x.epochs ≡ true → StartsAreTold (arts_of x) x
  pub delivered : DeliversInLives (arts_of x) x
  pub returned : ReturnsInLives (arts_of x) x
  -- And where the topology may change, whatever is published: after so many rounds each node of a path that stays up runs under at least the version of each
  -- of them before, over withdrawn edges too
  pub spread : may_change x ≡ true → SpreadsInRounds (arts_of x) x
  -- and while a node stays in its life, its version never falls, and who is removed at it stays removed
  pub rise : VersionsNeverFall (arts_of x) x

-- Of each run of a header in its ranges, with room for one message a flow at least, as each schedule has it.
abbrev pub EveryLife : Type 0
EveryLife = (s : Scenario) (es : List Event) (js : List Entry) (w : World) → IsHeader s → 1 ≤ s.limits.buffer
    → Clean (arts_of (setting_of s)) (setting_of s) es js w → RunLives (setting_of s) es js
