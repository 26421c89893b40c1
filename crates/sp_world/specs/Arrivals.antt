-- A datagram that arrives at one node among all.
use Rattle.std.specs.Prelude.{ℕ, ◌≡◌, List, None, Some}
use Rattle.sp_base.specs.declared.id.NodeId.{NodeId}
use Rattle.laws_runs_format.specs.Arts.{arts_of}
use Rattle.sp_journal.specs.declared.entry.Entry.{Entry}
use Rattle.sp_rules.specs.Node.{NodeState}
use Rattle.sp_rules.specs.Steps.{Datagram, NodeStep, Output}
use Rattle.sp_runs.specs.Forgery.{forged}
use Rattle.sp_runs.specs.Journals.{Says}
use Rattle.sp_runs.specs.Scenarios.{setting_of}
use Rattle.sp_runs.specs.Worlds.{Crafted, Direction, node_in, with_node, without_node}
use Rattle.sp_runs.specs.declared.what.What.{What}
use Rattle.sp_schedule_events.specs.declared.event.Event.{Event}
use Rattle.sp_schedule_events.specs.declared.published.Published.{Published}
use Rattle.sp_schedule_events.specs.declared.scenario.Scenario.{Scenario}
use Rattle.sp_world.specs.declared.acts.Done.{Done}
use Rattle.sp_world.specs.declared.acts.Done.TheVariants as dones
use Rattle.sp_keystate.specs.declared.numbers.Numbers.{Numbers}
use Rattle.sp_world_steps.specs.Members.{CanCall}
use Rattle.sp_world_steps.specs.Polls.{world_of}

-- v is there, answers u, and is of the scenario, with signatures of this length
pub record CanHear (s : Scenario) (len : ℕ) (nodes : List NodeState) (v u : NodeId) : Type 0 where
  pub call : CanCall nodes v u
  pub me : call.node.fixed.me ≡ v
  pub of_format : call.node.fixed.topology.format ≡ s.format
  pub epochs : call.node.fixed.epochs ≡ s.epochs
  pub long : call.node.fixed.signature_len ≡ len

-- v took it, its entry tells it, and nothing of it is forged
pub record IsHeard (s : Scenario) (es : List Event) (js : List Entry) (nodes : List NodeState) (directions : List Direction) (u v : NodeId) (bytes : List ℕ)
    (entry : Entry) (after : List NodeState) : Type 0 where
  pub old : NodeState
  pub new : NodeState
  pub output : Output
  pub is_there : node_in nodes v ≡ Some old
  pub step : NodeStep (arts_of (setting_of s)) old (Datagram u bytes) output new
  pub says : Says (setting_of s) 0 output entry
  pub unforged : (keys : List Numbers) (crafted : List Crafted) (last : Published)
      → forged (arts_of (setting_of s)) (setting_of s) es js (world_of keys nodes directions crafted last) old (Datagram u bytes) output ≡ None
  pub nodes_are : after ≡ with_node nodes v new

-- v took it, this of it is forged, and v is gone
pub record IsFound (s : Scenario) (es : List Event) (js : List Entry) (nodes : List NodeState) (directions : List Direction) (u v : NodeId) (bytes : List ℕ)
    (what : What) (after : List NodeState) : Type 0 where
  pub old : NodeState
  pub new : NodeState
  pub output : Output
  pub entry : Entry
  pub is_there : node_in nodes v ≡ Some old
  pub step : NodeStep (arts_of (setting_of s)) old (Datagram u bytes) output new
  pub says : Says (setting_of s) 0 output entry
  pub found : (keys : List Numbers) (crafted : List Crafted) (last : Published)
      → forged (arts_of (setting_of s)) (setting_of s) es js (world_of keys nodes directions crafted last) old (Datagram u bytes) output ≡ Some what
  pub nodes_are : after ≡ without_node nodes v

-- what becomes of a datagram that arrives
abbrev pub Arrives : Scenario → List Event → List Entry → List NodeState → List Direction → (u v : NodeId) → List ℕ → Done → List NodeState → Type 0
Arrives s es js nodes directions u v bytes (dones.Told entry) after = IsHeard s es js nodes directions u v bytes entry after
Arrives s es js nodes directions u v bytes (dones.Forged what told) after = IsFound s es js nodes directions u v bytes what after × (told ≡ what)
