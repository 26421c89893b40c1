-- A run, and one more event in its range.
use Rattle.std.specs.Prelude.{ℕ, ◌≡◌, ◌≤◌, ◌<◌, false, List, None, Some, length, position}
use Rattle.sp_base.specs.declared.id.NodeId.{NodeId}
use Rattle.sp_base.specs.declared.limits.TheConstants.{MAX_EDGES_2, MAX_EVENTS}
use Rattle.laws_runs_format.specs.Arts.{arts_of}
use Rattle.sp_journal.specs.declared.entry.Entry.{Entry}
use Rattle.sp_rules.specs.Node.{NodeState, link_in}
use Rattle.sp_rules.specs.Steps.{Datagram}
use Rattle.sp_runs.specs.Forgery.{forged}
use Rattle.sp_runs.specs.Inputs.{acting, input_of}
use Rattle.sp_runs.specs.Lives.{IsOther, comes_to_nobody, ready}
use Rattle.sp_runs.specs.Runs.{Clean, InRange, IsCraftOf, IsForgedAt, Move, Turn, crafted_after, forged_in}
use Rattle.sp_runs.specs.Scenarios.{IsHeader, edge_key, setting_of}
use Rattle.sp_runs.specs.Settings.{Setting}
use Rattle.sp_runs.specs.Worlds.{Crafted, World, crafts, node_in}
use Rattle.sp_runs.specs.declared.what.What.{What}
use Rattle.sp_schedule_events.specs.declared.event.Event.{Event}
use Rattle.sp_schedule_events.specs.declared.event.Event.TheVariants as events
use Rattle.sp_schedule_events.specs.declared.scenario.Scenario.{Scenario}
use Rattle.sp_topology.specs.Neighbours.{joins}
use Rattle.sp_world.specs.Past.{IsWithout}
use Rattle.sp_world.specs.declared.bytes.Came.{Came}
use Rattle.sp_world.specs.declared.bytes.Came.TheVariants as cames
use Rattle.sp_world.specs.declared.acts.Done.{Done}
use Rattle.sp_world.specs.declared.acts.Done.TheVariants as dones

-- nothing is forged in the events so far, they led to this world, and the next one is in its range
pub record Stands (s : Scenario) (es : List Event) (js : List Entry) (w : World) (event : Event) : Type 0 where
  pub header : IsHeader s
  pub clean : Clean (arts_of (setting_of s)) (setting_of s) es js w
  pub range : InRange (setting_of s) es event
  pub few : length es < MAX_EVENTS

-- and it comes to a node that runs: what it asks, or the bytes that it brings
pub record ComesToOne (s : Scenario) (es : List Event) (js : List Entry) (w : World) (event : Event) : Type 0 where
  pub stands : Stands s es js w event
  pub other : IsOther event
  pub somebody : comes_to_nobody w event ≡ false

-- the same, where the node has reserved what it reserves before it acts
pub record Acts (s : Scenario) (es : List Event) (js : List Entry) (w : World) (event : Event) : Type 0 where
  pub before : World
  pub comes : ComesToOne s es js before event
  pub is_ready : w ≡ ready (setting_of s) before event

-- ---- bytes that come

-- bytes come by this event
abbrev pub IsArrival : Event → Type 0
IsArrival (events.Pass u v number) = Unit {0}
IsArrival (events.Flip u v number back bit) = Unit {0}
IsArrival (events.Inject u v bytes) = Unit {0}
IsArrival (events.Craft c v key body) = Unit {0}
IsArrival (events.CraftStatus c v s d base have) = Unit {0}
IsArrival (events.CraftDocument c v key version weights) = Unit {0}
IsArrival _ = ⊥

-- the neighbour from whose address they come
abbrev pub sender : Event → NodeId
sender (events.Pass u v number) = u
sender (events.Flip u v number back bit) = u
sender (events.Inject u v bytes) = u
sender (events.Craft c v key body) = c
sender (events.CraftStatus c v s d base have) = c
sender (events.CraftDocument c v key version weights) = c
sender e = acting e

-- the node is there
pub record IsThere (nodes : List NodeState) (v : NodeId) : Type 0 where
  pub node : NodeState
  pub is_there : node_in nodes v ≡ Some node

-- the node is there, under a topology of this format
pub record IsOfFormat (format : ℕ) (nodes : List NodeState) (v : NodeId) : Type 0 where
  pub node : NodeState
  pub is_there : node_in nodes v ≡ Some node
  pub me : node.fixed.me ≡ v
  pub of_format : node.fixed.topology.format ≡ format

-- an edge of the graph joins the two
pub record IsEdgeOf (s : Scenario) (c v : NodeId) : Type 0 where
  pub few : length s.graph.edges ≤ MAX_EDGES_2
  pub edge : ℕ
  pub joined : position (joins c.0 v.0) s.graph.edges ≡ Some edge

-- a frame of c for v may be crafted: v tags under the key of their edge
pub record CanCraft (s : Scenario) (nodes : List NodeState) (c v : NodeId) : Type 0 where
  pub first : IsOfFormat s.format nodes v
  pub edge : IsEdgeOf s c v
  pub keyed : (link_in first.node c).key ≡ edge_key s.seed edge.edge

-- a message was to be crafted, and the signer of its key is spent
pub record IsSpent (x : Setting) (w : World) (event : Event) (total : ℕ) : Type 0 where
  pub key : NodeId
  pub is_craft : IsCraftOf key event
  pub spent : x.total ≤ crafts w.crafted key
  pub total_is : total ≡ x.total

-- these bytes come to the node that acts, or none, as the signer is spent
abbrev pub Comes : Setting → World → Event → Came → Type 0
Comes x w event (cames.Datagram bytes) =
    (n : NodeState) → node_in w.nodes (acting event) ≡ Some n → input_of (arts_of x) x w n event ≡ Some (Datagram (sender event) bytes)
Comes x w event (cames.Spent total) = IsSpent x w event total

-- and what was crafted is counted
abbrev pub crafted_by : List Crafted → Event → Came → List Crafted
crafted_by crafted event (cames.Datagram bytes) = crafted_after crafted event
crafted_by crafted event (cames.Spent total) = crafted

-- ---- what an event comes to

-- a turn in which nothing is forged
pub record IsTold (x : Setting) (es : List Event) (js : List Entry) (old : World) (event : Event) (entry : Entry) (new : World) : Type 0 where
  pub turn : Turn (arts_of x) x old event entry new
  pub unforged : forged_in (arts_of x) x es js old event entry new turn ≡ None

-- it is told by its entry, or this of it is forged, and the node that acts is gone
abbrev pub ComesTo : Setting → List Event → List Entry → World → Event → Done → World → Type 0
ComesTo x es js old event (dones.Told entry) new = IsTold x es js old event entry new
ComesTo x es js old event (dones.Forged what told) new = IsForgedAt (arts_of x) x es js old event what × ((told ≡ what) × IsWithout old (acting event) new)

-- the same of a node that has reserved: it moves in this world
pub record IsMoved (x : Setting) (es : List Event) (js : List Entry) (w : World) (event : Event) (entry : Entry) (new : World) : Type 0 where
  pub move : Move (arts_of x) x w event entry new
  pub unforged : forged (arts_of x) x es js w move.node move.input move.output ≡ None

-- an event that is forged: what its move would be, and what of it is forged
pub record IsMovedBy (x : Setting) (es : List Event) (js : List Entry) (w : World) (event : Event) (what : What) : Type 0 where
  pub entry : Entry
  pub new : World
  pub move : Move (arts_of x) x w event entry new
  pub found : forged (arts_of x) x es js w move.node move.input move.output ≡ Some what

-- what becomes of a run by one more event
abbrev pub MovesTo : Setting → List Event → List Entry → World → Event → Done → World → Type 0
MovesTo x es js w event (dones.Told entry) new = IsMoved x es js w event entry new
MovesTo x es js w event (dones.Forged what told) new = IsMovedBy x es js w event what × ((told ≡ what) × IsWithout w (acting event) new)
