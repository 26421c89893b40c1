-- The calls that events make of nodes, over every run without forgery: none is refused as no event may be. And what links and frames then are.
use Rattle.std.specs.Prelude.{ℕ, ◌≡◌, ◌≢◌, ◌<◌, true, IsTrue, List, None, Some, length, position, slice_get}
use Rattle.sp_base.specs.declared.id.NodeId.{NodeId}
use Rattle.sp_topology.specs.Neighbours.{joins}
use Rattle.sp_rules.specs.Arts.{Arts}
use Rattle.sp_rules.specs.Node.{NodeState, call_refusal, is_neighbour, link_in}
use Rattle.sp_rules.specs.Polls.{frame_to}
use Rattle.sp_rules.specs.Steps.{Input, NodeStep, Output}
use Rattle.sp_rules.specs.declared.node.TheConstants.{MAX_CALLS}
use Rattle.laws_node.specs.Nodes.{IsKept}
use Rattle.sp_runs.specs.Inputs.{acting, input_of}
use Rattle.sp_runs.specs.Journals.{reply_word}
use Rattle.sp_runs.specs.Lives.{ready}
use Rattle.sp_runs.specs.Runs.{Clean, InRange, is_hop, polls}
use Rattle.sp_runs.specs.Settings.{Setting, SettingFits, fixed_at}
use Rattle.sp_runs.specs.Worlds.{World, frames_in, node_in}
use Rattle.sp_journal.specs.declared.entry.Entry.{Entry}
use Rattle.sp_schedule_events.specs.declared.event.Event.{Event}
use Rattle.laws_runs.specs.Premises.{Carries}

-- ---- calls. After fewer events than a node answers calls

-- a node answers polls and datagrams of each neighbour
abbrev pub NeighboursAreAnswered : Type 0
NeighboursAreAnswered = (arts : Arts) (x : Setting) (es : List Event) (js : List Entry) (w : World) → SettingFits arts x → Carries x.topology.format arts
    → Clean arts x es js w
    → length es < MAX_CALLS → (u v : NodeId) (n : NodeState) → node_in w.nodes u ≡ Some n → IsTrue (is_hop x u v) → call_refusal n v ≡ None

-- each answer to an event in its range has words, in the world in which its node acts: no call is refused for its ends or for want of reserved indexes, no
-- node is worn, and what is
-- taken of a priority inbox is a priority message
abbrev pub EachReplyHasWords : Type 0
EachReplyHasWords = (arts : Arts) (x : Setting) (es : List Event) (js : List Entry) (w : World) → SettingFits arts x → Carries x.topology.format arts
    → Clean arts x es js w
    → length es < MAX_CALLS → (e : Event) (n after : NodeState) (input : Input) (output : Output) → InRange x es e
    → node_in (ready x w e).nodes (acting e) ≡ Some n
    → input_of arts x (ready x w e) n e ≡ Some input → NodeStep arts n input output after → (number : ℕ) → reply_word x number output.reply ≢ None

-- ---- links

-- the tags of a link are under the key of the edge
abbrev pub LinksHaveTheirKeys : Type 0
LinksHaveTheirKeys = (arts : Arts) (x : Setting) (es : List Event) (js : List Entry) (w : World) → SettingFits arts x → Carries x.topology.format arts
    → Clean arts x es js w
    → (u v : NodeId) (n : NodeState) (edge : ℕ) → node_in w.nodes v ≡ Some n → position (joins u.0 v.0) x.topology.edges ≡ Some edge
    → (link_in n u).key ≡ x.link_key edge

-- ---- frames

-- there are as many of a direction as polls, and as many entries as events
pub record AreCounted (es : List Event) (js : List Entry) (w : World) : Type 0 where
  pub frames : (u v : NodeId) → length (frames_in w.directions u v) ≡ polls es u v
  pub entries : length es ≡ length js

-- the law that journals number the frames of each direction one after another
abbrev pub FramesAreCounted : Type 0
FramesAreCounted = (arts : Arts) (x : Setting) (es : List Event) (js : List Entry) (w : World) → Clean arts x es js w → AreCounted es js w

-- u made the frame for its neighbour v in a state within its bounds
pub record IsMadeFrame (arts : Arts) (x : Setting) (u v : NodeId) (bytes : List ℕ) : Type 0 where
  pub node : NodeState
  pub fixed : node.fixed ≡ fixed_at x u node.fixed.boot
  pub kept : IsKept arts node
  pub neighbour : is_neighbour node v ≡ true
  pub frame : bytes ≡ frame_to arts node v

-- the law that each frame of a correct node is one that the node made at a poll
abbrev pub FramesAreMade : Type 0
FramesAreMade = (arts : Arts) (x : Setting) (es : List Event) (js : List Entry) (w : World) → SettingFits arts x → Carries x.topology.format arts
    → Clean arts x es js w
    → (u v : NodeId) (place : ℕ) (bytes : List ℕ) → slice_get (frames_in w.directions u v) place ≡ Some (Some bytes) → IsMadeFrame arts x u v bytes
