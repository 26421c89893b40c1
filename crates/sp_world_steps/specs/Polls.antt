-- A poll of one node among all, and its frame kept.
use Rattle.std.specs.Prelude.{ℕ, ◌≡◌, ◌+◌, List, [], ◌∷◌, ◌++◌, Option, Some, length}
use Rattle.sp_base.specs.declared.id.NodeId.{NodeId}
use Rattle.sp_journal.specs.declared.entry.Entry.{Entry}
use Rattle.sp_keystate.specs.declared.numbers.Numbers.{Numbers}
use Rattle.sp_node_format.specs.Format.{format_of}
use Rattle.sp_rules.specs.Node.{NodeState}
use Rattle.sp_rules.specs.Steps.{Frame, NodeStep, Poll, replied}
use Rattle.sp_runs.specs.Worlds.{Crafted, Direction, World, frames_in, node_in, with_frame, with_node}
use Rattle.sp_schedule_events.specs.declared.published.Published.{Published}
use Rattle.sp_world_steps.specs.Gave.{Tells}
use Rattle.sp_world_steps.specs.Members.{PolledAmong}

-- the key files, the nodes, the frames, and what was crafted and published
abbrev pub world_of : List Numbers → List NodeState → List Direction → List Crafted → Published → World
world_of keys nodes directions crafted published =
    record { keys = keys; nodes = nodes; directions = directions; crafted = crafted; published = published }

-- u made its next frame for v, which is told by its number after the places of this direction, and kept behind them
pub record IsFramed (nodes : List NodeState) (u v : NodeId) (frames : List (Option (List ℕ))) (entry : Entry) (after : List NodeState)
    (kept : List (Option (List ℕ))) : Type 0 where
  pub bytes : List ℕ
  pub polled : PolledAmong nodes u v bytes after
  pub tells : Tells (length frames + 1) (replied (Frame bytes)) entry
  pub kept_is : kept ≡ frames ++ Some bytes ∷ []

-- the same among the frames of all directions
pub record IsPolled (nodes : List NodeState) (directions : List Direction) (u v : NodeId) (entry : Entry) (after : List NodeState)
    (kept : List Direction) : Type 0 where
  pub old : NodeState
  pub new : NodeState
  pub bytes : List ℕ
  pub is_there : node_in nodes u ≡ Some old
  pub step : NodeStep (format_of old.fixed) old (Poll v) (replied (Frame bytes)) new
  pub tells : Tells (length (frames_in directions u v) + 1) (replied (Frame bytes)) entry
  pub nodes_are : after ≡ with_node nodes u new
  pub kept_are : kept ≡ with_frame directions u v (Some bytes)
