-- The state of a world: its correct nodes and their key files, all frames that they made, by direction, and what was crafted and published.
use Rattle.std.specs.Prelude.{ℕ, zero, suc, ◌==◌, ◌+◌, ◌&&◌, Bool, List, [], ◌∷◌, ◌++◌, find, map, replicate, slice_get, Option, None, Some, if◌then◌else◌}
use Rattle.std.specs.List.{list_any}
use Rattle.std.specs.Option.{option_and_then}
use Rattle.sp_base.specs.Rows.{first_where, put_where, replace_where}
use Rattle.sp_base.specs.declared.id.NodeId.{NodeId}
use Rattle.sp_keystate.specs.States.{first_numbers}
use Rattle.sp_keystate.specs.declared.numbers.Numbers.{Numbers}
use Rattle.sp_rules.specs.Masks.{greatest_id}
use Rattle.sp_rules.specs.Node.{NodeState}
use Rattle.sp_runs.specs.Settings.{Setting, correct_nodes, node_at_boot}
use Rattle.sp_schedule_events.specs.Documents.{none_published}
use Rattle.sp_schedule_events.specs.declared.published.Published.{Published}

-- The frames that one node made for another, in the order of their numbers. A place is empty where the node didn't run when it was polled
pub record Direction : Type 0 where
  pub from : NodeId
  pub to : NodeId
  pub frames : List (Option (List ℕ))

-- how many objects and documents were crafted with a key
pub record Crafted : Type 0 where
  pub key : NodeId
  pub count : ℕ

-- where a run stands
pub record World : Type 0 where
  -- the numbers of each node's key file, those of node 1 first
  pub keys : List Numbers
  -- the states of the correct nodes that run
  pub nodes : List NodeState
  -- the directions in which frames were made
  pub directions : List Direction
  -- the keys that objects were crafted with
  pub crafted : List Crafted
  -- the last version that the administrator published
  pub published : Published

-- no frame is there. Each correct node has booted; with epochs none has
abbrev pub at_start : Setting → World
at_start x = record {
  keys = replicate (greatest_id x.topology.nodes) first_numbers;
  nodes = if x.epochs then [] else map (node_at_boot x) (correct_nodes x);
  directions = [];
  crafted = [];
  published = none_published;
}

-- ---- nodes

-- the state is that of this node
abbrev pub is_me : NodeId → NodeState → Bool
is_me u n = n.fixed.me.0 == u.0

-- the state of a correct node that runs. None where the node is stopped or compromised, or isn't there
abbrev pub node_in : List NodeState → NodeId → Option NodeState
node_in nodes u = find (is_me u) nodes

-- it runs
abbrev pub is_running : List NodeState → NodeId → Bool
is_running nodes u = list_any (is_me u) nodes

-- it goes on to this state, and all others stay
abbrev pub with_node : List NodeState → NodeId → NodeState → List NodeState
with_node nodes u n = replace_where (is_me u) n nodes

-- the nodes without this one
abbrev pub without_node : List NodeState → NodeId → List NodeState
without_node [] u = []
without_node (n ∷ nodes) u = if is_me u n then nodes else n ∷ without_node nodes u

-- ---- frames

-- the direction from u to v
abbrev pub is_from_to : NodeId → NodeId → Direction → Bool
is_from_to u v d = (d.from.0 == u.0) && (d.to.0 == v.0)

-- the frames that u made for v
abbrev pub frames_in : List Direction → NodeId → NodeId → List (Option (List ℕ))
frames_in directions u v = (first_where (is_from_to u v) (record { from = u; to = v; frames = [] }) directions).frames

-- the frame of a number, counted from 1. None where its place is empty, or isn't there
abbrev pub frame_in : List Direction → NodeId → NodeId → ℕ → Option (List ℕ)
frame_in directions u v zero = None
frame_in directions u v (suc before) = option_and_then (λ frame. frame) (slice_get (frames_in directions u v) before)

-- u was polled for v once more
abbrev pub with_frame : List Direction → NodeId → NodeId → Option (List ℕ) → List Direction
with_frame directions u v frame =
    put_where (is_from_to u v) (record { from = u; to = v; frames = frames_in directions u v ++ frame ∷ [] }) directions

-- ---- what was crafted

-- whether this counts what was crafted with that key
abbrev pub is_key : NodeId → Crafted → Bool
is_key key c = c.key.0 == key.0

-- how many objects were crafted with this key. So many indexes of its crafting signer are used, which isn't the signer of the node itself
abbrev pub crafts : List Crafted → NodeId → ℕ
crafts crafted key = (first_where (is_key key) (record { key = key; count = 0 }) crafted).count

-- one more was
abbrev pub with_craft : List Crafted → NodeId → List Crafted
with_craft crafted key = put_where (is_key key) (record { key = key; count = crafts crafted key + 1 }) crafted
