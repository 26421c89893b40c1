-- What runs with epochs have beside the steps of nodes: a node reserves indexes before it acts, starts and stops; and what comes to nobody.
use Rattle.std.specs.Prelude.{ℕ, ◌≡◌, ◌⊎◌, ◌<◌, ◌≤◌, ◌-◌, ◌&&◌, ◌||◌, nat_lt, is_some, Bool, true, false, not, List, [], ◌∷◌, ◌++◌, Option, None, Some}
use Rattle.std.specs.Prelude.{if◌then◌else◌}
use Rattle.sp_base.specs.declared.id.NodeId.{NodeId}
use Rattle.sp_epoch.specs.Numbers.{after_more, after_start, next_bound, numbers_at, started_at, with_numbers}
use Rattle.sp_epoch.specs.declared.started.Started.{Started}
use Rattle.sp_keystate.specs.declared.starts.TheConstants.{LEAST_LEFT}
use Rattle.sp_rules.specs.Arts.{Arts}
use Rattle.sp_rules.specs.Node.{NodeState, extended, start_effects}
use Rattle.sp_runs.specs.Inputs.{acting}
use Rattle.sp_runs.specs.Settings.{Setting, fixed_at, node_at_start}
use Rattle.sp_runs.specs.Worlds.{Direction, World, frame_in, is_running, node_in, with_frame, with_node, without_node}
use Rattle.sp_journal.specs.declared.entry.Entry.{Entry}
use Rattle.sp_journal.specs.declared.entry.Reply.TheVariants as replies
use Rattle.sp_schedule_events.specs.Documents.{list_in, with_list}
use Rattle.sp_schedule_events.specs.declared.event.Event.{Event}
use Rattle.sp_schedule_events.specs.declared.event.Event.TheVariants as events

-- ---- the reserve

-- few of its reserved indexes are left, and not all indexes of its key are reserved
abbrev pub is_short : NodeState → Bool
is_short n = nat_lt (n.signer.bound - n.signer.index) LEAST_LEFT && nat_lt n.signer.bound n.signer.total

-- the node reserved 32 indexes more, or as many as there are, in its key file
abbrev pub reserved : Setting → World → NodeState → World
reserved x w n = record w {
  keys = with_numbers w.keys n.fixed.me (after_more x.total (numbers_at w.keys n.fixed.me));
  nodes = with_node w.nodes n.fixed.me (extended n (next_bound x.total (numbers_at w.keys n.fixed.me)));
}

-- where the node runs, and is short of indexes
abbrev pub reserved_if : Setting → World → Option NodeState → World
reserved_if x w None = w
reserved_if x w (Some n) = if is_short n then reserved x w n else w

-- the world in which the event's node acts
abbrev pub ready : Setting → World → Event → World
ready x w e = if x.epochs then reserved_if x w (node_in w.nodes (acting e)) else w

-- ---- a start

-- the boot that the node would start with, and its indexes
abbrev pub next_start : Setting → World → NodeId → Started
next_start x w u = started_at x.total (numbers_at w.keys u)

-- it takes them in its key file, signs the boot with the first of the indexes, and runs
pub record IsStart (arts : Arts) (x : Setting) (old : World) (u : NodeId) (entry : Entry) (new : World) : Type 0 where
  pub left : (numbers_at old.keys u).bound < x.total
  pub reply : entry.reply ≡ replies.Started (next_start x old u).boot (next_start x old u).index
  pub effects : entry.effects ≡ start_effects arts (fixed_at x u (next_start x old u).boot)
  pub world : new ≡ record old {
    keys = with_numbers old.keys u (after_start x.total (numbers_at old.keys u));
    nodes = old.nodes ++ node_at_start arts x u (next_start x old u) ∷ [];
  }

-- all indexes of its key are reserved: it stays stopped, though it counts as started
pub record IsExhausted (x : Setting) (old : World) (u : NodeId) (entry : Entry) (new : World) : Type 0 where
  pub none_left : x.total ≤ (numbers_at old.keys u).bound
  pub reply : entry.reply ≡ replies.Exhausted (numbers_at old.keys u).bound
  pub effects : entry.effects ≡ []
  pub world : new ≡ old

-- ---- a stop

-- all of the node is lost, but for its key file. It may not have run
pub record IsStop (x : Setting) (old : World) (u : NodeId) (entry : Entry) (new : World) : Type 0 where
  pub reply : entry.reply ≡ replies.Stopped
  pub effects : entry.effects ≡ []
  pub world : new ≡ record (ready x old (events.Stop u)) { nodes = without_node (ready x old (events.Stop u)).nodes u }

-- ---- what comes to nobody

-- the event is neither a start nor a stop
abbrev pub IsOther : Event → Type 0
IsOther (events.Start u) = ⊥
IsOther (events.Stop u) = ⊥
IsOther _ = Unit {0}

-- the frame isn't there
abbrev pub is_missing : World → Event → Bool
is_missing w (events.Pass u v number) = not (is_some (frame_in w.directions u v number))
is_missing w (events.Flip u v number back bit) = not (is_some (frame_in w.directions u v number))
is_missing w _ = false

-- the node that would act doesn't run, or no frame comes to it
abbrev pub comes_to_nobody : World → Event → Bool
comes_to_nobody w e = not (is_running w.nodes (acting e)) || is_missing w e

-- a poll still counts in the numbers of its direction, and what is published takes its version
abbrev pub directions_missed : List Direction → Event → List Direction
directions_missed directions (events.Poll u v) = with_frame directions u v None
directions_missed directions _ = directions

-- an event that comes to no node: it is told as down, and changes no node
pub record IsDown (old : World) (event : Event) (entry : Entry) (new : World) : Type 0 where
  pub nobody : comes_to_nobody old event ≡ true
  pub reply : entry.reply ≡ replies.Down
  pub effects : entry.effects ≡ []
  pub world : new ≡ record old { directions = directions_missed old.directions event; published = with_list old.published (list_in event) }

-- ---- one event in which no node moves

-- an event of lives: a start, a stop, or one that comes to nobody
abbrev pub Life : Arts → Setting → World → Event → Entry → World → Type 0
Life arts x old (events.Start u) entry new = IsStart arts x old u entry new ⊎ IsExhausted x old u entry new
Life arts x old (events.Stop u) entry new = IsStop x old u entry new
Life arts x old e entry new = IsDown old e entry new
