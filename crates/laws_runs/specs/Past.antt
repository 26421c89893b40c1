-- What happened in a run, and what it tells of each pair of lives of two nodes.
--
-- With epochs, what a client sent and what came to one is of the boots that the node held before the event: a frame may bring the last messages of a life and,
-- behind them, word of the next life.
use Rattle.std.specs.Prelude.{ℕ, ◌==◌, ◌&&◌, Bool, List, [], ◌∷◌, ◌++◌, Option, None, Some, if◌then◌else◌}
use Rattle.std.specs.List.{flat_map}
use Rattle.sp_base.specs.declared.id.NodeId.{NodeId}
use Rattle.sp_rules.specs.Arts.{Arts}
use Rattle.sp_rules.specs.Lives.{held_boot}
use Rattle.sp_rules.specs.Node.{NodeState}
use Rattle.sp_rules.specs.declared.kflow.FlowKind.{FlowKind}
use Rattle.sp_runs.specs.Runs.{Clean, Lives, Moves, Starts, Stays, Turn, Turned}
use Rattle.sp_runs.specs.Settings.{Setting}
use Rattle.sp_runs.specs.Told.{Message, accepted_in, delivered_by, prio_accepted_in, prio_by, told_at}
use Rattle.sp_runs.specs.Worlds.{World}
use Rattle.sp_journal.specs.declared.entry.Entry.{Entry}
use Rattle.sp_schedule_events.specs.declared.event.Event.{Event}

-- an event with its entry, and the node that moved, as it was before it did. None where no node moved
pub record Happened : Type 0 where
  pub event : Event
  pub entry : Entry
  pub mover : Option NodeState

-- the node that acts in a turn, if one does
abbrev pub mover_in : (arts : Arts) (x : Setting) (old : World) (e : Event) (j : Entry) (new : World) → Turn arts x old e j new → Option NodeState
mover_in arts x old e j new (Moves m) = Some m.node
mover_in arts x old e j new (Stays s) = None
mover_in arts x old e j new (Lives on life) = None

-- each event of a run, in order
abbrev pub past : (arts : Arts) (x : Setting) (es : List Event) (js : List Entry) (w : World) → Clean arts x es js w → List Happened
past arts x es js w Starts = []
past arts x es js w (Turned {es = es'} {js = js'} {old = old} {e = e} {j = j} run range turn unforged) =
    past arts x es' js' old run ++ record { event = e; entry = j; mover = mover_in arts x old e j w turn } ∷ []

-- ---- boots

-- it holds this boot of s and that of d. Of itself a node holds its own, and without epochs it holds 0 of each
abbrev pub holds : NodeState → NodeId → ℕ → NodeId → ℕ → Bool
holds n s x d y = (held_boot n.parts.lives s == x) && (held_boot n.parts.lives d == y)

-- what is said of two boots, of those that a node holds
abbrev pub under : {X : Type 0} → NodeState → NodeId → NodeId → (ℕ → ℕ → X) → X
under n s d says = says (held_boot n.parts.lives s) (held_boot n.parts.lives d)

-- what an event tells, where the node that moved held these boots
abbrev pub told_under : {X : Type 0} → NodeId → ℕ → NodeId → ℕ → List X → Option NodeState → List X
told_under s x d y tells None = []
told_under s x d y tells (Some n) = if holds n s x d y then tells else []

-- ---- reliable messages of either kind

-- accepted from clients of s for d, while s had boot x and held boot y of d
abbrev pub sent_under : FlowKind → List Happened → NodeId → ℕ → NodeId → ℕ → List Message
sent_under kind past s x d y = flat_map (λ h. told_under s x d y (accepted_in kind s d h.event h.entry.reply) h.mover) past

-- delivered at d of what came from s, while d had boot y and held boot x of s
abbrev pub delivered_under : FlowKind → List Happened → NodeId → ℕ → NodeId → ℕ → List Message
delivered_under kind past s x d y = flat_map (λ h. told_under s x d y (told_at d (delivered_by kind s) (h.event, h.entry)) h.mover) past

-- ---- priority messages

-- those that were accepted from clients of s for d while s had boot x, whatever boot of d it held
abbrev pub prio_sent_in : NodeId → ℕ → NodeId → Happened → Option NodeState → List Message
prio_sent_in s x d h None = []
prio_sent_in s x d h (Some n) = if held_boot n.parts.lives s == x then prio_accepted_in s d h.event h.entry.reply else []

-- the priority messages that a node sent under a boot
abbrev pub prio_sent_under : List Happened → NodeId → ℕ → NodeId → List Message
prio_sent_under past s x d = flat_map (λ h. prio_sent_in s x d h h.mover) past

-- delivered at d of what came from s, while d had boot y and held boot x of s
abbrev pub prio_delivered_under : List Happened → NodeId → ℕ → NodeId → ℕ → List Message
prio_delivered_under past s x d y = flat_map (λ h. told_under s x d y (told_at d (prio_by s) (h.event, h.entry)) h.mover) past
