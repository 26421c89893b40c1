-- Which nodes are started, by the lines alone: a start counts from its line on, whatever the node answers to it.
use Rattle.std.specs.Prelude.{ℕ, ◌==◌, ◌&&◌, ◌||◌, Bool, true, false, not, fold, List}
use Rattle.sp_schedule_events.specs.Acting.{acting}
use Rattle.sp_schedule_events.specs.declared.event.Event.{Event}
use Rattle.sp_schedule_events.specs.declared.event.Event.TheVariants as events

-- whether a node is started after an event, by whether it was before
abbrev pub started_after : ℕ → Bool → Event → Bool
started_after u was (events.Start v) = (v.0 == u) || was
started_after u was (events.Stop v) = not (v.0 == u) && was
started_after u was _ = was

-- it was started, and not stopped since
abbrev pub is_started : List Event → ℕ → Bool
is_started es u = fold (started_after u) false es

-- Whether the event may come, by who is started. Without epochs no node starts or stops, and each may act. With them only a node that isn't started
-- starts, and only one that is stops, is asked for something and is handed a document; bytes may come to any node.
abbrev pub may_act : (epochs : Bool) → List Event → Event → Bool
may_act epochs es (events.Start u) = epochs && not (is_started es u.0)
may_act epochs es (events.Stop u) = epochs && is_started es u.0
may_act epochs es (events.Pass u v number) = true
may_act epochs es (events.Flip u v number back bit) = true
may_act epochs es (events.Inject u v bytes) = true
may_act epochs es (events.Craft c v key object) = true
may_act epochs es (events.CraftStatus c v s d base have) = true
may_act epochs es (events.CraftDocument c v key version weights) = true
may_act epochs es e = not epochs || is_started es (acting e).0
