-- The weight of an edge at a node, by what its effects tell.
use Rattle.std.specs.Prelude.{ℕ, max, List}
use Rattle.sp_base.specs.declared.id.NodeId.{NodeId}
use Rattle.sp_topology.specs.declared.topology.Edge.{Edge}
use Rattle.laws_node.specs.Lives.{last_told}
use Rattle.sp_runs.specs.Told.{effects_at}
use Rattle.sp_journal.specs.declared.entry.Entry.{Entry}
use Rattle.sp_schedule_events.specs.declared.event.Event.{Event}

-- the greatest of this minimum and the last weight that u holds of each end
abbrev pub effective_weight : List Event → List Entry → NodeId → (edge least : ℕ) → Edge → ℕ
effective_weight es js u edge least e =
    let effects = effects_at es js u in
    max least (max (last_told edge e.low.0 0 effects) (last_told edge e.high.0 0 effects))
