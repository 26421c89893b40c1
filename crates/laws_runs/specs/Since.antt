-- What a node told since its last start. Without epochs no node starts by an event, so that is all it told.
use Rattle.std.specs.Prelude.{ℕ, ◌==◌, Bool, false, max, List, [], ◌∷◌, if◌then◌else◌}
use Rattle.std.specs.List.{flat_map, list_any, zip}
use Rattle.sp_base.specs.declared.id.NodeId.{NodeId}
use Rattle.sp_msg.specs.declared.effect.Effect.{Effect}
use Rattle.sp_topology.specs.declared.topology.Edge.{Edge}
use Rattle.laws_node.specs.Lives.{last_told}
use Rattle.sp_runs.specs.Told.{told_at}
use Rattle.sp_journal.specs.declared.entry.Entry.{Entry}
use Rattle.sp_schedule_events.specs.declared.event.Event.{Event}
use Rattle.sp_schedule_events.specs.declared.event.Event.TheVariants as events

-- what stands behind the last that passes, all where none does
abbrev pub after_last : {A : Type 0} → (A → Bool) → List A → List A
after_last p [] = []
after_last p (x ∷ xs) = if list_any p xs then after_last p xs else (if p x then xs else x ∷ xs)

-- the event is a start of u, whatever it was answered
abbrev pub is_start_of : NodeId → Event → Bool
is_start_of u (events.Start v) = v.0 == u.0
is_start_of u _ = false

-- the effects at events of u behind its last start, in order
abbrev pub effects_since : List Event → List Entry → NodeId → List Effect
effects_since es js u = flat_map (told_at u (λ e. e ∷ [])) (after_last (λ p. is_start_of u p.0) (zip es js))

-- the greatest of this minimum and the last weight that u holds of each end since then
abbrev pub weight_since : List Event → List Entry → NodeId → (edge least : ℕ) → Edge → ℕ
weight_since es js u edge least e =
    let effects = effects_since es js u in
    max least (max (last_told edge e.low.0 0 effects) (last_told edge e.high.0 0 effects))
