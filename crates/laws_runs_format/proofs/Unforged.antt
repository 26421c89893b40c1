-- A schedule of harmless events has nothing forged.
use Rattle.std.proofs.Common.{◌≡◌, false, List, [], ◌∷◌, ◌++◌, Option, Some, None, subst}
use Rattle.std.specs.List.{All}
use Rattle.std.proofs.lemmas.List.Elements.{All-head, All-tail}
use Rattle.sp_journal.specs.declared.entry.Entry.{Entry}
use Rattle.sp_runs.specs.Runs.{Clean, InRange, IsForgedAt}
use Rattle.sp_runs.specs.Scenarios.{IsHeader, setting_of, topology_of}
use Rattle.sp_runs.specs.Worlds.{World}
use Rattle.sp_runs.specs.declared.what.What.{What}
use Rattle.sp_schedule_crafts.specs.Objects.{body_of}
use Rattle.sp_schedule_events.specs.declared.event.Event.{Event}
use Rattle.sp_schedule_events.specs.declared.event.Event.TheVariants as events
use Rattle.sp_schedule_events.specs.declared.scenario.Scenario.{Scenario}
use Rattle.laws_runs.proofs.Crafts.{no_frame_is_forged, own_crafts_forge_nothing}
use Rattle.laws_runs_format.specs.Arts.{arts_of}
use Rattle.laws_runs_format.specs.Hostile.{IsHostile}
use Rattle.laws_runs_format.specs.Unforged.{HarmlessSchedulesForgeNothing, IsHarmless}
use Rattle.laws_runs_format.proofs.Headers.{plain_headers_fit, signatures_are_long}
use Rattle.laws_runs_format.proofs.Hostile.{only_hostile}
use Rattle.sp_node_format.proofs.GoodFields.{fields_pass}
use Rattle.laws_runs_format.proofs.ReadBack.{format_carries}
use Rattle.laws_runs_format.proofs.Schedules.{header_of, scheduled_events_are_in_range}

never : (o : Option What) (what : What) → o ≡ None → o ≡ Some what → ⊥
never o what e f = cc

-- the event in the middle of a list
in_the_middle : (P : Event → Type 0) (before : List Event) (event : Event) (after : List Event) → All P (before ++ event ∷ after) → P event
in_the_middle P [] event after all = All-head P event after all
in_the_middle P (e ∷ before) event after all = in_the_middle P before event after (All-tail P e (before ++ event ∷ after) all)

-- no harmless event is forged
harmless : (s : Scenario) (es : List Event) (js : List Entry) (w : World) (event : Event) (what : What) → IsHeader s → s.epochs ≡ false
    → InRange (setting_of s) es event
    → Clean (arts_of (setting_of s)) (setting_of s) es js w → IsHarmless (setting_of s) event → IsHostile event
    → IsForgedAt (arts_of (setting_of s)) (setting_of s) es js w event what → ⊥
harmless s es js w (events.Inject u v bytes) what good plain range run none hostile at =
    never _ what (no_frame_is_forged (arts_of (setting_of s)) (setting_of s) es js w at.new u v bytes at.entry none at.turn) at.is
harmless s es js w (events.Craft c v key object) what good plain range run names hostile at =
    let x = setting_of s in
    never _ what (own_crafts_forge_nothing (arts_of x) x es js w (plain_headers_fit s good plain) (format_carries x.topology.format) (signatures_are_long s) run
    (events.Craft c v key object) at.entry at.new range
    (fields_pass (topology_of s).format (body_of object) range.fields.3) names at.turn) at.is
harmless s es js w (events.CraftStatus c v a d base have) what good plain range run names hostile at =
    let x = setting_of s in
    never _ what (own_crafts_forge_nothing (arts_of x) x es js w (plain_headers_fit s good plain) (format_carries x.topology.format) (signatures_are_long s) run
    (events.CraftStatus c v a d base have) at.entry at.new range
    tt names at.turn) at.is
harmless s es js w (events.Flip u v number back bit) what good plain range run none hostile at = absurd none
harmless s es js w (events.Rel a d payload) what good plain range run none hostile at = absurd hostile
harmless s es js w (events.Prio a d prio expiry paths payload) what good plain range run none hostile at = absurd hostile
harmless s es js w (events.Take d a) what good plain range run none hostile at = absurd hostile
harmless s es js w (events.TakePrio d) what good plain range run none hostile at = absurd hostile
harmless s es js w (events.Tick u now) what good plain range run none hostile at = absurd hostile
harmless s es js w (events.Weight u v weight) what good plain range run none hostile at = absurd hostile
harmless s es js w (events.Poll u v) what good plain range run none hostile at = absurd hostile
harmless s es js w (events.Pass u v number) what good plain range run none hostile at = absurd hostile
harmless s es js w (events.Publish u weights) what good plain range run none hostile at = absurd hostile
harmless s es js w (events.CraftDocument c v key version weights) what good plain range run none hostile at = absurd none
harmless s es js w (events.Start u) what good plain range run none hostile at = absurd hostile
harmless s es js w (events.Stop u) what good plain range run none hostile at = absurd hostile
harmless s es js w (events.Krel a d paths payload) what good plain range run none hostile at = absurd hostile
harmless s es js w (events.KTake d a) what good plain range run none hostile at = absurd hostile

pub harmless_schedules_forge_nothing : HarmlessSchedulesForgeNothing
harmless_schedules_forge_nothing s es schedule plain all before event after js w what is run at =
    let good = header_of s es schedule in
    harmless s before js w event what good plain (scheduled_events_are_in_range s es before after event schedule is) run
    (in_the_middle (IsHarmless (setting_of s)) before event after (subst (λ (xs : List Event). All (IsHarmless (setting_of s)) xs) is all))
    (only_hostile s before js w event what good run at) at
