use Rattle.std.proofs.Common.{◌≡◌, ℕ, OnOk, List, [], ◌∷◌, ◌++◌, subst}
use Rattle.sp_schedule_crafts.specs.declared.object.CraftedObject.TheVariants as objects
use Rattle.sp_schedule_events.specs.declared.event.Event.TheVariants as events
use Rattle.sp_generate.specs.Generated.{node}
use Rattle.sp_generate.proofs.happenings.push_crafted.Goals as goal

pub returns : goal.returns
returns c =
    subst
    (λ (payload : List ℕ). OnOk c.push.result (c.push.new.items.items ≡ c.args.events.now.items
    ++ events.Craft (node 4) c.args.v c.args.key (objects.Rel (record { src = node 4; dst = node 6; seq = 1; payload = payload })) ∷ []))
    c.in_ok-payload.ensures
    c.push.ensures.items
