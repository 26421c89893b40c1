use Rattle.std.proofs.Common.{◌≡◌, None, refl, inl, ◌∙◌}
use Rattle.sp_runs.specs.Scenarios.{setting_of}
use Rattle.sp_world.specs.Scenes.{world_in}
use Rattle.sp_world.specs.Stands.{IsTold}
use Rattle.sp_world.proofs.Pasts.{goes_on, kept_on, kept_undone, stands}
use Rattle.sp_world.proofs.world.World.step.Goals as goal

-- src/world.rt:101:9
pub invariant_of-self : goal.invariant_of-self
invariant_of-self c =
    let i = c.self.inside in
    kept_undone i.scenario i.events.items c.make_room.new.events.items i.journal.items c.make_room.new.journal.items (world_in i.scene) (world_in i.scene)
    c.args.event i.signature_len i.scene.crafters i.scene.crafters i.home i.stopped c.self.invariant c.in_default.is
    (record { nodes = inl refl; frames = refl })
    c.self.invariant.crafters c.make_room.ensures.events c.make_room.ensures.journal

-- src/world.rt:117:17
pub invariant_of-self-in-Told : goal.invariant_of-self-in-Told
invariant_of-self-in-Told c =
    let i = c.self.inside in
    let es = i.events.items in
    let js = i.journal.items in
    let old = world_in i.scene in
    let new = world_in c.act.new.scene in
    let es_is : c.as_slice.result.now ≡ es = c.as_slice.ensures.value ∙ c.in_ok-make_room.ensures.events in
    let js_is : c.as_slice-2.result.now ≡ js = c.as_slice-2.ensures.value ∙ c.in_ok-make_room.ensures.journal in
    let told : IsTold (setting_of i.scenario) es js old c.args.event c.in-Told.entry new = rw (es_is, js_is, c.in-Told.is) at c.in_ok-done.ensures.done in
    let range = rw (← c.self.view_is) at c.requires.range in
    let few = rw (← c.self.view_is) at c.requires.few in
    kept_on i.scenario es c.push_in_room.new.items.items js c.push_in_room-in-Told.new.items.items old new c.args.event c.in-Told.entry
    i.signature_len i.scene.crafters c.act.new.scene.crafters i.home i.stopped c.self.invariant
    (stands i.scenario es js old c.args.event i.signature_len i.scene.crafters i.home i.stopped c.self.invariant c.in_default.is range few)
    told c.in_ok-done.ensures.crafters
    (rw c.in_ok-make_room.ensures.events at c.push_in_room.ensures.items) (rw c.in_ok-make_room.ensures.journal at c.push_in_room-in-Told.ensures.items)

-- src/world.rt:91:5
pub returns-in-Told-clause-ok : goal.returns-in-Told-clause-ok
returns-in-Told-clause-ok c =
    let i = c.self.inside in
    let es = i.events.items in
    let js = i.journal.items in
    let old = world_in i.scene in
    let new = world_in c.act.new.scene in
    let none : i.stopped ≡ None = c.in_default.is in
    let es_is : c.as_slice.result.now ≡ es = c.as_slice.ensures.value ∙ c.in_ok-make_room.ensures.events in
    let js_is : c.as_slice-2.result.now ≡ js = c.as_slice-2.ensures.value ∙ c.in_ok-make_room.ensures.journal in
    let told : IsTold (setting_of i.scenario) es js old c.args.event c.in-Told.entry new = rw (es_is, js_is, c.in-Told.is) at c.in_ok-done.ensures.done in
    rw (← c.self.view_is, none)
    (goes_on i.scenario es c.push_in_room.new.items.items js c.push_in_room-in-Told.new.items.items old new c.args.event c.in-Told.entry told
    (rw c.in_ok-make_room.ensures.events at c.push_in_room.ensures.items) (rw c.in_ok-make_room.ensures.journal at c.push_in_room-in-Told.ensures.items))
