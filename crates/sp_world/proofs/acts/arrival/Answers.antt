use Rattle.std.proofs.Common.{◌≡◌, refl, ap, subst, ◌∙◌}
use Rattle.std.proofs.lemmas.Result.{IfOk-weaker}
use Rattle.sp_runs.specs.Inputs.{acting}
use Rattle.sp_runs.specs.Runs.{crafted_after}
use Rattle.sp_runs.specs.Scenarios.{setting_of}
use Rattle.sp_world.specs.Scenes.{Scene, with_crafted, world_in}
use Rattle.sp_world.specs.Stands.{Comes, crafted_by}
use Rattle.sp_world.specs.declared.bytes.Came.{Came}
use Rattle.sp_world.proofs.Moving.{arrived_here, filed_still, hears_there, spent_here}
use Rattle.sp_world.proofs.acts.arrival.Goals as goal

-- src/acts.rt:124:13
pub make_ready-requires : goal.make_ready-requires
make_ready-requires c =
    let k = c.args.known.now in
    let old = c.args.scene.now in
    let e = c.args.event.now in
    let came = c.in_ok-bytes.ensures.scene ∙ ap (λ (came : Came). with_crafted old (crafted_by old.crafters.keys e came)) c.in-Datagram.is in
    filed_still k.scenario.now k.events.now k.journal.now old e c.bring.new.scene (crafted_after old.crafters.keys e) (acting e) c.requires.comes.stands came

-- src/acts.rt:126:13
pub arrive-requires-clause-can : goal.arrive-requires-clause-can
arrive-requires-clause-can c =
    let k = c.args.known.now in
    let old = c.args.scene.now in
    let e = c.args.event.now in
    let i = c.scene.inside in
    let there : Scene = record { keys = i.keys; nodes = i.nodes.items; directions = i.directions; crafters = i.crafters; published = i.published } in
    let came = c.in_ok-bytes.ensures.scene ∙ ap (λ (came : Came). with_crafted old (crafted_by old.crafters.keys e came)) c.in-Datagram.is in
    rw (c.acting-v.ensures, c.sender-u.ensures)
    (hears_there k.scenario.now k.events.now k.journal.now old e c.bring.new.scene there (crafted_after old.crafters.keys e) k.signature_len c.requires.comes
    c.requires.arrival came (ap world_in c.scene.view_is ∙ c.make_ready.ensures.ready) c.requires.long)

-- src/acts.rt:106:1
pub returns-in-Datagram-clause-done : goal.returns-in-Datagram-clause-done
returns-in-Datagram-clause-done c =
    let k = c.args.known.now in
    let s = k.scenario.now in
    let old = c.args.scene.now in
    let e = c.args.event.now in
    let i = c.scene.inside in
    let there : Scene = record { keys = i.keys; nodes = i.nodes.items; directions = i.directions; crafters = i.crafters; published = i.published } in
    let new : Scene = record there { nodes = c.arrive.new.nodes.items } in
    let came = c.in_ok-bytes.ensures.scene ∙ ap (λ (came : Came). with_crafted old (crafted_by old.crafters.keys e came)) c.in-Datagram.is in
    let comes = subst (λ (came : Came). Comes (setting_of s) (world_in old) e came) c.in-Datagram.is c.in_ok-bytes.ensures.comes in
    let bytes_are : c.as_slice.result.now ≡ c.in-Datagram.bytes = c.as_slice.ensures in
    IfOk-weaker c.arrive.result _ _
    (λ done arrives. arrived_here s k.events.now k.journal.now old e c.bring.new.scene there new c.in-Datagram.bytes done c.requires.arrival comes came
    (ap world_in c.scene.view_is ∙ c.make_ready.ensures.ready)
    (rw (c.acting-v.ensures, c.sender-u.ensures, bytes_are) at arrives) refl refl refl refl)
    c.arrive.ensures.arrives

-- src/acts.rt:106:1
pub returns-in-Spent-clause-done : goal.returns-in-Spent-clause-done
returns-in-Spent-clause-done c =
    let k = c.args.known.now in
    let s = k.scenario.now in
    let old = c.args.scene.now in
    let e = c.args.event.now in
    let came = c.in_ok-bytes.ensures.scene ∙ ap (λ (came : Came). with_crafted old (crafted_by old.crafters.keys e came)) c.in-Spent.is in
    let spent = subst (λ (came : Came). Comes (setting_of s) (world_in old) e came) c.in-Spent.is c.in_ok-bytes.ensures.comes in
    spent_here s k.events.now k.journal.now old e c.bring.new.scene c.in-Spent.total c.spent.result c.requires.comes.somebody spent came c.spent.ensures.reply
    c.spent.ensures.effects
