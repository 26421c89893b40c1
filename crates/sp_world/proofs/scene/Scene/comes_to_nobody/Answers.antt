use Rattle.std.proofs.Common.{◌≡◌, None, Some, ap, ap₂, sym, ◌∙◌}
use Rattle.sp_runs.specs.Inputs.{acting}
use Rattle.sp_runs.specs.Worlds.{node_in}
use Rattle.sp_world.specs.Scenes.{Scene, world_in}
use Rattle.sp_world.proofs.Standing.{nobody_there, somebody_there}
use Rattle.sp_world.proofs.scene.Scene.comes_to_nobody.Goals as goal

-- src/scene.rt:33:5
pub returns-in-Some : goal.returns-in-Some
returns-in-Some c =
    let w = world_in c.args.self.now in
    let nodes_are = c.deref.ensures.value ∙ ap (λ (s : Scene). s.nodes) c.self.view_is in
    let there : node_in w.nodes (acting c.args.event.now) ≡ Some c.in-Some.field-0.now = sym (c.in-Some.ensures ∙ ap₂ node_in nodes_are c.acting.ensures) in
    c.is_missing.ensures w (sym (ap (λ (s : Scene). s.directions) c.self.view_is)) ∙ sym (somebody_there w c.args.event.now c.in-Some.field-0.now there)

-- src/scene.rt:33:5
pub returns-in-None : goal.returns-in-None
returns-in-None c =
    let w = world_in c.args.self.now in
    let nodes_are = c.deref.ensures.value ∙ ap (λ (s : Scene). s.nodes) c.self.view_is in
    let none : node_in w.nodes (acting c.args.event.now) ≡ None = sym (c.in-None.ensures ∙ ap₂ node_in nodes_are c.acting.ensures) in
    sym (nobody_there w c.args.event.now none)
