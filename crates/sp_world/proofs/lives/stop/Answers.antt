use Rattle.std.proofs.Common.{ap, ◌∙◌}
use Rattle.sp_runs.specs.Worlds.{without_node}
use Rattle.sp_world.specs.Scenes.{Scene}
use Rattle.sp_world.proofs.Starting.{is_stopped}
use Rattle.sp_world.proofs.lives.stop.Goals as goal

-- src/lives.rt:64:1
pub returns-clause-stop : goal.returns-clause-stop
returns-clause-stop c =
    is_stopped c.args.scenario.now c.args.scene.now c.reserve_for.new.scene _ c.args.u c.quiet.result c.reserve_for.ensures.ready
    (c.forget.ensures ∙ ap (λ (v : Scene). without_node v.nodes c.args.u) c.scene.view_is)
    (ap (λ (v : Scene). v.keys) c.scene.view_is)
    (ap (λ (v : Scene). v.directions) c.scene.view_is)
    (ap (λ (v : Scene). v.crafters) c.scene.view_is)
    (ap (λ (v : Scene). v.published) c.scene.view_is)
    c.quiet.ensures.reply c.quiet.ensures.effects
