use Rattle.std.proofs.Common.{◌≡◌, List, ap, ◌∙◌}
use Rattle.sp_adversary.specs.Crafters.{Crafters}
use Rattle.sp_rules.specs.Node.{NodeState}
use Rattle.sp_runs.specs.Inputs.{dated}
use Rattle.sp_runs.specs.Worlds.{node_in}
use Rattle.sp_schedule_crafts.specs.Objects.{body_of}
use Rattle.sp_world.specs.Scenes.{Scene}
use Rattle.sp_world.proofs.crafts.crafted.Goals as goal

-- src/crafts.rt:64:11
pub craft-requires : goal.craft-requires
craft-requires c =
    let first = c.requires.can.first in
    let format_is : c.scene.inside.crafters.format ≡ c.args.scenario.now.format =
    ap (λ (v : Scene). v.crafters.format) c.scene.view_is ∙ ap (λ (k : Crafters). k.format) c.requires.crafters in
    let body_is : c.in_ok-body.body ≡ dated first.node.parts.lives (body_of c.args.object.now) =
    c.in_ok-body.ensures first.node
    (ap (λ (ns : List NodeState). node_in ns c.args.v) c.deref-2.ensures.value ∙ ap (λ (v : Scene). node_in v.nodes c.args.v) c.scene.view_is
    ∙ first.is_there) in
    rw (body_is, format_is) (c.requires.fields first.node first.is_there)
