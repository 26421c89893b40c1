use Rattle.sp_world.specs.Scenes.{world_in}
use Rattle.sp_world.proofs.Pasts.{kept_at_first}
use Rattle.sp_world.proofs.world.World.make.Goals as goal

-- src/world.rt:74:9
pub invariant_of-result : goal.invariant_of-result
invariant_of-result c =
    let scene = c.in_ok-scene.scene in
    kept_at_first c.args.scenario c.new-2.result.items c.new-3.result.items (world_in scene) c.signature_len.result scene.crafters c.in_ok-home.home
    c.new-2.ensures.items c.new-3.ensures.items c.requires c.in_ok-scene.ensures.world c.signature_len.ensures c.in_ok-scene.ensures.crafters
    c.in_ok-home.ensures
