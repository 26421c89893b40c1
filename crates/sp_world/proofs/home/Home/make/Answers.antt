use Rattle.std.proofs.Common.{ap, ◌∙◌}
use Rattle.sp_rules.specs.Topologies.{weights_in}
use Rattle.sp_world.proofs.Booting.{first_can, keys_more, seeds_more}
use Rattle.sp_world.proofs.home.Home.make.Goals as goal

-- src/home.rt:64:9
pub nodes-preserved : goal.nodes-preserved
nodes-preserved c =
    let s = c.args.scenario.now in
    let seed = c.in_ok-seed.seed in
    let height = c.param_of-height.result in (
      seeds_more s c.nodes.before c.nodes.seeds.items c.push.new.items.items seed height
          c.nodes.invariant.0 c.in_ok-push.ensures.items c.in_ok-seed.ensures c.param_of-height.ensures,
      keys_more s c.nodes.before c.nodes.keys.items c.push-in-nodes.new.items.items seed height c.public-key.result
          c.nodes.invariant.1 c.in_ok-push-2.ensures.items c.public-key.ensures c.in_ok-seed.ensures c.param_of-height.ensures,
    )

-- src/home.rt:70:24
pub document-requires-clause-topology : goal.document-requires-clause-topology
document-requires-clause-topology c =
    first_can c.args.scenario.now c.in_ok-administrator.administrator c.deref-2.result.now c.requires c.in_ok-administrator.ensures
    (c.deref-2.ensures.value ∙ c.in_ok-weights.ensures ∙ ap weights_in c.as_slice.ensures)
