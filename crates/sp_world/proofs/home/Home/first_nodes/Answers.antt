use Rattle.sp_world.proofs.Booting.{boots_next}
use Rattle.sp_world.proofs.home.Home.first_nodes.Goals as goal

-- src/home.rt:148:9
pub each-preserved : goal.each-preserved
each-preserved c =
    boots_next c.args.scenario.now c.each.before c.each.nodes.items c.first_node.new.nodes.items c.each.invariant c.in_ok-first_node.ensures
