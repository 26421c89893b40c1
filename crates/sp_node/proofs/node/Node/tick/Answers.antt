use Rattle.sp_node.proofs.Steps.{life_by_tick}
use Rattle.sp_node.proofs.node.Node.tick.Goals as goal

pub invariant_of-self : goal.invariant_of-self
invariant_of-self c =
    life_by_tick c.self.inside.checker.nodes c.self.inside.state c.tick.new.state c.args.now c.tick.result c.ranges.now.fits c.recall.ensures c.self.invariant
    c.tick.ensures.step
