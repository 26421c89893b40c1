use Rattle.sp_node.proofs.Steps.{life_by_take_rel}
use Rattle.sp_node.proofs.node.Node.take_rel.Goals as goal

pub invariant_of-self : goal.invariant_of-self
invariant_of-self c =
    life_by_take_rel c.self.inside.checker.nodes c.self.inside.state c.take_rel.new.state c.args.src c.recall.ensures c.self.invariant c.take_rel.ensures.state
