use Rattle.sp_node.proofs.Steps.{life_by_take_prio}
use Rattle.sp_node.proofs.node.Node.take_prio.Goals as goal

pub invariant_of-self : goal.invariant_of-self
invariant_of-self c =
    life_by_take_prio c.self.inside.checker.nodes c.self.inside.state c.take_prio.new.state c.recall.ensures c.self.invariant c.take_prio.ensures.state
