use Rattle.sp_node.proofs.Steps.{life_by_take_krel}
use Rattle.sp_node.proofs.node.Node.take_krel.Goals as goal

pub invariant_of-self : goal.invariant_of-self
invariant_of-self c =
    life_by_take_krel c.self.inside.checker.nodes c.self.inside.state c.take_krel.new.state c.args.src c.recall.ensures c.self.invariant
    c.take_krel.ensures.state
