use Rattle.sp_node.proofs.Steps.{life_by_weight}
use Rattle.sp_node.proofs.node.Node.set_weight.Goals as goal

pub invariant_of-self : goal.invariant_of-self
invariant_of-self c =
    life_by_weight c.self.inside.checker.nodes c.self.inside.state c.set_weight.new.state c.args.peer c.args.weight c.set_weight.result c.requires.least
    c.requires.most c.recall.ensures c.self.invariant c.set_weight.ensures
