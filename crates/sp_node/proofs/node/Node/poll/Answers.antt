use Rattle.sp_node.proofs.Steps.{life_by_poll}
use Rattle.sp_node.proofs.node.Node.poll.Goals as goal

pub invariant_of-self : goal.invariant_of-self
invariant_of-self c =
    life_by_poll c.self.inside.checker.nodes c.self.inside.state c.poll.new.state c.args.v c.poll.result c.recall.ensures c.self.invariant c.poll.ensures
