use Rattle.sp_node.proofs.Steps.{life_by_rel}
use Rattle.sp_node.proofs.node.Node.send_rel.Goals as goal

pub invariant_of-self : goal.invariant_of-self
invariant_of-self c =
    life_by_rel c.self.inside.checker.nodes c.self.inside.state c.send_rel.new.state c.args.dst c.args.payload.now c.send_rel.result c.requires c.recall.ensures
    c.self.invariant c.send_rel.ensures
