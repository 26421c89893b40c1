use Rattle.sp_node.proofs.Steps.{life_by_prio}
use Rattle.sp_rules.specs.Messages.{as_send}
use Rattle.sp_node.proofs.node.Node.send_prio.Goals as goal

pub invariant_of-self : goal.invariant_of-self
invariant_of-self c =
    life_by_prio c.self.inside.checker.nodes c.self.inside.state c.send_prio.new.state
    (as_send c.args.message.now)
    c.send_prio.result (c.requires.prio.0, c.requires.prio.1, c.recall_expiry.ensures, c.requires.short) c.recall.ensures c.self.invariant c.send_prio.ensures
