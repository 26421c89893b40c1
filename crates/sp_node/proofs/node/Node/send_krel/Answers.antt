use Rattle.sp_node.proofs.Steps.{life_by_krel}
use Rattle.sp_rules.specs.Messages.{as_ksend}
use Rattle.sp_node.proofs.node.Node.send_krel.Goals as goal

pub invariant_of-self : goal.invariant_of-self
invariant_of-self c =
    life_by_krel c.self.inside.checker.nodes c.self.inside.state c.send_krel.new.state (as_ksend c.args.message.now) c.send_krel.result c.requires.short
    c.recall.ensures c.self.invariant c.send_krel.ensures
