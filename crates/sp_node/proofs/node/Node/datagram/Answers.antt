use Rattle.std.proofs.Common.{List, sym, subst}
use Rattle.sp_base.proofs.NumberLemmas.{AreBytes-from_places}
use Rattle.sp_topology.specs.declared.topology.NodeKey.{NodeKey}
use Rattle.sp_node.specs.Life.{IsLife}
use Rattle.sp_node.proofs.Steps.{life_by_datagram}
use Rattle.sp_node.proofs.node.Node.datagram.Goals as goal

pub invariant_of-self : goal.invariant_of-self
invariant_of-self c =
    subst (λ (keys : List NodeKey). IsLife c.datagram.new.state keys) (sym c.datagram.ensures.keys)
    (life_by_datagram c.self.inside.checker.nodes c.self.inside.state c.datagram.new.state c.args.from c.args.bytes.now c.datagram.result
    (AreBytes-from_places c.args.bytes.now (λ i. (c.type_inv.bytes i).fits)) c.recall.ensures c.self.invariant c.datagram.ensures.step)
