use Rattle.std.proofs.Common.{List, sym, subst}
use Rattle.sp_base.proofs.NumberLemmas.{AreBytes-from_places}
use Rattle.sp_topology.specs.declared.topology.NodeKey.{NodeKey}
use Rattle.sp_node.specs.Life.{IsLife}
use Rattle.sp_node.proofs.Steps.{life_by_publish}
use Rattle.sp_node.proofs.node.Node.replace.Goals as goal

pub invariant_of-self : goal.invariant_of-self
invariant_of-self c =
    subst (λ (keys : List NodeKey). IsLife c.publish.new.self keys) (sym c.publish.ensures.keys)
    (life_by_publish c.self.inside.checker.nodes c.self.inside.state c.publish.new.self c.args.document.now c.publish.result
    (AreBytes-from_places c.args.document.now (λ i. (c.type_inv.document i).fits)) c.recall.ensures c.self.invariant c.publish.ensures.state
    c.publish.ensures.as_before)
