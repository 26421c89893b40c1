use Rattle.std.proofs.Common.{◌+◌, ◌-◌, List, sym, ap, ◌∙◌}
use Rattle.sp_topology.specs.declared.topology.NodeKey.{NodeKey}
use Rattle.sp_topology.specs.Documents.{nodes_at}
use Rattle.sp_topology.proofs.Onto.{handed_on, onto, nodes_go, nodes_stop}
use Rattle.sp_topology.proofs.read.read_nodes.Goals as goal

pub returns-in_err-node : goal.returns-in_err-node
returns-in_err-node c =
    handed_on _ _ _ c.in_err-node.field-0.0 c.from_residual-in_err-node.ensures.1
    (c.nodes.invariant ∙ nodes_stop c.args.format c.args.height c.args.count c.nodes._done c.nodes.before c.nodes.reader c.nodes.nodes.items _ c.nodes-test.true
    c.in_err-node.ensures)

pub nodes-preserved : goal.nodes-preserved
nodes-preserved c =
    c.nodes.invariant
    ∙ nodes_go c.args.format c.args.height c.args.count c.nodes._done c.nodes.before c.nodes.reader c.read_node.new.reader c.nodes.nodes.items c.in_ok-node.node
    c.nodes-test.true c.in_ok-node.ensures
    ∙ ap (λ (items : List NodeKey). onto items (nodes_at c.args.format c.args.height
    (c.args.count - (c.nodes._done + 1)) c.in_ok-node.node.id.0 c.read_node.new.reader)) (sym c.in_ok-push.ensures.items)
