use Rattle.std.proofs.Common.{◌+◌, ◌-◌, List, sym, ap, ◌∙◌}
use Rattle.sp_topology.specs.declared.topology.Edge.{Edge}
use Rattle.sp_topology.specs.Documents.{edges_at}
use Rattle.sp_topology.specs.Ranges.{ends_of, ids_of}
use Rattle.sp_topology.proofs.Onto.{handed_on, onto, edges_go, edges_stop}
use Rattle.sp_topology.proofs.read.read_edges.Goals as goal

pub returns-in_err-edge : goal.returns-in_err-edge
returns-in_err-edge c =
    handed_on _ _ _ c.in_err-edge.field-0.0 c.from_residual-in_err-edge.ensures.1
    (c.edges.invariant ∙ edges_stop c.args.format (ids_of c.args.nodes.now) c.args.count c.edges._done c.edges.before c.edges.reader c.edges.edges.items _
    c.edges-test.true c.in_err-edge.ensures)

pub edges-preserved : goal.edges-preserved
edges-preserved c =
    let ids = ids_of c.args.nodes.now in
    c.edges.invariant
    ∙ edges_go c.args.format ids c.args.count c.edges._done c.edges.before c.edges.reader c.read_edge.new.reader c.edges.edges.items c.in_ok-edge.edge
    c.edges-test.true c.in_ok-edge.ensures
    ∙ ap (λ (items : List Edge). onto items
    (edges_at c.args.format ids (c.args.count - (c.edges._done + 1)) (ends_of c.in_ok-edge.edge) c.read_edge.new.reader))
    (sym c.in_ok-push.ensures.items)
