use Rattle.std.proofs.Common.{arith}
use Rattle.std.proofs.lemmas.Bool.{iff_false}
use Rattle.sp_graph.proofs.EdgeLemmas.{not_next}
use Rattle.sp_graph.proofs.edge_line.edge.Goals as goal

pub returns-else-is_next : goal.returns-else-is_next
returns-else-is_next c =
    let right = c.in_ok-edge.ensures in
    not_next c.args.format c.args.graph.now _ c.in_ok-edge.edge (omega arith) right.0 right.1 right.2 (iff_false c.is_next.ensures c.if-is_next.false)
