use Rattle.std.proofs.Common.{◌≡◌, ◌-◌}
use Rattle.sp_topology.specs.Documents.{edges_at}
use Rattle.sp_topology.specs.Ranges.{ids_of}
use Rattle.sp_topology.proofs.Onto.{onto}
use Rattle.sp_topology.proofs.read.read_edges.Given as goal

abbrev pub invariant-edges : goal.invariant-edges
invariant-edges l =
    edges_at l.format (ids_of l.nodes) l.count (0, 0) l.fn.reader
    ≡ onto l.edges.items (edges_at l.format (ids_of l.nodes) (l.count - l._done) l.before l.reader)
