use Rattle.std.proofs.Common.{◌≡◌, ◌++◌, drop}
use Rattle.std.specs.Prelude.{flat_map}
use Rattle.sp_topology.specs.Documents.{edge_bytes}
use Rattle.sp_topology.proofs.write.push_edges.Given as goal

abbrev pub invariant-edges : goal.invariant-edges
invariant-edges l = l.out.items ++ flat_map edge_bytes (drop l.edge-index l.edges) ≡ l.fn.out.items ++ flat_map edge_bytes l.edges
