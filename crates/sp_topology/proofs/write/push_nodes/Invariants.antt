use Rattle.std.proofs.Common.{◌≡◌, ◌++◌, drop}
use Rattle.std.specs.Prelude.{flat_map}
use Rattle.sp_topology.specs.Documents.{node_bytes}
use Rattle.sp_topology.proofs.write.push_nodes.Given as goal

abbrev pub invariant-nodes : goal.invariant-nodes
invariant-nodes l = l.out.items ++ flat_map node_bytes (drop l.node-index l.nodes) ≡ l.fn.out.items ++ flat_map node_bytes l.nodes
