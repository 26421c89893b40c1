use Rattle.std.proofs.Common.{◌≡◌, ◌-◌}
use Rattle.sp_topology.specs.Documents.{nodes_at}
use Rattle.sp_topology.proofs.Onto.{onto}
use Rattle.sp_topology.proofs.read.read_nodes.Given as goal

abbrev pub invariant-nodes : goal.invariant-nodes
invariant-nodes l = nodes_at l.format l.height l.count 0 l.fn.reader ≡ onto l.nodes.items (nodes_at l.format l.height (l.count - l._done) l.before l.reader)
