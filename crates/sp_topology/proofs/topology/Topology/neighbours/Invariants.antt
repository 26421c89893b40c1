use Rattle.std.proofs.Common.{◌≡◌, ◌++◌, drop}
use Rattle.sp_topology.specs.Neighbours.{neighbours_from}
use Rattle.sp_topology.proofs.topology.Topology.neighbours.Given as goal

abbrev pub invariant-edges : goal.invariant-edges
invariant-edges l = l.found.items ++ neighbours_from l.node.0 l.place (drop l.place l.self.edges) ≡ neighbours_from l.node.0 0 l.self.edges
