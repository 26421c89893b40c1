use Rattle.std.proofs.Common.{◌≡◌, drop}
use Rattle.sp_topology.specs.Keys.{key_of}
use Rattle.sp_topology.proofs.topology.Topology.key_of.Given as goal

abbrev pub invariant-nodes : goal.invariant-nodes
invariant-nodes l = key_of l.node.0 l.self.nodes ≡ key_of l.node.0 (drop l.named-index l.self.nodes)
