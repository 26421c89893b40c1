use Rattle.std.proofs.Common.{◌≡◌, drop, map}
use Rattle.sp_topology.specs.Keys.{key_of}
use Rattle.sp_sign.specs.Checker.{as_key}
use Rattle.sp_sign.proofs.checker.place_of.Given as goal

abbrev pub invariant-nodes : goal.invariant-nodes
invariant-nodes l = key_of l.node.0 (map as_key l.nodes) ≡ key_of l.node.0 (map as_key (drop l.place l.nodes))
