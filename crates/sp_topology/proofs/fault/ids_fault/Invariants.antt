use Rattle.std.proofs.Common.{◌≡◌, drop, map}
use Rattle.sp_topology.specs.Faults.{ids_fault}
use Rattle.sp_topology.proofs.fault.ids_fault.Given as goal

abbrev pub invariant-nodes : goal.invariant-nodes
invariant-nodes l = ids_fault l.format 0 (map (λ id. id.0) l.nodes) ≡ ids_fault l.format l.before (map (λ id. id.0) (drop l.id-index l.nodes))
