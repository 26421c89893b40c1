use Rattle.std.proofs.Common.{◌≡◌, drop, map}
use Rattle.sp_topology.specs.Faults.{edges_fault}
use Rattle.sp_topology.proofs.fault.edges_fault.Given as goal

abbrev pub invariant-edges : goal.invariant-edges
invariant-edges l =
    edges_fault l.format (map (λ id. id.0) l.nodes) (0, 0) l.edges ≡ edges_fault l.format (map (λ id. id.0) l.nodes) l.before (drop l.edge-index l.edges)
