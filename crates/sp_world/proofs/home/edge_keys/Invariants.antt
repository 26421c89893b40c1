use Rattle.std.proofs.Common.{◌≡◌, ◌++◌, drop, map}
use Rattle.sp_runs.specs.Scenarios.{edge_key}
use Rattle.sp_topology.specs.Neighbours.{neighbours_from}
use Rattle.sp_world.proofs.home.edge_keys.Given as goal

abbrev pub invariant-edges : goal.invariant-edges
invariant-edges l =
    l.keys.items ++ map (λ n. (n.1, edge_key l.seed n.1.0)) (neighbours_from l.node.0 l.place (drop l.place l.edges))
    ≡ map (λ n. (n.1, edge_key l.seed n.1.0)) (neighbours_from l.node.0 0 l.edges)
