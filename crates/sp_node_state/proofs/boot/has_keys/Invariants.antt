use Rattle.std.proofs.Common.{◌≡◌, drop, map}
use Rattle.std.specs.Prelude.{◌↔◌}
use Rattle.sp_topology.specs.Neighbours.{neighbours_from}
use Rattle.sp_node_state.proofs.boot.has_keys.Given as goal

-- the rest of the keys are those of the rest of the edges exactly where all are
abbrev pub invariant-edges : goal.invariant-edges
invariant-edges l =
    (map (λ k. k.0) l.rest ≡ map (λ n. n.1) (neighbours_from l.node.0 l.place (drop l.place l.edges)))
    ↔ (map (λ k. k.0) l.keys ≡ map (λ n. n.1) (neighbours_from l.node.0 0 l.edges))
