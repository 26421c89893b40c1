use Rattle.std.proofs.Common.{◌≡◌, drop, map}
use Rattle.std.specs.Prelude.{◌↔◌}
use Rattle.sp_service.proofs.peers.are_neighbours.Given as goal

-- the rest of the peers are the rest of the neighbours exactly where all are
abbrev pub invariant-peers : goal.invariant-peers
invariant-peers l =
    (map (λ p. p.id) (drop l.peer-index l.peers) ≡ map (λ n. n.0) l.rest) ↔ (map (λ p. p.id) l.peers ≡ map (λ n. n.0) l.neighbours)
