use Rattle.std.proofs.Common.{◌≡◌, map, take}
use Rattle.sp_rules.specs.PrioPeer.{new_peer}
use Rattle.sp_prio.proofs.rows.peers_of.Given as goal

abbrev pub invariant-neighbours : goal.invariant-neighbours
invariant-neighbours l = l.peers.items ≡ map (new_peer l.capacity) (take l.neighbour-index l.neighbours)
