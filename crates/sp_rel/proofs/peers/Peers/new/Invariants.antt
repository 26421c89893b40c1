use Rattle.std.proofs.Common.{◌≡◌, map, take}
use Rattle.sp_rules.specs.Rel.{new_peer}
use Rattle.sp_rel.proofs.peers.Peers.new.Given as goal

abbrev pub invariant-peers : goal.invariant-peers
invariant-peers l = l.rows.items ≡ map (new_peer l.flows) (take l.peer-index l.neighbours)
