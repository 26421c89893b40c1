use Rattle.std.proofs.Common.{◌≡◌, drop}
use Rattle.sp_service.specs.Fits.{have_own_ports}
use Rattle.sp_service.proofs.peers.have_own_ports.Given as goal

-- no two of the rest have one port exactly where no two of all have
abbrev pub invariant-peers : goal.invariant-peers
invariant-peers l = record {
  rest : l.rest ≡ drop l.peer-index l.peers;
  same : have_own_ports (drop l.peer-index l.peers) ≡ have_own_ports l.peers;
}
