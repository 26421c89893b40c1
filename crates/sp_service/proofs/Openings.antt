-- How a daemon starts is in its ranges, and its neighbours are few.
use Rattle.std.proofs.Common.{◌≡◌, ◌≤◌, ◌<◌, ◌+◌, ◌^◌, min, ℕ, List, [], ◌∷◌, length, map, Option, Some, None, refl, sym, ap, length-append, arith}
use Rattle.sp_base.specs.declared.id.EdgeId.{EdgeId}
use Rattle.sp_base.specs.declared.id.NodeId.{NodeId}
use Rattle.sp_base.proofs.FormatLemmas.{few_edges}
use Rattle.sp_config.specs.declared.config.Config.{Config}
use Rattle.sp_config.specs.declared.config.Peer.{Peer}
use Rattle.sp_service.specs.Fits.{Fits, neighbours}
use Rattle.sp_service.specs.NodeParts.{node_signer, peers_of}
use Rattle.sp_service_turns.specs.declared.peer.Peer as near
use Rattle.sp_topology.specs.Neighbours.{neighbour, neighbours_from, other_end}
use Rattle.sp_topology.specs.Ranges.{IsTopology}
use Rattle.sp_topology.specs.declared.topology.Edge.{Edge}
use Rattle.sp_topology.specs.declared.topology.Topology.{Topology}
use Rattle.sp_keystate.specs.Starting.{Starts}
use Rattle.sp_keystate.specs.States.{StandsFor}
use Rattle.sp_keystate.specs.declared.starts.Started.{Started}
use Rattle.sp_keystate.specs.declared.starts.TheConstants.{RESERVED}
use Rattle.sp_outside.specs.Disk.{Disk}
use Rattle.sp_service_station.proofs.Boots.{bound_at_start}
use Rattle.sp_service_station.specs.Stations.{Station, indexes_in, node_of}
use Rattle.sp_service_turns.specs.Keys.{HoldsKeys}
use Rattle.sp_service_turns.specs.Served.{opening_of}
use Rattle.sp_service.specs.Starts.{IsOpening, IsStarted, node_config, total_of}

-- a list keeps its length
mapped : {A B : Type 0} (f : A → B) (xs : List A) → length (map f xs) ≡ length xs
mapped f [] = refl
mapped f (x ∷ xs) = let rest = mapped f xs in omega (arith, rest)

-- a start's indexes are those of the key, and there is one
pub is_opening : (t : Topology) (told now : Option Disk) (started : Started) → Starts told now RESERVED (total_of t) started → IsOpening t (opening_of started)
is_opening t told now started starts = record {
  boot = starts.boot.0;
  index = omega (arith, forward started.first (total_of t) starts.some, starts.bound);
  bound = omega (arith, capped started.first (total_of t), starts.bound);
  announces = λ two. omega (arith, before started.first (total_of t) starts.some, starts.bound);
}
  where
    before : (first total : ℕ) → first < total → first < min (first + RESERVED) total
    before first total less = grind (arith, less)

    forward : (first total : ℕ) → first < total → first ≤ min (first + RESERVED) total
    forward first total less = grind (arith, less)

    capped : (first total : ℕ) → min (first + RESERVED) total ≤ total
    capped first total = grind arith

-- the node that starts has the bound of the start
pub held_at_start : (c : Config) (t : Topology) (started : Started) (told : Option Disk) (start : Station) → StandsFor told started.state
    → started.state.serial < 2 ^ 64
    → IsStarted c t (opening_of started) start
    → HoldsKeys told started.state (indexes_in start)
held_at_start c t started told start stands numbered begun =
    let own = node_signer c t.height started.first started.state.bound in
    record { stands = stands; bound = sym (bound_at_start (node_config c t) own started.state.boot (node_of start) begun.node); serial = numbered }

one : (place : ℕ) (o : Option NodeId) → length (neighbour place o) ≤ 1
one place None = omega arith
one place (Some other) = omega arith

few : (node place : ℕ) (es : List Edge) → length (neighbours_from node place es) ≤ length es
few node place [] = omega arith
few node place (e ∷ es) =
    let rest = few node (place + 1) es in
    let here = one place (other_end node e) in
    omega (arith, rest, here, length-append (neighbour place (other_end node e)) (neighbours_from node (place + 1) es))

few_peers : (c : Config) (t : Topology) → Fits c t → IsTopology t → length (peers_of c) < 2 ^ 16
few_peers c t fits topology =
    let ids : length (map (λ (p : Peer). p.id) c.peers) ≡ length (neighbours c t) = ap length fits.peers.neighbours_are in
    let edges = topology.graph.edge_count in
    let most = few_edges t.format in
    let near = few c.node.0 0 t.edges in
    let peers : length (map (λ (p : Peer). p.id) c.peers) ≡ length c.peers = mapped (λ (p : Peer). p.id) c.peers in
    let ports : length (peers_of c) ≡ length c.peers = mapped (λ (p : Peer). record { node = p.id; port = p.port }) c.peers in
    let joined : length (neighbours c t) ≡ length (neighbours_from c.node.0 0 t.edges) =
    mapped (λ (n : NodeId × EdgeId). n.0) (neighbours_from c.node.0 0 t.edges) in
    omega (arith, ids, peers, ports, joined, edges, most, near)

pub few_read : (c : Config) (t : Topology) (ps : List near.Peer) → Fits c t → IsTopology t → ps ≡ peers_of c → length ps < 2 ^ 16
few_read c t ps fits topology is = let few = few_peers c t fits topology in rw is few
