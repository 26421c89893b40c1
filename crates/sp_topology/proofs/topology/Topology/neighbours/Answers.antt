use Rattle.std.proofs.Common.{◌≤◌, length}
use Rattle.sp_topology.proofs.NeighbourLemmas.{found_ascend}
use Rattle.sp_topology.proofs.topology.Topology.neighbours.Goals as goal

pub returns-clause-ascending : goal.returns-clause-ascending
returns-clause-ascending c =
    let t = c.args.self.now in
    let past : length t.edges ≤ c.edges.place = rw (← c.as_slice-edge-items.ensures) c.edges-test.false in
    found_ascend t.format c.args.node.0 c.edges.place t.height t.nodes t.edges c.edges.found.items c.requires.nodes c.requires.graph.are_edges past
    c.edges.invariant
