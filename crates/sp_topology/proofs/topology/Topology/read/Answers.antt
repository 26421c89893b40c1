use Rattle.sp_topology.proofs.ReadLemmas.{is_in_range, rest_is_shorter}
use Rattle.sp_topology.proofs.topology.Topology.read.Goals as goal

pub overflow_sub-result : goal.overflow_sub-result
overflow_sub-result c =
    let f = c.in_ok-front.front in
    rw c.left.ensures
    (rest_is_shorter c.args.bytes.now c.read_front.new.reader c.read_nodes.new.reader c.read_edge_count.new.reader c.read_edges.new.reader
    (record { format = f.format; version = f.version; height = f.height; count = f.count }) c.in_ok-nodes.nodes.items c.in_ok-count.count
    c.in_ok-edges.edges.items
    (λ i. (c.type_inv.bytes i).fits)
    (rw (← c.new-reader.ensures) c.in_ok-front.ensures) c.in_ok-nodes.ensures c.in_ok-count.ensures (rw (← c.as_slice.ensures.value) c.in_ok-edges.ensures))

pub returns-clause-ranges : goal.returns-clause-ranges
returns-clause-ranges c =
    let f = c.in_ok-front.front in
    rw (c.from_vec.ensures, c.from_vec-2.ensures)
    (is_in_range c.args.bytes.now c.read_front.new.reader c.read_nodes.new.reader c.read_edge_count.new.reader c.read_edges.new.reader
    (record { format = f.format; version = f.version; height = f.height; count = f.count }) c.in_ok-nodes.nodes.items c.in_ok-count.count
    c.in_ok-edges.edges.items
    (λ i. (c.type_inv.bytes i).fits) (rw (← c.new-reader.ensures) c.in_ok-front.ensures) c.in_ok-nodes.ensures c.in_ok-count.ensures
    (rw (← c.as_slice.ensures.value) c.in_ok-edges.ensures))
