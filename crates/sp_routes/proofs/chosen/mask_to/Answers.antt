use Rattle.std.proofs.Common.{◌≡◌, sym, subst, arith}
use Rattle.sp_base.proofs.FormatLemmas.{few_edges}
use Rattle.sp_graph.specs.declared.graph.Graph.{Graph}
use Rattle.sp_msg.specs.Masks.{bits}
use Rattle.sp_paths.specs.Cheapest.{AreEnds}
use Rattle.sp_rules.specs.Masks.{graph_of}
use Rattle.sp_routes.proofs.ChoiceLemmas.{all_chosen}
use Rattle.sp_routes.proofs.WeighedLemmas.{edges_flagged, graph_good, node_there}
use Rattle.sp_routes.proofs.chosen.mask_to.Goals as goal

pub returns-then-paths-eq0-clause-mask : goal.returns-then-paths-eq0-clause-mask
returns-then-paths-eq0-clause-mask c =
    all_chosen c.args.weights.now (graph_of c.args.topology.now c.args.weights.now) c.args.from c.args.to c.args.paths (bits c.open_edges.result)
    c.if-paths-eq0.true c.open_edges.ensures

pub cheapest_mask-requires-clause-graph : goal.cheapest_mask-requires-clause-graph
cheapest_mask-requires-clause-graph c = rw c.in_ok-graph.ensures (graph_good c.args.topology.now c.args.weights.now c.requires.topology c.requires.small)

pub cheapest_mask-requires-clause-ends : goal.cheapest_mask-requires-clause-ends
cheapest_mask-requires-clause-ends c =
    let t = c.args.topology.now in
    let w = c.args.weights.now in
    let ends : AreEnds (graph_of t w) c.args.from c.args.to =
    (node_there t w c.args.from c.requires.topology c.requires.ends.0, node_there t w c.args.to c.requires.topology c.requires.ends.1, c.requires.ends.2) in
    subst (λ (g : Graph). AreEnds g c.args.from c.args.to) (sym c.in_ok-graph.ensures) ends

pub cheapest_mask-requires-clause-edges : goal.cheapest_mask-requires-clause-edges
cheapest_mask-requires-clause-edges c = rw c.as_slice.ensures (edges_flagged c.args.topology.now c.requires.topology)

pub cheapest_mask-requires-clause-few : goal.cheapest_mask-requires-clause-few
cheapest_mask-requires-clause-few c =
    let few = few_edges c.args.topology.now.format in
    rw c.as_slice.ensures (omega (arith, c.requires.topology.ranges.graph.edge_count, few))
