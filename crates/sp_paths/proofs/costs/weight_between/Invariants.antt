use Rattle.std.proofs.Common.{◌≡◌, drop}
use Rattle.sp_graph.specs.Walks.{weight_between}
use Rattle.sp_paths.proofs.costs.weight_between.Given as goal

abbrev pub invariant-loop-edge : goal.invariant-loop-edge
invariant-loop-edge l = weight_between (drop l.edge-index l.edges) l.fn.u l.fn.v ≡ weight_between l.edges l.fn.u l.fn.v
