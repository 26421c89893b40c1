use Rattle.std.proofs.Common.{◌≡◌, drop}
use Rattle.std.specs.List.{list_any}
use Rattle.sp_graph.specs.Walks.{is_between}
use Rattle.sp_paths.proofs.walked.is_joined.Given as goal

abbrev pub invariant-loop-edge : goal.invariant-loop-edge
invariant-loop-edge l = list_any (is_between l.fn.u l.fn.v) (drop l.edge-index l.edges) ≡ list_any (is_between l.fn.u l.fn.v) l.edges
