use Rattle.std.proofs.Common.{◌<◌, ℕ}
use Rattle.std.specs.Prelude.{slice_index_or}
use Rattle.sp_topology.specs.declared.topology.Edge.{Edge}
use Rattle.sp_paths.specs.Tests.{FitBoth}
use Rattle.sp_paths.proofs.certified.edges_fit.Given as goal

abbrev pub invariant-loop-edge : goal.invariant-loop-edge
invariant-loop-edge l = (k : ℕ) (d : Edge) → k < l.edge-index → FitBoth l.graph l.fn.s l.fn.t l.paths (slice_index_or l.graph.edges k d)
