use Rattle.std.proofs.Common.{◌≤◌}
use Rattle.sp_base.specs.declared.id.NodeId.{NodeId}
use Rattle.sp_graph.specs.Split.{node_arc}
use Rattle.sp_paths.specs.Tests.{FitsAt}
use Rattle.sp_paths.proofs.certified.nodes_fit.Given as goal

abbrev pub invariant-loop-place : goal.invariant-loop-place
invariant-loop-place l = (v : NodeId) → 1 ≤ v.0 → v.0 ≤ l.place → FitsAt l.graph l.fn.s l.fn.t l.paths (node_arc v)
