use Rattle.std.proofs.Common.{ℕ, suc, ◌<◌, get_or}
use Rattle.sp_base.specs.declared.id.NodeId.{NodeId}
use Rattle.sp_graph.specs.Walks.{Joined}
use Rattle.sp_runs.specs.Paths.{graph_in}
use Rattle.sp_runs.specs.Scenarios.{setting_of}
use Rattle.sp_audit.proofs.path.are_joined.Given as goal

abbrev pub invariant-nodes : goal.invariant-nodes
invariant-nodes l = (k : ℕ) (c d : NodeId) → suc k < l.place → Joined (graph_in (setting_of l.scenario)) (get_or l.path k c, get_or l.path (suc k) d)
