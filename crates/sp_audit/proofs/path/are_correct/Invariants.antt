use Rattle.std.proofs.Common.{ℕ, ◌<◌, IsTrue, get_or}
use Rattle.sp_base.specs.declared.id.NodeId.{NodeId}
use Rattle.sp_runs.specs.Scenarios.{setting_of}
use Rattle.sp_runs.specs.Settings.{is_correct}
use Rattle.sp_audit.proofs.path.are_correct.Given as goal

abbrev pub invariant-nodes : goal.invariant-nodes
invariant-nodes l = (k : ℕ) (d : NodeId) → k < l.place → IsTrue (is_correct (setting_of l.scenario) (get_or l.path k d))
