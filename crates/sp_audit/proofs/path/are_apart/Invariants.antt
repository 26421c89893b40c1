use Rattle.std.proofs.Common.{ℕ, ◌<◌, ◌≢◌, get_or}
use Rattle.sp_base.specs.declared.id.NodeId.{NodeId}
use Rattle.sp_audit.proofs.path.are_apart.Given as goal

abbrev pub invariant-nodes : goal.invariant-nodes
invariant-nodes l = (i j : ℕ) (d : NodeId) → i < j → j < l.place → get_or l.path i d ≢ get_or l.path j d
