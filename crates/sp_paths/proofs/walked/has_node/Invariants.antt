use Rattle.std.proofs.Common.{◌≡◌, drop}
use Rattle.sp_paths.specs.Tests.{has_node}
use Rattle.sp_paths.proofs.walked.has_node.Given as goal

abbrev pub invariant-loop-other : goal.invariant-loop-other
invariant-loop-other l = has_node (drop l.other-index l.path) l.fn.node ≡ has_node l.path l.fn.node
