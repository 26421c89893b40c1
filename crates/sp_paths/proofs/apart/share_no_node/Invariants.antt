use Rattle.std.proofs.Common.{◌≡◌, drop}
use Rattle.sp_paths.specs.Tests.{share_no_node}
use Rattle.sp_paths.proofs.apart.share_no_node.Given as goal

abbrev pub invariant-loop-node : goal.invariant-loop-node
invariant-loop-node l = share_no_node l.fn.s l.fn.t (drop l.node-index l.path) l.other ≡ share_no_node l.fn.s l.fn.t l.path l.other
