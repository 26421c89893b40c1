use Rattle.std.proofs.Common.{◌≡◌, length}
use Rattle.sp_paths.specs.Tests.{share_no_edge}
use Rattle.sp_paths.proofs.apart.share_no_edge.Given as goal

abbrev pub invariant-steps : goal.invariant-steps
invariant-steps l = share_no_edge l.rest l.other ≡ share_no_edge l.path l.other

abbrev pub decreases-steps : goal.decreases-steps
decreases-steps l = length l.rest
