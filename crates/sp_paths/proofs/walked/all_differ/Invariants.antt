use Rattle.std.proofs.Common.{◌≡◌, length}
use Rattle.sp_paths.specs.Tests.{all_differ}
use Rattle.sp_paths.proofs.walked.all_differ.Given as goal

abbrev pub invariant-nodes : goal.invariant-nodes
invariant-nodes l = all_differ l.rest ≡ all_differ l.path

abbrev pub decreases-nodes : goal.decreases-nodes
decreases-nodes l = length l.rest
