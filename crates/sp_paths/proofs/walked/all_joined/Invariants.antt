use Rattle.std.proofs.Common.{◌≡◌, length}
use Rattle.std.specs.List.{list_all}
use Rattle.sp_graph.specs.Walks.{steps}
use Rattle.sp_paths.specs.Tests.{is_joined}
use Rattle.sp_paths.proofs.walked.all_joined.Given as goal

abbrev pub invariant-steps : goal.invariant-steps
invariant-steps l = list_all (is_joined l.edges) (steps l.rest) ≡ list_all (is_joined l.edges) (steps l.path)

abbrev pub decreases-steps : goal.decreases-steps
decreases-steps l = length l.rest
