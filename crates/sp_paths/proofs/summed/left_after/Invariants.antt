use Rattle.std.proofs.Common.{◌≡◌, ◌+◌, length, sum_by}
use Rattle.sp_graph.specs.Walks.{steps, weight_between}
use Rattle.sp_paths.proofs.summed.left_after.Given as goal

abbrev pub invariant-steps : goal.invariant-steps
invariant-steps l =
    l.left + sum_by (λ step. weight_between l.edges step.0 step.1) (steps l.path) ≡ l.cost
    + sum_by (λ step. weight_between l.edges step.0 step.1) (steps l.rest)

abbrev pub decreases-steps : goal.decreases-steps
decreases-steps l = length l.rest
