use Rattle.std.proofs.Common.{◌≡◌, ◌+◌, ◌*◌, ◌^◌, ◌≤◌, length, sum_by}
use Rattle.sp_graph.specs.Walks.{steps, weight_between}
use Rattle.sp_paths.proofs.costs.path_cost.Given as goal

abbrev pub invariant-steps : goal.invariant-steps
invariant-steps l = record {
  sum : l.total + sum_by (λ step. weight_between l.edges step.0 step.1) (steps l.rest) ≡ sum_by (λ step. weight_between l.edges step.0 step.1) (steps l.path);
  room : l.total + length l.rest * 2 ^ 32 ≤ length l.path * 2 ^ 32;
}

abbrev pub decreases-steps : goal.decreases-steps
decreases-steps l = length l.rest
