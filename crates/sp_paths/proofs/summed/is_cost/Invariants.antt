use Rattle.std.proofs.Common.{◌≡◌, ◌+◌, drop, sum_by}
use Rattle.sp_graph.specs.Walks.{steps, weight_between}
use Rattle.sp_paths.proofs.summed.is_cost.Given as goal

abbrev pub invariant-loop-path : goal.invariant-loop-path
invariant-loop-path l =
    l.left + sum_by (λ path. sum_by (λ step. weight_between l.edges step.0 step.1) (steps path)) l.paths
    ≡ l.fn.cost + sum_by (λ path. sum_by (λ step. weight_between l.edges step.0 step.1) (steps path)) (drop l.path-index l.paths)
