use Rattle.std.proofs.Common.{◌≡◌, ◌+◌, ◌*◌, ◌^◌, ◌≤◌, drop, sum_by}
use Rattle.sp_base.specs.declared.limits.TheConstants.{MAX_NODES_2}
use Rattle.sp_graph.specs.Walks.{steps, weight_between}
use Rattle.sp_paths.proofs.costs.cost.Given as goal

abbrev pub invariant-loop-path : goal.invariant-loop-path
invariant-loop-path l = record {
  sum : l.total + sum_by (λ path. sum_by (λ step. weight_between l.edges step.0 step.1) (steps path)) (drop l.path-index l.paths)
      ≡ sum_by (λ path. sum_by (λ step. weight_between l.edges step.0 step.1) (steps path)) l.paths;
  room : l.total ≤ l.path-index * (MAX_NODES_2 * 2 ^ 32);
}
