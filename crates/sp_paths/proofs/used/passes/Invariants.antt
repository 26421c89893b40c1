use Rattle.std.proofs.Common.{◌≡◌, length}
use Rattle.std.specs.List.{list_any}
use Rattle.sp_graph.specs.Walks.{steps}
use Rattle.sp_paths.specs.Tests.{is_node, passes}
use Rattle.sp_paths.proofs.used.passes.Given as goal

abbrev pub invariant-steps : goal.invariant-steps
invariant-steps l = list_any (λ step. is_node step.0 l.fn.node) (steps l.rest) ≡ passes l.path l.fn.node

abbrev pub decreases-steps : goal.decreases-steps
decreases-steps l = length l.rest
