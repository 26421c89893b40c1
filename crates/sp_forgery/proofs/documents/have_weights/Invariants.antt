use Rattle.std.proofs.Common.{◌≡◌, drop, nat_eq}
use Rattle.std.specs.Cmp.Lexicographic.{pointwise}
use Rattle.sp_rules.specs.Topologies.{weights_in}
use Rattle.sp_forgery.proofs.documents.have_weights.Given as goal

abbrev pub invariant-weights : goal.invariant-weights
invariant-weights l = pointwise nat_eq (drop l.weight-index l.weights) (weights_in l.rest) ≡ pointwise nat_eq l.fn.weights (weights_in l.fn.edges)
