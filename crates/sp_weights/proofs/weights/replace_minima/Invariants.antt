use Rattle.std.proofs.Common.{◌≡◌, ◌++◌, take, drop}
use Rattle.sp_rules.specs.Topologies.{weights_in}
use Rattle.sp_weights.proofs.weights.replace_minima.Given as goal

abbrev pub invariant-edges : goal.invariant-edges
invariant-edges l = l.least.items ≡ weights_in (take l.place l.edges) ++ drop l.place l.fn.least.items
