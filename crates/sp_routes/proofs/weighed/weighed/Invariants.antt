use Rattle.std.proofs.Common.{◌≡◌, ◌++◌, drop}
use Rattle.sp_rules.specs.Masks.{weighed}
use Rattle.sp_routes.proofs.weighed.weighed.Given as goal

abbrev pub invariant-edges : goal.invariant-edges
invariant-edges l = record {
  place : l.place ≡ l.edge-index;
  so_far : l.made.items ++ weighed l.weights l.place (drop l.edge-index l.edges) ≡ weighed l.weights 0 l.edges;
}
