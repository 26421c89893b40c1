use Rattle.sp_msg.specs.Masks.{bits}
use Rattle.sp_routes.proofs.OpenEdges.{IsOpenTo}
use Rattle.sp_routes.proofs.chosen.open_edges.Given as goal

abbrev pub invariant-edges : goal.invariant-edges
invariant-edges l = IsOpenTo l.weights.least l.place (bits l.mask)
