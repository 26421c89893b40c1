use Rattle.std.proofs.Common.{◌≡◌, drop}
use Rattle.std.specs.Cmp.Lexicographic.{pointwise}
use Rattle.sp_rules.specs.Topologies.{has_same_ends}
use Rattle.sp_node_parts.proofs.succession.have_same_ends.Given as goal

abbrev pub invariant-edges : goal.invariant-edges
invariant-edges l = pointwise has_same_ends (drop l.edge-index l.old) l.rest ≡ pointwise has_same_ends l.fn.old l.fn.new
