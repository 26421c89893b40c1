use Rattle.std.proofs.Common.{◌≡◌, drop}
use Rattle.std.specs.List.{list_any}
use Rattle.sp_rules.specs.Topologies.{is_joined, under}
use Rattle.sp_node_parts.proofs.withdrawn.is_joined.Given as goal

abbrev pub invariant-edges : goal.invariant-edges
invariant-edges l =
    list_any (is_joined l.node.0) (under (drop l.edge-index l.edges) l.rest) ≡ list_any (is_joined l.node.0) (under l.fn.edges l.fn.weights)
