use Rattle.std.proofs.Common.{◌≡◌, drop}
use Rattle.std.specs.Cmp.Lexicographic.{pointwise}
use Rattle.sp_rules.specs.Topologies.{is_same_node}
use Rattle.sp_node_parts.proofs.succession.are_same_nodes.Given as goal

abbrev pub invariant-nodes : goal.invariant-nodes
invariant-nodes l = pointwise is_same_node (drop l.node-index l.old) l.rest ≡ pointwise is_same_node l.fn.old l.fn.new
