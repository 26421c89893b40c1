use Rattle.std.proofs.Common.{◌≡◌, drop, map}
use Rattle.sp_rules.specs.Prio.{is_node}
use Rattle.sp_node_state.proofs.state.has_node.Given as goal

abbrev pub invariant-nodes : goal.invariant-nodes
invariant-nodes l = is_node (map (λ n. n.id) (drop l.known-index l.nodes)) l.node.0 ≡ is_node (map (λ n. n.id) l.fn.nodes) l.node.0
