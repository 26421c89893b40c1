use Rattle.std.proofs.Common.{◌∙◌, drop, sym}
use Rattle.sp_rules.specs.Topologies.{is_end}
use Rattle.sp_node_parts.proofs.Closing.{none_under}
use Rattle.sp_node_parts.proofs.withdrawn.has_edge.Goals as goal

pub returns-in_default : goal.returns-in_default
returns-in_default c =
    sym (none_under (is_end c.args.node.0) (drop c.edges.edge-index c.args.edges.now) c.edges.rest.now c.in_default.ensures.cases) ∙ c.edges.invariant
