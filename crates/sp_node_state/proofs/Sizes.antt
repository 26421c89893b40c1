-- The bounds of a node, under the arts of the format.
use Rattle.std.specs.Prelude.{IsTrue}
use Rattle.sp_node_format.specs.Format.{format_of}
use Rattle.sp_rules.specs.Node.{NodeState}
use Rattle.sp_rules.specs.Parts.{is_signed}
use Rattle.laws_node.specs.Nodes.{sizes_of}
use Rattle.laws_node.specs.Sizes.{Sizes}

abbrev pub sizes : NodeState → Sizes
sizes n = sizes_of (λ o. IsTrue (is_signed (format_of n.fixed) n.fixed o)) n
