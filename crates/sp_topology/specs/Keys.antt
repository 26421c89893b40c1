-- The key that a topology has for a node.
use Rattle.std.specs.Prelude.{ℕ, ◌==◌, List, [], ◌∷◌, Option, Some, None, if◌then◌else◌}
use Rattle.sp_topology.specs.declared.topology.NodeKey.{NodeKey}

abbrev pub key_of : ℕ → List NodeKey → Option (List ℕ)
key_of id [] = None
key_of id (n ∷ nodes) = if n.id.0 == id then Some n.key else key_of id nodes
