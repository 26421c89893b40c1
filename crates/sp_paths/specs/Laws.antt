-- What ties `disjoint` and `check` together.
use Rattle.std.specs.Prelude.{ℕ, length}
use Rattle.sp_base.specs.declared.id.NodeId.{NodeId}
use Rattle.sp_graph.specs.declared.graph.Graph.{Graph}
use Rattle.sp_graph.specs.Disjoint.{Least}
use Rattle.sp_graph.specs.Edges.{IsGraph}
use Rattle.sp_paths.specs.declared.paths.Paths.{Paths}
use Rattle.sp_paths.specs.Cheapest.{AreCheapest}
use Rattle.sp_paths.specs.Checks.{IsChecked}

-- what one gives, the other accepts
abbrev pub FoundIsAccepted : Type 0
FoundIsAccepted = (g : Graph) (s t : NodeId) (k : ℕ) (p : Paths) → AreCheapest g s t k p → IsChecked g s t p

-- no disjoint paths cost less than as many that are accepted
abbrev pub AcceptedIsLeast : Type 0
AcceptedIsLeast = (g : Graph) (s t : NodeId) (p : Paths) → IsGraph g → IsChecked g s t p → Least g s t (length p.paths) p.paths
