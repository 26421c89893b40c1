-- What `disjoint` gives: the cheapest disjoint paths in lexical order, with their cost and their certificate; and the paths alone.
use Rattle.std.specs.Prelude.{ℕ, ◌≡◌, ◌≢◌, ◌≤◌, List}
use Rattle.std.specs.List.{AllPairs}
use Rattle.sp_base.specs.declared.id.NodeId.{NodeId}
use Rattle.sp_graph.specs.declared.graph.Graph.{Graph}
use Rattle.sp_graph.specs.Certificates.{IsCertificate}
use Rattle.sp_graph.specs.Disjoint.{Disjoint, Least, cost}
use Rattle.sp_paths.specs.declared.paths.Paths.{Paths}
use Rattle.sp_paths.specs.Order.{IsBefore}

abbrev pub IsNode : Graph → NodeId → Type 0
IsNode g v = (1 ≤ v.0) × (v.0 ≤ g.nodes)

-- two different nodes of the graph
abbrev pub AreEnds : Graph → NodeId → NodeId → Type 0
AreEnds g s t = IsNode g s × IsNode g t × (s ≢ t)

-- k disjoint paths in lexical order, and no others cost less
pub record AreLeast (g : Graph) (s t : NodeId) (k : ℕ) (paths : List (List NodeId)) : Type 0 where
  pub ends : AreEnds g s t
  pub disjoint : Disjoint g s t k paths
  pub ordered : AllPairs IsBefore paths
  pub least : Least g s t k paths

-- k disjoint paths in lexical order with their cost and their certificate, and no others cost less
pub record AreCheapest (g : Graph) (s t : NodeId) (k : ℕ) (p : Paths) : Type 0 where
  pub ends : AreEnds g s t
  pub disjoint : Disjoint g s t k p.paths
  pub ordered : AllPairs IsBefore p.paths
  pub cost : p.cost ≡ cost g p.paths
  pub certificate : IsCertificate g s t p.paths p.potentials
  pub least : Least g s t k p.paths
