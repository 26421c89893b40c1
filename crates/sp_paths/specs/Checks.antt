-- What `check` decides: whether these are disjoint paths between two nodes, of this cost, with a certificate.
use Rattle.std.specs.Prelude.{◌≡◌, length}
use Rattle.sp_base.specs.declared.id.NodeId.{NodeId}
use Rattle.sp_graph.specs.declared.graph.Graph.{Graph}
use Rattle.sp_graph.specs.Certificates.{IsCertificate}
use Rattle.sp_graph.specs.Disjoint.{Disjoint, cost}
use Rattle.sp_paths.specs.declared.paths.Paths.{Paths}
use Rattle.sp_paths.specs.Cheapest.{AreEnds}

-- as many disjoint paths as stand there, in any order, with their cost and a certificate
pub record IsChecked (g : Graph) (s t : NodeId) (p : Paths) : Type 0 where
  pub ends : AreEnds g s t
  pub disjoint : Disjoint g s t (length p.paths) p.paths
  pub cost : p.cost ≡ cost g p.paths
  pub certificate : IsCertificate g s t p.paths p.potentials
