-- What a contract sees of an administrator: the first topology, and the key that signs each version.
use Rattle.sp_hss.specs.SeedKey.{SeedKey}
use Rattle.sp_topology.specs.declared.topology.Topology.{Topology}

-- the administrator of a scenario: the topology, and the key of its documents
pub record Administrator : Type 0 where
  pub topology : Topology
  pub key : SeedKey
