-- What a contract sees of a node that signs: the node and its signer.
use Rattle.sp_base.specs.declared.id.NodeId.{NodeId}
use Rattle.sp_hss.specs.Signer.{Signer}

pub record NodeSigner : Type 0 where
  pub node : NodeId
  pub signer : Signer
