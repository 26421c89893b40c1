-- The signers of a scenario's keys.
use Rattle.std.specs.Prelude.{ℕ, List}
use Rattle.sp_base.specs.declared.id.NodeId.{NodeId}
use Rattle.sp_hss.specs.KeyTree.{total}
use Rattle.sp_hss.specs.Signer.{Signer}
use Rattle.sp_runs.specs.Scenarios.{node_seed}
use Rattle.sp_sign.specs.Heights.{param_of}
use Rattle.sp_topology.specs.declared.topology.LmsHeight.{LmsHeight}

-- the signer of a node's key, with all its indexes and none of them used
abbrev pub whole_signer : LmsHeight → (seed : List ℕ) → NodeId → Signer
whole_signer height seed u = record { height = param_of height; seed = node_seed seed u.0; index = 0; bound = total (param_of height) }
