-- The memory that a flow needs at a node, before the flow is active there.
use Rattle.std.specs.Prelude.{ℕ, Bool}
use Rattle.sp_base.specs.declared.id.Flow.{Flow}
use Rattle.sp_base.specs.declared.id.NodeId.{NodeId}

-- whose it is, and whether it holds memory
pub record SeatState : Type 0 where
  pub me : NodeId
  pub bound : ℕ
  pub flow : Flow
  pub holds : Bool
