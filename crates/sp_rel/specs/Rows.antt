-- A flow at a node, with the node and the bound of the flow's messages there.
use Rattle.std.specs.Prelude.{ℕ, ◌≡◌, true, false}
use Rattle.sp_base.specs.declared.id.NodeId.{NodeId}
use Rattle.sp_rules.specs.Flow.{FlowState, ends}
use Rattle.sp_rel.specs.Seats.{SeatState}

pub record RowState : Type 0 where
  pub me : NodeId
  pub bound : ℕ
  pub state : FlowState

-- a row with another state of its flow
abbrev pub with_state : RowState → FlowState → RowState
with_state row f = record row { state = f }

-- the flow is active, or the seat holds its memory
abbrev pub IsSeated : NodeId → ℕ → FlowState → SeatState → Type 0
IsSeated me bound f seat = f.active ≡ false → seat ≡ record { me = me; bound = bound; flow = ends f; holds = true }
