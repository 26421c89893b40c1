-- The rows of flows in memory: how they are seen, and what always holds of them.
use Rattle.std.specs.Prelude.{ℕ, ◌≡◌, Bool, List, All, map}
use Rattle.sp_base.specs.declared.id.Flow.{Flow}
use Rattle.sp_base.specs.declared.id.NodeId.{NodeId}
use Rattle.sp_rel.specs.Rows.{RowState}
use Rattle.sp_rules.specs.Flow.{FlowState, IsStanding, no_flow}
use Rattle.sp_rules.specs.Rel.{put_flow, is_due}

-- the flows at a node, with the bound of each
pub record FlowsState : Type 0 where
  pub me : NodeId
  pub bound : ℕ
  pub flows : List FlowState

-- a table with one flow changed
abbrev pub put_in : FlowsState → Flow → FlowState → FlowsState
put_in t flow f = record t { flows = put_flow t.flows flow f }

-- the states of rows
abbrev pub states : List RowState → List FlowState
states rows = map (λ row. row.state) rows

-- the row of a flow before its first message
abbrev pub idle_row : NodeId → ℕ → Flow → RowState
idle_row me bound flow = record { me = me; bound = bound; state = no_flow flow }

-- the row is one of this table, and what always holds of a flow holds of it
pub record IsSoundRow (me : NodeId) (bound : ℕ) (row : RowState) : Type 0 where
  pub me_same : row.me ≡ me
  pub bound_same : row.bound ≡ bound
  pub standing : IsStanding me bound row.state

-- beside each row stand its flags: whether it is active, and whether its acknowledgement is due
pub record AreSound (me : NodeId) (bound : ℕ) (rows : List RowState) (active due : List Bool) : Type 0 where
  pub rows_sound : All (IsSoundRow me bound) rows
  pub active_flags : active ≡ map (λ row. row.state.active) rows
  pub due_flags : due ≡ map (λ row. is_due me row.state) rows
