-- What becomes of flows where another life of an end begins, or an end is removed.
use Rattle.std.specs.Prelude.{ℕ, ◌&&◌, Bool, List, [], ◌∷◌, if◌then◌else◌}
use Rattle.sp_base.specs.declared.id.Flow.{Flow}
use Rattle.sp_base.specs.declared.id.NodeId.{NodeId}
use Rattle.sp_msg.specs.declared.effect.Effect.{Effect}
use Rattle.sp_rel.specs.Rows.{RowState, with_state}
use Rattle.sp_rel.specs.Tables.{AreSound}
use Rattle.sp_rel.specs.declared.fate.Fate.{Fate}
use Rattle.sp_rel.specs.declared.fate.Fate.TheVariants as fates
use Rattle.sp_rules.specs.Flow.{FlowState, ended, ends, no_flow}
use Rattle.sp_rules.specs.Rel.{ending, is_end, is_over}
use Rattle.sp_rules.specs.declared.kflow.FlowKind.{FlowKind}

-- it comes over a flow with these ends
abbrev pub touches : Fate → Flow → Bool
touches (fates.Restarted node) flow = is_end node flow
touches (fates.Removed nodes) flow = is_over nodes.now flow

-- the flow ends where it was active
abbrev pub ended_if : FlowState → FlowState
ended_if f = if f.active then ended f else f

-- what a flow is after it came over it
abbrev pub met_with : Fate → FlowState → FlowState
met_with (fates.Restarted node) f = no_flow (ends f)
met_with (fates.Removed nodes) f = ended_if f

-- a flow after its fate, where it meets it
abbrev pub flow_after : Fate → FlowState → FlowState
flow_after fate f = if touches fate (ends f) then met_with fate f else f

-- what is told of a flow of this kind by its fate
abbrev pub end_of : FlowKind → Fate → FlowState → List Effect
end_of kind fate f = if touches fate (ends f) && f.active then ending kind (ends f) ∷ [] else []

-- ---- rows of flows

-- whether a row's flow ends by this fate
abbrev pub is_ended : Fate → RowState → Bool
is_ended fate row = touches fate (ends row.state) && row.state.active

-- what is told of a row of this kind by this fate
abbrev pub ended_row : FlowKind → Fate → RowState → List Effect
ended_row kind fate row = end_of kind fate row.state

-- a row after this fate
abbrev pub row_after : Fate → RowState → RowState
row_after fate row = with_state row (flow_after fate row.state)

-- rows with their flags are sound where those before them were, whatever node and bound they are of
abbrev pub AreSoundStill : (rows : List RowState) (active due : List Bool) (new_rows : List RowState) (new_active new_due : List Bool) → Type 0
AreSoundStill rows active due new_rows new_active new_due =
    (me : NodeId) (bound : ℕ) → AreSound me bound rows active due → AreSound me bound new_rows new_active new_due
