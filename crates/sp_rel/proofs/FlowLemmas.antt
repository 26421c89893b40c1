-- Rows of flows: what is read at a flow's place, and what a row put there makes of the flows.
use Rattle.std.proofs.Common.{◌≡◌, ◌<◌, ℕ, Bool, List, [], ◌∷◌, length, map, get_or, set, Some, None, refl, sym, ap, ◌∙◌, arith, cond, ◌+◌, not}
use Rattle.std.proofs.lemmas.List.{get_or-map, length-map, length-set, map-set}
use Rattle.std.proofs.lemmas.List.Folds.{prefix_len-set}
use Rattle.std.specs.List.{position, prefix_len}
use Rattle.sp_base.proofs.RowLemmas.{is_first, first_where-read, first_where-no_position, replace_where-position, replace_where-no_position}
use Rattle.sp_base.specs.declared.id.Flow.{Flow}
use Rattle.sp_rel.specs.Rows.{RowState}
use Rattle.sp_rules.specs.Flow.{FlowState, is_flow, no_flow}
use Rattle.sp_base.specs.declared.id.NodeId.{NodeId}
use Rattle.sp_rules.specs.Rel.{flow_in, put_flow, is_due}
use Rattle.sp_rel.specs.Tables.{FlowsState, idle_row, put_in, states}

-- a test of the rows is one of their flows
prefix_states : (test : FlowState → Bool) (rows : List RowState) → prefix_len (λ row. test row.state) rows ≡ prefix_len test (states rows)
prefix_states test [] = refl
prefix_states test (row ∷ rows) = ap (λ (n : ℕ). cond (test row.state) (1 + n) 0) (prefix_states test rows)

pub position_states : (test : FlowState → Bool) (rows : List RowState) → position (λ row. test row.state) rows ≡ position test (states rows)
position_states test rows = rw (prefix_states (λ f. not (test f)) rows, length-map rows (λ row. row.state)) refl

-- the place of a flow is that of a row
pub place_within : (rows : List RowState) (flow : Flow) (i : ℕ) → position (is_flow flow) (states rows) ≡ Some i → i < length rows
place_within rows flow i at =
    let first = is_first (is_flow flow) (states rows) i (no_flow flow) at in
    omega (arith, first.within, length-map rows (λ row. row.state))

-- where a list changes in an element that passes as the one before it, the first that passes stays in its place
pub position_set : {X : Type 0} (test : X → Bool) (xs : List X) (i : ℕ) (y d : X) → test y ≡ test (get_or xs i d)
    → position test (set xs i y) ≡ position test xs
position_set test xs i y d same = rw (prefix_len-set (λ x. not (test x)) xs i y d (ap not same), length-set xs i y) refl

-- the flow in the place of a row that was read
pub state_there : (rows : List RowState) (flow : Flow) (i : ℕ) (row : RowState) → position (is_flow flow) (states rows) ≡ Some i
    → row ≡ get_or rows i row → get_or (states rows) i row.state ≡ row.state
state_there rows flow i row at is = get_or-map (λ r. r.state) rows i row row.state (place_within rows flow i at) ∙ ap (λ r. r.state) (sym is)

-- the row that is read at the place of a flow is the flow's
pub read_there : (rows : List RowState) (flow : Flow) (i : ℕ) (row : RowState) → position (is_flow flow) (states rows) ≡ Some i
    → row ≡ get_or rows i row → flow_in (states rows) flow ≡ row.state
read_there rows flow i row at is =
    first_where-read (is_flow flow) (no_flow flow) (states rows) i row.state at (sym (state_there rows flow i row at is))

pub read_none : (rows : List RowState) (flow : Flow) → position (is_flow flow) (states rows) ≡ None → flow_in (states rows) flow ≡ no_flow flow
read_none rows flow none = first_where-no_position (is_flow flow) (no_flow flow) (states rows) none

-- a row that is put there is put for the flow
pub put_there : (rows : List RowState) (flow : Flow) (i : ℕ) (row : RowState) → position (is_flow flow) (states rows) ≡ Some i
    → put_flow (states rows) flow row.state ≡ states (set rows i row)
put_there rows flow i row at = replace_where-position (is_flow flow) row.state (states rows) i at ∙ sym (map-set (λ r. r.state) rows i row)

pub put_none : (rows : List RowState) (flow : Flow) (f : FlowState) → position (is_flow flow) (states rows) ≡ None → put_flow (states rows) flow f ≡ states rows
put_none rows flow f none = replace_where-no_position (is_flow flow) f (states rows) none

pub ruleset read = (read_there, read_none)

-- the flags of the rows are those of their flows
map_states : {X : Type 0} (g : FlowState → X) (rows : List RowState) → map g (states rows) ≡ map (λ row. g row.state) rows
map_states g [] = refl
map_states g (row ∷ rows) = ap (λ rest. g row.state ∷ rest) (map_states g rows)

pub active_in : (rows : List RowState) (flags : List Bool) → flags ≡ map (λ row. row.state.active) rows → flags ≡ map (λ f. f.active) (states rows)
active_in rows flags are = are ∙ sym (map_states (λ f. f.active) rows)

pub due_in : (me : NodeId) (rows : List RowState) (flags : List Bool) → flags ≡ map (λ row. is_due me row.state) rows → flags ≡ map (is_due me) (states rows)
due_in me rows flags are = are ∙ sym (map_states (is_due me) rows)

-- a flow that has no row stays without one
pub put_in_none : (t : FlowsState) (flow : Flow) (f : FlowState) → position (is_flow flow) t.flows ≡ None → t ≡ put_in t flow f
put_in_none t flow f none = ap (λ flows. record t { flows = flows }) (sym (replace_where-no_position (is_flow flow) f t.flows none))

-- the rows at the start
pub states_idle : (me : NodeId) (bound : ℕ) (flows : List Flow) → states (map (idle_row me bound) flows) ≡ map no_flow flows
states_idle me bound [] = refl
states_idle me bound (x ∷ flows) = ap (λ rest. no_flow x ∷ rest) (states_idle me bound flows)
