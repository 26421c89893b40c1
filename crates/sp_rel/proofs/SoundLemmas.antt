-- The rows of flows and their flags: at the start, and where a row is put in the place of another.
use Rattle.std.proofs.Common.{◌≡◌, ◌==◌, ◌<◌, ℕ, Bool, true, false, List, [], ◌∷◌, All, length, map, get_or, set, replicate, refl, sym, ap, ◌∙◌, subst, ◌&&◌}
use Rattle.std.proofs.Common.{Some}
use Rattle.std.specs.List.{position}
use Rattle.std.proofs.lemmas.List.{map-set}
use Rattle.std.proofs.Math.Seq.{map-set_same}
use Rattle.std.proofs.lemmas.List.Elements.{All-get_or, All-map, All-set}
use Rattle.sp_base.specs.declared.id.Flow.{Flow}
use Rattle.sp_base.specs.declared.id.NodeId.{NodeId}
use Rattle.sp_rel.specs.Changes.{CanChange, changed}
use Rattle.sp_rel.specs.Rows.{IsSeated, RowState, with_state}
use Rattle.sp_rel.specs.Seats.{SeatState}
use Rattle.sp_rel.specs.declared.change.Change.{Change}
use Rattle.sp_rel.specs.declared.change.Change.TheVariants as changes
use Rattle.sp_rules.specs.Flow.{FlowState, after_take, is_flow, no_flow, IsStanding}
use Rattle.sp_rules.specs.Rel.{flow_in, is_due, put_flow}
use Rattle.sp_rel.specs.Tables.{AreSound, IsSoundRow, idle_row, states}
use Rattle.sp_rel.proofs.FlowLemmas.{place_within, position_set, put_there, read_there, state_there}
use Rattle.sp_rel.proofs.Standing.{standing_changed}
use Rattle.sp_rules.proofs.Standing.{standing_at_start, standing_taken}

-- a row of this table in the place of another, with its flags
pub sound_with : (me : NodeId) (bound : ℕ) (rows : List RowState) (active due : List Bool) (place : ℕ) (row : RowState)
    → AreSound me bound rows active due → IsSoundRow me bound row
    → AreSound me bound (set rows place row) (set active place row.state.active) (set due place (is_due row.me row.state))
sound_with me bound rows active due place row sound new = record {
  rows_sound = All-set (IsSoundRow me bound) rows place row new sound.rows_sound;
  active_flags = ap (λ flags. set flags place row.state.active) sound.active_flags ∙ sym (map-set (λ r. r.state.active) rows place row);
  due_flags =
      ap (λ flags. set flags place (is_due row.me row.state)) sound.due_flags
      ∙ ap (λ u. set (map (λ r. is_due me r.state) rows) place (is_due u row.state)) new.me_same
      ∙ sym (map-set (λ r. is_due me r.state) rows place row);
}

-- the row in a place is sound
pub sound_at : (me : NodeId) (bound : ℕ) (rows : List RowState) (active due : List Bool) (place : ℕ) (row : RowState)
    → AreSound me bound rows active due → place < length rows → row ≡ get_or rows place row → IsSoundRow me bound row
sound_at me bound rows active due place row sound within is =
    subst (IsSoundRow me bound) (sym is) (All-get_or (IsSoundRow me bound) rows place row within sound.rows_sound)

-- no flow is active at the start, and none is due
none_active : (me : NodeId) (bound : ℕ) (flows : List Flow) → replicate (length flows) false ≡ map (λ r. r.state.active) (map (idle_row me bound) flows)
none_active me bound [] = refl
none_active me bound (x ∷ flows) = ap (λ rest. false ∷ rest) (none_active me bound flows)

not_due : (me : NodeId) (flow : Flow) → false ≡ is_due me (no_flow flow)
not_due me flow = go (flow.dst.0 == me.0)
  where
    go : (t : Bool) → false ≡ (t && false)
    go true = refl
    go false = refl

none_due : (me : NodeId) (bound : ℕ) (flows : List Flow) → replicate (length flows) false ≡ map (λ r. is_due me r.state) (map (idle_row me bound) flows)
none_due me bound [] = refl
none_due me bound (x ∷ flows) = ap (λ first. first ∷ replicate (length flows) false) (not_due me x)
    ∙ ap (λ rest. is_due me (no_flow x) ∷ rest) (none_due me bound flows)

pub sound_at_start : (me : NodeId) (bound : ℕ) (flows : List Flow) (rows : List RowState) (active due : List Bool)
    → rows ≡ map (idle_row me bound) flows → active ≡ replicate (length flows) false
    → due ≡ replicate (length flows) false → AreSound me bound rows active due
sound_at_start me bound flows rows active due idle off settled = record {
  rows_sound = subst (λ rs. All (IsSoundRow me bound) rs) (sym idle)
      (All-map (IsSoundRow me bound) (idle_row me bound) flows (λ i d within. record {
        me_same = refl;
        bound_same = refl;
        standing =
            standing_at_start me bound (get_or flows i d);
      }));
  active_flags = off ∙ none_active me bound flows ∙ ap (λ rs. map (λ r. r.state.active) rs) (sym idle);
  due_flags = settled ∙ none_due me bound flows ∙ ap (λ rs. map (λ r. is_due me r.state) rs) (sym idle);
}

-- ---- a flow changes

-- the row at the place of a flow, as it is read
pub record IsRowAt (me : NodeId) (bound : ℕ) (rows : List RowState) (flow : Flow) (i : ℕ) (row : RowState) : Type 0 where
  pub state : flow_in (states rows) flow ≡ row.state
  pub sound : IsSoundRow me bound row

pub row_at : (me : NodeId) (bound : ℕ) (rows : List RowState) (active due : List Bool) (flow : Flow) (i : ℕ) (row : RowState)
    → AreSound me bound rows active due
    → position (is_flow flow) (states rows) ≡ Some i → row ≡ get_or rows i row → IsRowAt me bound rows flow i row
row_at me bound rows active due flow i row sound at is = record {
  state = read_there rows flow i row at is;
  sound = sound_at me bound rows active due i row sound (place_within rows flow i at) is;
}

pub row_can_change : (me : NodeId) (bound : ℕ) (rows : List RowState) (flow : Flow) (i : ℕ) (row : RowState) (change : Change)
    → IsRowAt me bound rows flow i row
    → CanChange me bound (flow_in (states rows) flow) change → CanChange row.me row.bound row.state change
row_can_change me bound rows flow i row change at can =
    subst (λ (u : NodeId). CanChange u row.bound row.state change) (sym at.sound.me_same)
    (subst (λ (b : ℕ). CanChange me b row.state change) (sym at.sound.bound_same) (subst (λ (f : FlowState). CanChange me bound f change) at.state can))

pub row_is_seated : (me : NodeId) (bound : ℕ) (rows : List RowState) (flow : Flow) (i : ℕ) (row : RowState) (seat : SeatState)
    → IsRowAt me bound rows flow i row
    → IsSeated me bound (flow_in (states rows) flow) seat → IsSeated row.me row.bound row.state seat
row_is_seated me bound rows flow i row seat at seated =
    subst (λ (u : NodeId). IsSeated u row.bound row.state seat) (sym at.sound.me_same)
    (subst (λ (b : ℕ). IsSeated me b row.state seat) (sym at.sound.bound_same) (subst (λ (f : FlowState). IsSeated me bound f seat) at.state seated))

pub sound_changed : (me : NodeId) (bound : ℕ) (rows : List RowState) (active due : List Bool) (flow : Flow) (i : ℕ) (row new : RowState)
    (change : Change) (is_on is_owed : Bool)
    → AreSound me bound rows active due → IsRowAt me bound rows flow i row → CanChange me bound (flow_in (states rows) flow) change
    → new ≡ with_state row (changed change row.state)
    → is_on ≡ new.state.active → is_owed ≡ is_due new.me new.state → AreSound me bound (set rows i new) (set active i is_on) (set due i is_owed)
sound_changed me bound rows active due flow i row new change is_on is_owed sound at can is on owed =
    let standing : IsStanding me bound (changed change row.state) =
    standing_changed me bound row.state change at.sound.standing (subst (λ (f : FlowState). CanChange me bound f change) at.state can) in
    let kept : IsSoundRow me bound new = record {
      me_same = ap (λ r. r.me) is ∙ at.sound.me_same;
      bound_same = ap (λ r. r.bound) is ∙ at.sound.bound_same;
      standing = subst (IsStanding me bound) (sym (ap (λ r. r.state) is)) standing;
    } in
    rw (on, owed) (sound_with me bound rows active due i new sound kept)

pub flows_changed : (rows : List RowState) (flow : Flow) (i : ℕ) (row new : RowState) (change : Change)
    → position (is_flow flow) (states rows) ≡ Some i → flow_in (states rows) flow ≡ row.state
    → new ≡ with_state row (changed change row.state) → states (set rows i new) ≡ put_flow (states rows) flow (changed change (flow_in (states rows) flow))
flows_changed rows flow i row new change at read is =
    sym (put_there rows flow i new at) ∙ ap (put_flow (states rows) flow) (ap (λ r. r.state) is ∙ ap (changed change) (sym read))

-- a change leaves the ends of a flow
changed_is : (flow : Flow) (change : Change) (f : FlowState) → is_flow flow (changed change f) ≡ is_flow flow f
changed_is flow (changes.Push message) f = refl
changed_is flow (changes.Receive payload) f = refl
changed_is flow (changes.Acknowledge ack) f = refl
changed_is flow (changes.Conclude ack) f = refl

-- no row moves where one changes
pub place_changed : (rows : List RowState) (flow : Flow) (i : ℕ) (row new : RowState) (change : Change)
    → position (is_flow flow) (states rows) ≡ Some i → row ≡ get_or rows i row
    → new ≡ with_state row (changed change row.state) → position (is_flow flow) (states (set rows i new)) ≡ position (is_flow flow) (states rows)
place_changed rows flow i row new change at read is =
    ap (position (is_flow flow)) (map-set (λ r. r.state) rows i new)
    ∙ position_set (is_flow flow) (states rows) i new.state row.state
    (ap (λ r. is_flow flow r.state) is ∙ changed_is flow change row.state ∙ ap (is_flow flow) (sym (state_there rows flow i row at read)))

pub sound_taken : (me : NodeId) (bound : ℕ) (rows : List RowState) (active due : List Bool) (flow : Flow) (i : ℕ) (row new : RowState)
    → AreSound me bound rows active due
    → IsRowAt me bound rows flow i row → row ≡ get_or rows i row → new ≡ with_state row (after_take row.state) → AreSound me bound (set rows i new) active due
sound_taken me bound rows active due flow i row new sound at read is =
    let kept : IsSoundRow me bound new = record {
      me_same = ap (λ r. r.me) is ∙ at.sound.me_same;
      bound_same = ap (λ r. r.bound) is ∙ at.sound.bound_same;
      standing = subst (IsStanding me bound) (sym (ap (λ r. r.state) is)) (standing_taken me bound row.state at.sound.standing);
    } in
    record {
      rows_sound = All-set (IsSoundRow me bound) rows i new kept sound.rows_sound;
      active_flags = sound.active_flags ∙ sym (map-set_same (λ r. r.state.active) rows i new row (ap (λ r. r.state.active) (is
          ∙ ap (λ r. with_state r (after_take r.state)) read)));
      due_flags = sound.due_flags ∙ sym (map-set_same (λ r. is_due me r.state) rows i new row (ap (λ r. is_due me r.state) (is
          ∙ ap (λ r. with_state r (after_take r.state)) read)));
    }

pub flows_taken : (rows : List RowState) (flow : Flow) (i : ℕ) (row new : RowState) → position (is_flow flow) (states rows) ≡ Some i
    → flow_in (states rows) flow ≡ row.state
    → new ≡ with_state row (after_take row.state) → states (set rows i new) ≡ put_flow (states rows) flow (after_take (flow_in (states rows) flow))
flows_taken rows flow i row new at read is = sym (put_there rows flow i new at) ∙ ap (put_flow (states rows) flow) (ap (λ r. r.state) is
    ∙ ap after_take (sym read))

pub all_standing : (me : NodeId) (bound : ℕ) (rows : List RowState) → All (IsSoundRow me bound) rows → All (IsStanding me bound) (states rows)
all_standing me bound rows sound = All-map (IsStanding me bound) (λ row. row.state) rows (λ k d within. (sound k d within).standing)
