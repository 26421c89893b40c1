-- The rows of flows where another life of a node begins, or nodes are removed: how many end, what is told, and that no row moves.
use Rattle.std.proofs.Common.{◌≡◌, ◌<◌, ◌≤◌, ℕ, ◌+◌, Bool, true, false, List, [], ◌∷◌, ◌++◌, length, map, get_or, set, not, take, cond}
use Rattle.std.proofs.Common.{refl, sym, ap, ◌∙◌, subst, arith}
use Rattle.std.specs.Prelude.{◌==◌, ◌&&◌, count_by}
use Rattle.std.specs.List.{flat_map, position, prefix_len}
use Rattle.std.proofs.lemmas.List.{flat_map_more, length-append, length-map, take_more}
use Rattle.std.proofs.lemmas.List.Folds.{flat_map-map}
use Rattle.std.proofs.lemmas.List.Concat.{flat_map-cons}
use Rattle.std.proofs.lemmas.List.Sums.{sum_by-cons}
use Rattle.sp_base.specs.declared.id.Flow.{Flow}
use Rattle.sp_base.specs.declared.id.NodeId.{NodeId}
use Rattle.sp_msg.specs.Caused.{Caused}
use Rattle.sp_msg.specs.declared.effect.Effect.{Effect}
use Rattle.sp_rel.specs.Places.{IsPlace}
use Rattle.sp_rel.specs.Fates.{AreSoundStill, end_of, ended_if, ended_row, flow_after, is_ended, met_with, row_after, touches}
use Rattle.sp_rel.specs.declared.fate.Fate.{Fate}
use Rattle.sp_rel.specs.declared.fate.Fate.TheVariants as fates
use Rattle.sp_rel.specs.Rows.{RowState}
use Rattle.sp_rel.specs.Tables.{IsSoundRow, states}
use Rattle.sp_rel.specs.declared.place.Place.{Place}
use Rattle.sp_rules.specs.Flow.{FlowState, IsStanding, ended, ends, is_flow}
use Rattle.sp_rules.specs.Rel.{ended_effect, ended_where, ending, is_due, is_over}
use Rattle.sp_rules.specs.declared.kflow.FlowKind.{FlowKind}
use Rattle.sp_rules.specs.Told.{told}
use Rattle.sp_rel.proofs.SoundLemmas.{sound_at, sound_with}
use Rattle.sp_rules.proofs.Standing.{standing_at_start, standing_ended}
use Rattle.sp_rules.proofs.ToldLemmas.{told_both}

-- ---- what ends

-- an effect for each active flow that ends
pub end_count_of : (kind : FlowKind) (fate : Fate) (rows : List RowState) → count_by (is_ended fate) rows ≡ length (flat_map (end_of kind fate) (states rows))
end_count_of kind fate [] = refl
end_count_of kind fate (row ∷ rows) = sum_by-cons (λ r. cond (is_ended fate r) 1 0) row rows ∙ go (is_ended fate row) refl (end_count_of kind fate rows)
  where
    go : (t : Bool) → is_ended fate row ≡ t → count_by (is_ended fate) rows ≡ length (flat_map (end_of kind fate) (states rows))
        → cond (is_ended fate row) 1 0 + count_by (is_ended fate) rows ≡ length (flat_map (end_of kind fate) (states (row ∷ rows)))
    go true is rest = rw is (omega (arith, rest))
    go false is rest = rw is (omega (arith, rest))

-- what the rows tell is what their flows do
pub ended_of_rows : (kind : FlowKind) (fate : Fate) (rows : List RowState) → flat_map (end_of kind fate) (states rows) ≡ flat_map (ended_row kind fate) rows
ended_of_rows kind fate rows = flat_map-map (end_of kind fate) (λ (row : RowState). row.state) rows

-- how many are active, by the flags beside the rows
pub active_count_of : (rows : List RowState) → count_by (λ flag. flag) (map (λ row. row.state.active) rows) ≡ count_by (λ f. f.active) (states rows)
active_count_of [] = refl
active_count_of (row ∷ rows) =
    sum_by-cons (λ (flag : Bool). let n : ℕ = cond flag 1 0 in n) row.state.active (map (λ r. r.state.active) rows)
    ∙ ap (λ (n : ℕ). cond row.state.active 1 0 + n) (active_count_of rows)
    ∙ sym (sum_by-cons (λ (f : FlowState). cond f.active 1 0) row.state (states rows))

-- no more end than are active
pub few_end : (kind : FlowKind) (fate : Fate) (flows : List FlowState) → length (flat_map (end_of kind fate) flows) ≤ count_by (λ f. f.active) flows
few_end kind fate [] = omega arith
few_end kind fate (f ∷ flows) = go (touches fate (ends f)) f.active refl refl (few_end kind fate flows) (sum_by-cons (λ (g : FlowState). cond g.active 1 0) f flows)
  where
    go : (t a : Bool) → touches fate (ends f) ≡ t → f.active ≡ a → length (flat_map (end_of kind fate) flows) ≤ count_by (λ g. g.active) flows
        → count_by (λ g. g.active) (f ∷ flows) ≡ cond f.active 1 0 + count_by (λ g. g.active) flows
        → length (flat_map (end_of kind fate) (f ∷ flows)) ≤ count_by (λ g. g.active) (f ∷ flows)
    go true true is on rest split =
        let told : length (end_of kind fate f) ≡ 1 = rw (is, on) refl in
        let one : cond f.active 1 0 ≡ 1 = ap (λ (b : Bool). let n : ℕ = cond b 1 0 in n) on in
        omega (
          arith,
          ap (λ (es : List Effect). length es) (flat_map-cons (end_of kind fate) f flows),
          length-append (end_of kind fate f) (flat_map (end_of kind fate) flows),
          told,
          rest,
          split,
          one,
        )
    go true false is on rest split =
        let told : length (end_of kind fate f) ≡ 0 = rw (is, on) refl in
        omega (
          arith,
          ap (λ (es : List Effect). length es) (flat_map-cons (end_of kind fate) f flows),
          length-append (end_of kind fate f) (flat_map (end_of kind fate) flows),
          told,
          rest,
          split,
        )
    go false a is on rest split =
        let told : length (end_of kind fate f) ≡ 0 = rw is refl in
        omega (
          arith,
          ap (λ (es : List Effect). length es) (flat_map-cons (end_of kind fate) f flows),
          length-append (end_of kind fate f) (flat_map (end_of kind fate) flows),
          told,
          rest,
          split,
        )

-- ---- what is told

-- the next row tells after those before it
pub told_more : {X : Type 0} (f : X → List Effect) (c out new : Caused) (xs : List X) (i : ℕ) (d : X) → i < length xs
    → out ≡ told c (flat_map f (take i xs)) → new ≡ told out (f (get_or xs i d)) → new ≡ told c (flat_map f (take (i + 1) xs))
told_more {X} f c out new xs i d within so_far tells =
    tells ∙ ap (λ (o : Caused). told o (f (get_or xs i d))) so_far ∙ told_both c (flat_map f (take i xs)) (f (get_or xs i d))
    ∙ ap (told c) (flat_map_more f [] (take i xs) (get_or xs i d)) ∙ ap (λ (ys : List X). told c (flat_map f ys)) (sym (take_more xs i d within))

-- ---- what the rows become

-- it is still a row of its flow
met_ends : (fate : Fate) (f : FlowState) → ends (met_with fate f) ≡ ends f
met_ends (fates.Restarted node) f = refl
met_ends (fates.Removed nodes) f = go f.active
  where
    go : (a : Bool) → ends (cond a (ended f) f) ≡ ends f
    go true = refl
    go false = refl

after_ends : (fate : Fate) (f : FlowState) → ends (flow_after fate f) ≡ ends f
after_ends fate f = go (touches fate (ends f))
  where
    go : (t : Bool) → ends (cond t (met_with fate f) f) ≡ ends f
    go true = met_ends fate f
    go false = refl

after_is : (fate : Fate) (flow : Flow) (f : FlowState) → is_flow flow (flow_after fate f) ≡ is_flow flow f
after_is fate flow f = ap (λ (e : Flow). (e.src.0 == flow.src.0) && (e.dst.0 == flow.dst.0)) (after_ends fate f)

standing_met : (me : NodeId) (bound : ℕ) (fate : Fate) (f : FlowState) → IsStanding me bound f → IsStanding me bound (met_with fate f)
standing_met me bound (fates.Restarted node) f standing = standing_at_start me bound (ends f)
standing_met me bound (fates.Removed nodes) f standing = go f.active
  where
    go : (a : Bool) → IsStanding me bound (cond a (ended f) f)
    go true = standing_ended me bound f standing
    go false = standing

standing_after : (me : NodeId) (bound : ℕ) (fate : Fate) (f : FlowState) → IsStanding me bound f → IsStanding me bound (flow_after fate f)
standing_after me bound fate f standing = go (touches fate (ends f))
  where
    go : (t : Bool) → IsStanding me bound (cond t (met_with fate f) f)
    go true = standing_met me bound fate f standing
    go false = standing

pub sound_after : (me : NodeId) (bound : ℕ) (fate : Fate) (row : RowState) → IsSoundRow me bound row → IsSoundRow me bound (row_after fate row)
sound_after me bound fate row sound = record {
  me_same = sound.me_same;
  bound_same = sound.bound_same;
  standing = standing_after me bound fate row.state sound.standing;
}

-- no flow's first row moves
prefix_after : (fate : Fate) (flow : Flow) (flows : List FlowState)
    → prefix_len (λ f. not (is_flow flow f)) (map (flow_after fate) flows) ≡ prefix_len (λ f. not (is_flow flow f)) flows
prefix_after fate flow [] = refl
prefix_after fate flow (f ∷ flows) =
    rw (after_is fate flow f) (ap (λ (n : ℕ). cond (not (is_flow flow f)) (1 + n) 0) (prefix_after fate flow flows))

position_after : (fate : Fate) (flow : Flow) (flows : List FlowState) → position (is_flow flow) (map (flow_after fate) flows) ≡ position (is_flow flow) flows
position_after fate flow flows = rw (prefix_after fate flow flows, length-map flows (flow_after fate)) refl

pub states_after : (fate : Fate) (rows : List RowState) → states (map (row_after fate) rows) ≡ map (flow_after fate) (states rows)
states_after fate [] = refl
states_after fate (row ∷ rows) = ap (λ rest. flow_after fate row.state ∷ rest) (states_after fate rows)

-- one more row, with its flags
pub sound_more : (fate : Fate) (rows rows_now : List RowState) (active due active_now due_now : List Bool) (i : ℕ) (row new : RowState) (is_on is_owed : Bool)
    → AreSoundStill rows active due rows_now active_now due_now → i < length rows_now → row ≡ get_or rows_now i row → new ≡ row_after fate row
    → is_on ≡ new.state.active → is_owed ≡ is_due new.me new.state
    → AreSoundStill rows active due (set rows_now i new) (set active_now i is_on) (set due_now i is_owed)
sound_more fate rows rows_now active due active_now due_now i row new is_on is_owed still within read is on owed me bound sound =
    let now = still me bound sound in
    let kept : IsSoundRow me bound new = subst (IsSoundRow me bound) (sym is)
    (sound_after me bound fate row (sound_at me bound rows_now active_now due_now i row now within read)) in
    rw (on, owed) (sound_with me bound rows_now active_now due_now i new now kept)

-- no row moves
pub places_stay : (fate : Fate) (flows : List FlowState) (place : Place) → IsPlace flows place → IsPlace (map (flow_after fate) flows) place
places_stay fate flows place at = at ∙ sym (position_after fate place.flow flows)
