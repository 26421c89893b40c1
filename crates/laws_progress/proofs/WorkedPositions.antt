-- The worked positions: what the claims say in numbers, and the worlds that they refuse.
use Rattle.std.proofs.Common.{◌≡◌, ◌≤◌, ◌<◌, ℕ, false, true, List, [], ◌∷◌, Option, Some, None, refl, ap, arith}
use Rattle.sp_base.specs.declared.id.NodeId.{NodeId}
use Rattle.sp_rules.specs.Arts.{Arts}
use Rattle.sp_rules.specs.Flow.{no_flow}
use Rattle.sp_runs.specs.Worlds.{World}
use Rattle.sp_rules.specs.declared.kflow.FlowKind.TheVariants.{Plain}
use Rattle.laws_progress.specs.Positions.{PositionClaims, ProgressClaims}
use Rattle.laws_progress.specs.Worked.{line, node, send}
use Rattle.laws_progress.specs.WorkedPositions.{PositionsAreWorked, accepted, flow_from}

-- the claims of the flow from 1 to 3
claims : (arts : Arts) (w : World) → ProgressClaims Plain arts line send accepted w → PositionClaims Plain arts line (node 1) (node 3) send accepted w
claims arts w h = h.positions (node 1) (node 3) refl refl (λ same. (let e : ◌≡◌ {A = ℕ} 1 3 = ap (λ (v : NodeId). v.0) same in omega (arith, e)))

apart : (u v : ℕ) → (u ≡ v → ⊥) → node u ≡ node v → ⊥
apart u v other same = other (ap (λ (n : NodeId). n.0) same)

other_payload : ◌≡◌ {A = Option (ℕ × List ℕ)} (Some (1, 104 ∷ 105 ∷ [])) (Some (1, [])) → ⊥
other_payload e =
    let same : ◌≡◌ {A = List ℕ} (104 ∷ 105 ∷ []) [] = ap (λ (o : Option (ℕ × List ℕ)). elim o [ None ↦ [] | Some m ↦ m.1 ]) e in
    absurd cc

pub positions_are_worked : PositionsAreWorked
positions_are_worked = record {
  one_active = λ arts w u n h at. h.few u n at;
  base_ahead = λ arts h. (let e : 1 ≤ 0 = (claims arts _ h).base (node 2) _ _ refl refl in omega (arith, e));
  end_ahead = λ arts h. (let e : 1 ≤ 0 = (claims arts _ h).base_at_end _ refl in omega (arith, e));
  have_ahead = λ arts h. (let e : 1 ≤ 0 = (claims arts _ h).have (node 2) _ _ refl refl in omega (arith, e));
  list_short = λ arts h. (let e : ◌≡◌ {A = ℕ} 1 0 = ((claims arts _ h).list (node 1) _ refl (apart 1 3 (λ e. omega (arith, e)))).0 in omega (arith, e));
  list_other = λ arts h.
      let e : Some (1, 104 ∷ 105 ∷ []) ≡ Some (1, []) = ((claims arts _ h).list (node 1) _ refl (apart 1 3 (λ e. omega (arith, e)))).1.0.there in
      other_payload e;
  no_word = λ arts h. (let word = (claims arts _ h).vouched (node 1) _ refl (omega arith) in let e : None ≡ Some word.ack = word.kept in absurd cc);
  view_ahead = λ arts h. (let e : 2 ≤ 1 = ((claims arts _ h).view (node 2) (node 1) _ _ refl refl refl).1 in omega (arith, e));
  view_of_base_ahead = λ arts h. (let e : 1 ≤ 0 = ((claims arts _ h).view (node 2) (node 1) _ _ refl refl refl).0 in omega (arith, e));
  uncounted = λ arts h. (let e : false ≡ true = h.counted (node 2) _ refl 4 (no_flow (flow_from 3 1)) (let i : 4 < 6 = omega arith in i) refl in absurd cc);
}
