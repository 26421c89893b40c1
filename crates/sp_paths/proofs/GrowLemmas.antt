-- One part more is reached: what is known of all that is reached stays true.
use Rattle.std.proofs.Common.{◌≡◌, ◌+◌, ◌*◌, ◌<◌, ◌≤◌, ℕ, Bool, true, false, not, cond, List, [], ◌∷◌, ◌++◌, length, set, count_by, refl, sym, ap, subst, ◌∙◌}
use Rattle.std.proofs.Common.{inl, inr, arith}
use Rattle.std.specs.Prelude.{◌⊎◌, ◌≢◌}
use Rattle.std.proofs.lemmas.Bool.{cases_eq}
use Rattle.std.proofs.lemmas.List.{length_push, length-set, get_or_append_left, get_or_push, get_or-set_same, get_or-set_other}
use Rattle.std.proofs.lemmas.List.Sums.{sum_by-set}
use Rattle.sp_base.specs.declared.limits.TheConstants.{MAX_WEIGHT}
use Rattle.sp_paths.specs.declared.lane.Lane.{Lane}
use Rattle.sp_paths.specs.Bounds.{most_gap, most_parts}
use Rattle.sp_paths.specs.Lanes.{AreWithin, Closed, FitAll, IsWithin, Nearest, at, head, is_in, lane_at, raised, tail}
use Rattle.sp_paths.specs.Trees.{Grown, IsTight, IsTree, Reaches}
use Rattle.sp_paths.proofs.Raised.{at_most, end_low, now_tight, raise_fits, slack_low, stays, still_tight}

-- what holds of each place of a tree holds of each place of the tree with one more
each_more : (tree : List ℕ) (place : ℕ) (P : ℕ → ℕ → Type 0) → ((j : ℕ) → j < length tree → P j (at tree j)) → P (length tree) place
    → (j : ℕ) → j < length (tree ++ place ∷ []) → P j (at (tree ++ place ∷ []) j)
each_more tree place P old new j inside = go (cases_eq j (length tree))
  where
    long : length (tree ++ place ∷ []) ≡ length tree + 1
    long = length_push tree place

    go : (j ≡ length tree) ⊎ (j ≢ length tree) → P j (at (tree ++ place ∷ []) j)
    go (inl e) = subst (λ (i : ℕ). P i (at (tree ++ place ∷ []) i)) (sym e) (subst (P (length tree)) (sym (get_or_push tree place 0 (length tree) refl)) new)
    go (inr apart) =
        let before : j < length tree = omega (arith, long, inside, apart) in
        subst (P j) (sym (get_or_append_left tree (place ∷ []) 0 j before)) (old j before)

reaches_more : (lanes : List Lane) (tree : List ℕ) (place n v : ℕ) → n ≤ length tree → Reaches lanes tree n v → Reaches lanes (tree ++ place ∷ []) n v
reaches_more lanes tree place n v few (j, less, ends) =
    (j, less, subst (λ (i : ℕ). head (lane_at lanes i) ≡ v) (sym (get_or_append_left tree (place ∷ []) 0 j (omega (arith, few, less)))) ends)

either_within : (parts from to : ℕ) (used : Bool) → from < parts → to < parts → (cond used to from < parts) × (cond used from to < parts)
either_within parts from to true a b = (b, a)
either_within parts from to false a b = (a, b)

pub ends_within : (parts : ℕ) (l : Lane) → IsWithin parts l → (tail l < parts) × (head l < parts)
ends_within parts l w = either_within parts l.from l.to l.used w.0 w.1

module _ (reached : List Bool) (h : ℕ) (inside : h < length reached) where
  mark_there : is_in (set reached h true) h ≡ true
  mark_there = get_or-set_same reached h true true inside

  mark_kept : (v : ℕ) → is_in reached v ≡ true → is_in (set reached h true) v ≡ true
  mark_kept v e = go (cases_eq v h)
    where
      go : (v ≡ h) ⊎ (v ≢ h) → is_in (set reached h true) v ≡ true
      go (inl same) = ap (is_in (set reached h true)) same ∙ mark_there
      go (inr apart) = get_or-set_other reached h v true true apart ∙ e

  mark_cases : (v : ℕ) → is_in (set reached h true) v ≡ true → (v ≡ h) ⊎ (is_in reached v ≡ true)
  mark_cases v e = go (cases_eq v h)
    where
      go : (v ≡ h) ⊎ (v ≢ h) → (v ≡ h) ⊎ (is_in reached v ≡ true)
      go (inl same) = inl same
      go (inr apart) = inr (sym (get_or-set_other reached h v true true apart) ∙ e)

  mark_counts : is_in reached h ≡ false → count_by not (set reached h true) + 1 ≡ count_by not reached
  mark_counts out =
      let all = sum_by-set (λ x. cond (not x) 1 0) reached h true true inside in
      let one : ◌≡◌ {A = ℕ} (cond (not (is_in reached h)) 1 0) 1 = rw out refl in
      omega (arith, all, one)

module _ (first : List ℕ) (s : ℕ) (lanes : List Lane) (pot more : List ℕ) (reached : List Bool) (tree : List ℕ) (place gap : ℕ)
    (g : Grown first s lanes pot reached tree) (n : Nearest (at pot) (is_in reached) lanes (length lanes) place gap)
    (within : AreWithin (length pot) lanes) (weights : (k : ℕ) → k < length lanes → (lane_at lanes k).cost ≤ MAX_WEIGHT) (few : length pot ≤ most_parts)
    (same : length more ≡ length pot) (up : (v : ℕ) → at more v ≡ raised (is_in reached) gap (at pot) v) where
  new_fits : FitAll (at more) lanes
  new_fits k inside = raise_fits (is_in reached) gap (at pot) (at more) up (lane_at lanes k) (g.fits k inside) (n.least k inside)

  ends : (tail (lane_at lanes place) < length pot) × (head (lane_at lanes place) < length pot)
  ends = ends_within (length pot) (lane_at lanes place) (within place n.inside)

  end_inside : head (lane_at lanes place) < length reached
  end_inside = omega (arith, ends.1, g.parts, g.marks)

  kept : (v : ℕ) → is_in reached v ≡ true → is_in (set reached (head (lane_at lanes place)) true) v ≡ true
  kept = mark_kept reached (head (lane_at lanes place)) end_inside

  cases : (v : ℕ) → is_in (set reached (head (lane_at lanes place)) true) v ≡ true → (v ≡ head (lane_at lanes place)) ⊎ (is_in reached v ≡ true)
  cases = mark_cases reached (head (lane_at lanes place)) end_inside

  new_reached : is_in (set reached (head (lane_at lanes place)) true) (head (lane_at lanes place)) ≡ true
  new_reached = mark_there reached (head (lane_at lanes place)) end_inside

  end_is_new : (v : ℕ) → v ≡ head (lane_at lanes place) → is_in reached v ≡ true → ⊥
  end_is_new v e inside = let x : true ≡ false = sym inside ∙ ap (is_in reached) e ∙ n.leads_out.1 in absurd cc

  hangs_new : (tail (lane_at lanes place) ≡ s) ⊎ Reaches lanes tree (length tree) (tail (lane_at lanes place))
  hangs_new = g.outs (tail (lane_at lanes place)) (omega (arith, ends.0, g.parts)) n.leads_out.0

  hangs_more : (k j : ℕ) → k ≤ length tree → (tail (lane_at lanes j) ≡ s) ⊎ Reaches lanes tree k (tail (lane_at lanes j))
      → (tail (lane_at lanes j) ≡ s) ⊎ Reaches lanes (tree ++ place ∷ []) k (tail (lane_at lanes j))
  hangs_more k j few_enough (inl e) = inl e
  hangs_more k j few_enough (inr r) = inr (reaches_more lanes tree place k (tail (lane_at lanes j)) few_enough r)

  new_place : (i : ℕ) → i < length tree → at tree i ≢ place
  new_place i inside e = end_is_new (head (lane_at lanes (at tree i))) (ap (λ (k : ℕ). head (lane_at lanes k)) e) (g.heads i inside)

  new_tree : IsTree s lanes (tree ++ place ∷ [])
  new_tree = record {
    inside = each_more tree place (λ j i. i < length lanes) g.is_tree.inside n.inside;
    hangs = each_more tree place (λ j i. (tail (lane_at lanes i) ≡ s) ⊎ Reaches lanes (tree ++ place ∷ []) j (tail (lane_at lanes i)))
        (λ j inside. hangs_more j (at tree j) (omega (arith, inside)) (g.is_tree.hangs j inside))
        (hangs_more (length tree) place (omega arith) hangs_new);
    once = λ i j less inside. each_more tree place (λ k y. i < k → at (tree ++ place ∷ []) i ≢ y)
        (λ k within_it before e. g.is_tree.once i k before within_it (sym (get_or_append_left tree (place ∷ []) 0 i (omega (arith, before, within_it))) ∙ e))
        (λ before e. new_place i before (sym (get_or_append_left tree (place ∷ []) 0 i before) ∙ e))
        j inside less;
  }

  new_outs : (v : ℕ) → v < length first → is_in (set reached (head (lane_at lanes place)) true) v ≡ true
      → (v ≡ s) ⊎ Reaches lanes (tree ++ place ∷ []) (length (tree ++ place ∷ [])) v
  new_outs v inside e = go (cases v e)
    where
      long : length (tree ++ place ∷ []) ≡ length tree + 1
      long = length_push tree place

      old : (v ≡ s) ⊎ Reaches lanes tree (length tree) v → (v ≡ s) ⊎ Reaches lanes (tree ++ place ∷ []) (length (tree ++ place ∷ [])) v
      old (inl f) = inl f
      old (inr r) = let m = reaches_more lanes tree place (length tree) v (omega arith) r in inr (m.0, omega (arith, long, m.1), m.2)

      go : (v ≡ head (lane_at lanes place)) ⊎ (is_in reached v ≡ true) → (v ≡ s) ⊎ Reaches lanes (tree ++ place ∷ []) (length (tree ++ place ∷ [])) v
      go (inl f) = inr (length tree, omega (arith, long), ap (λ (i : ℕ). head (lane_at lanes i)) (get_or_push tree place 0 (length tree) refl) ∙ sym f)
      go (inr f) = old (g.outs v inside f)

  new_set : (c : ℕ → Bool) → c s ≡ true → ((k : ℕ) → k < length lanes → Closed c (lane_at lanes k)) → (v : ℕ) → v < length first
      → is_in (set reached (head (lane_at lanes place)) true) v ≡ true → c v ≡ true
  new_set c source closed v inside e = go (cases v e)
    where
      begins : c (tail (lane_at lanes place)) ≡ true
      begins = g.least_set c source closed (tail (lane_at lanes place)) (omega (arith, ends.0, g.parts)) n.leads_out.0

      go : (v ≡ head (lane_at lanes place)) ⊎ (is_in reached v ≡ true) → c v ≡ true
      go (inl f) = ap c f ∙ closed place n.inside begins
      go (inr f) = g.least_set c source closed v inside f

  tail_low : at pot (tail (lane_at lanes place)) ≤ length tree * MAX_WEIGHT
  tail_low = g.low (tail (lane_at lanes place)) (omega (arith, ends.0, g.parts)) n.leads_out.0

  new_low : (v : ℕ) → v < length first → is_in (set reached (head (lane_at lanes place)) true) v ≡ true → at more v ≤ length (tree ++ place ∷ []) * MAX_WEIGHT
  new_low v inside e = go (cases v e)
    where
      long : length (tree ++ place ∷ []) ≡ length tree + 1
      long = length_push tree place

      go : (v ≡ head (lane_at lanes place)) ⊎ (is_in reached v ≡ true) → at more v ≤ length (tree ++ place ∷ []) * MAX_WEIGHT
      go (inl f) =
          let there : at more v ≡ at more (head (lane_at lanes place)) = ap (at more) f in
          let end = end_low (is_in reached) gap (at pot) (at more) up (lane_at lanes place) (g.fits place n.inside) n.leads_out n.is in
          omega (arith, long, there, end, tail_low, weights place n.inside)
      go (inr f) = omega (arith, long, stays (is_in reached) gap (at pot) (at more) up v f, g.low v inside f)

  new_high : (bound : ℕ) → ((v : ℕ) → at first v ≤ bound) → (v : ℕ) → at more v ≤ bound + length (tree ++ place ∷ []) * most_gap
  new_high bound all v =
      let long = length_push tree place in
      let old = g.high bound all v in
      let step = at_most (is_in reached) gap (at pot) (at more) up v in
      let small = slack_low (at pot) (lane_at lanes place) in
      omega (arith, long, old, step, small, n.is, tail_low, weights place n.inside, g.few, g.marks, g.parts, few)

  pub grow_more : Grown first s lanes more (set reached (head (lane_at lanes place)) true) (tree ++ place ∷ [])
  grow_more = record {
    parts = same ∙ g.parts;
    marks = length-set reached (head (lane_at lanes place)) true ∙ g.marks;
    fits = new_fits;
    source = kept s g.source;
    zero_there = stays (is_in reached) gap (at pot) (at more) up s g.source ∙ g.zero_there;
    is_tree = new_tree;
    tight = each_more tree place (λ j i. IsTight (at more) (lane_at lanes i))
        (λ j inside. still_tight (is_in reached) gap (at pot) (at more) up (lane_at lanes (at tree j)) (g.tight j inside) (g.tails j inside) (g.heads j inside))
        (now_tight (is_in reached) gap (at pot) (at more) up (lane_at lanes place) (g.fits place n.inside) n.leads_out n.is);
    tails = each_more tree place (λ j i. is_in (set reached (head (lane_at lanes place)) true) (tail (lane_at lanes i)) ≡ true)
        (λ j inside. kept (tail (lane_at lanes (at tree j))) (g.tails j inside)) (kept (tail (lane_at lanes place)) n.leads_out.0);
    heads = each_more tree place (λ j i. is_in (set reached (head (lane_at lanes place)) true) (head (lane_at lanes i)) ≡ true)
        (λ j inside. kept (head (lane_at lanes (at tree j))) (g.heads j inside)) new_reached;
    outs = new_outs;
    least_set = new_set;
    low = new_low;
    high = new_high;
    few = let long = length_push tree place in
        let marks = length-set reached (head (lane_at lanes place)) true in
        let one = mark_counts reached (head (lane_at lanes place)) end_inside n.leads_out.1 in
        omega (arith, long, marks, one, g.few);
  }
