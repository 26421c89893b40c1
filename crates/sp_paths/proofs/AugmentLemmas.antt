-- A lane of a tree is turned round: what is known of all lanes stays true, and the way that is left is shorter.
use Rattle.std.proofs.Common.{◌≡◌, ◌+◌, ◌<◌, ◌≤◌, ℕ, zero, suc, Bool, true, false, cond, List, [], ◌∷◌, length, map, set, sum_by, refl, sym, ap, subst, ◌∙◌}
use Rattle.std.proofs.Common.{inl, inr, arith}
use Rattle.std.specs.Prelude.{◌⊎◌, ◌≢◌}
use Rattle.std.proofs.lemmas.Bool.{cases_eq}
use Rattle.std.proofs.lemmas.List.{length-set, get_or-set_same, get_or-set_other}
use Rattle.std.proofs.lemmas.List.Sums.{sum_by-set}
use Rattle.sp_paths.specs.declared.lane.Lane.{Lane}
use Rattle.sp_paths.specs.Flows.{Flow, Halfway, bare, begins, ends}
use Rattle.sp_paths.specs.Lanes.{FitAll, Fits, at, flipped, head, lane_at, no_lane, tail}
use Rattle.sp_paths.specs.Trees.{AreTight, IsTight, IsTree, Reaches}

-- a tight lane fits both ways round
fits_flipped : (p : ℕ → ℕ) (used : Bool) (from to cost : ℕ) → cost + p from ≡ p to → Fits p (record { from = from; to = to; cost = cost; used = used })
fits_flipped p true from to cost tight = omega (arith, tight)
fits_flipped p false from to cost tight = omega (arith, tight)

tight_fits : (p : ℕ → ℕ) (l : Lane) → IsTight p l → Fits p (flipped l)
tight_fits p l tight = fits_flipped p (flipped l).used l.from l.to l.cost tight

pub bare_set : (lanes : List Lane) (i : ℕ) → map bare (set lanes i (flipped (lane_at lanes i))) ≡ map bare lanes
bare_set [] i = refl
bare_set (l ∷ lanes) zero = refl
bare_set (l ∷ lanes) (suc i) = ap (λ (rest : List Lane). bare l ∷ rest) (bare_set lanes i)

-- one lane's part in the two sums, before and after it is turned round
turn : (c : ℕ → Bool) (used : Bool) (from to cost : ℕ)
    → begins c (flipped (record { from = from; to = to; cost = cost; used = used })) + ends c (record { from = from; to = to; cost = cost; used = used })
    + cond (c (cond used from to)) 1 0
    ≡ begins c (record { from = from; to = to; cost = cost; used = used }) + ends c (flipped (record { from = from; to = to; cost = cost; used = used }))
    + cond (c (cond used to from)) 1 0
turn c true from to cost = omega arith
turn c false from to cost = omega arith

pub flip_flow : (s t r here : ℕ) (lanes : List Lane) (i : ℕ) → i < length lanes → head (lane_at lanes i) ≡ here → Halfway s t r here lanes
    → Halfway s t r (tail (lane_at lanes i)) (set lanes i (flipped (lane_at lanes i)))
flip_flow s t r here lanes i inside at_here flow c =
    let l = lane_at lanes i in
    let out = sum_by-set (begins c) lanes i (flipped l) no_lane inside in
    let into = sum_by-set (ends c) lanes i (flipped l) no_lane inside in
    let one = turn c l.used l.from l.to l.cost in
    let old = flow c in
    let count : ℕ → ℕ = λ v. cond (c v) 1 0 in
    let there : count (head l) ≡ count here = ap count at_here in
    omega (arith, out, into, one, old, there)

pub first_half : (s t r : ℕ) (lanes : List Lane) → Flow s t r lanes → Halfway s t r t lanes
first_half s t r lanes flow c = go (c t) (flow c)
  where
    go : (b : Bool) → sum_by (begins c) lanes + cond b r 0 ≡ sum_by (ends c) lanes + cond (c s) r 0
        → sum_by (begins c) lanes + cond b (r + 1) 0 ≡ sum_by (ends c) lanes + cond (c s) r 0 + cond b 1 0
    go true e = omega (arith, e)
    go false e = omega (arith, e)

pub last_half : (s t r here : ℕ) (lanes : List Lane) → here ≡ s → Halfway s t r here lanes → Flow s t (r + 1) lanes
last_half s t r here lanes is flow c = go (c s) (ap c is) (flow c)
  where
    go : (b : Bool) → c here ≡ b → sum_by (begins c) lanes + cond (c t) (r + 1) 0 ≡ sum_by (ends c) lanes + cond b r 0 + cond (c here) 1 0
        → sum_by (begins c) lanes + cond (c t) (r + 1) 0 ≡ sum_by (ends c) lanes + cond b (r + 1) 0
    go true f e = let one : ◌≡◌ {A = ℕ} (cond (c here) 1 0) 1 = rw f refl in omega (arith, e, one)
    go false f e = let none : ◌≡◌ {A = ℕ} (cond (c here) 1 0) 0 = rw f refl in omega (arith, e, none)

-- what is known on the way back, at a part with k lanes of the tree still to be looked at
pub record Back (old : List Lane) (tree : List ℕ) (s t : ℕ) (here k : ℕ) (lanes : List Lane) : Type 0 where
  pub same : map bare lanes ≡ map bare old
  pub long : length lanes ≡ length old
  pub fits : (p : ℕ → ℕ) → AreTight p old tree → FitAll p old → FitAll p lanes
  pub place : (here ≡ s) ⊎ Reaches old tree k here
  pub kept : (j : ℕ) → j < k → lane_at lanes (at tree j) ≡ lane_at old (at tree j)
  pub flow : (r : ℕ) → Flow s t r old → Halfway s t r here lanes
  pub short : k ≤ length tree

pub back_begins : (old : List Lane) (tree : List ℕ) (s t : ℕ) → (t ≡ s) ⊎ Reaches old tree (length tree) t → Back old tree s t t (length tree) old
back_begins old tree s t place = record {
  same = refl;
  long = refl;
  fits = λ p tight fits. fits;
  place = place;
  kept = λ j less. refl;
  flow = λ r flow. first_half s t r old flow;
  short = omega arith;
}

module _ (old : List Lane) (tree : List ℕ) (s t here k : ℕ) (lanes : List Lane) (b : Back old tree s t here (suc k) lanes) (is_tree : IsTree s old tree) where
  inside : at tree k < length lanes
  inside = omega (arith, b.long, is_tree.inside k (omega (arith, b.short)))

  pub back_turned : head (lane_at lanes (at tree k)) ≡ here
      → Back old tree s t (tail (lane_at lanes (at tree k))) k (set lanes (at tree k) (flipped (lane_at lanes (at tree k))))
  back_turned at_here = record {
    same = bare_set lanes (at tree k) ∙ b.same;
    long = length-set lanes (at tree k) (flipped (lane_at lanes (at tree k))) ∙ b.long;
    fits = λ p tight fits j less. all_fit p tight fits j (omega (arith, less, length-set lanes (at tree k) (flipped (lane_at lanes (at tree k)))));
    place = subst (λ (l : Lane). (tail l ≡ s) ⊎ Reaches old tree k (tail l)) (sym (b.kept k (omega arith))) (is_tree.hangs k (omega (arith, b.short)));
    kept = λ j less. get_or-set_other lanes (at tree k) (at tree j) (flipped (lane_at lanes (at tree k))) no_lane
        (is_tree.once j k less (omega (arith, b.short))) ∙ b.kept j (omega (arith, less));
    flow = λ r flow. flip_flow s t r here lanes (at tree k) inside at_here (b.flow r flow);
    short = omega (arith, b.short);
  }
    where
      all_fit : (p : ℕ → ℕ) → AreTight p old tree → FitAll p old → (j : ℕ) → j < length lanes
          → Fits p (lane_at (set lanes (at tree k) (flipped (lane_at lanes (at tree k)))) j)
      all_fit p tight fits j less = go (cases_eq j (at tree k))
        where
          go : (j ≡ at tree k) ⊎ (j ≢ at tree k) → Fits p (lane_at (set lanes (at tree k) (flipped (lane_at lanes (at tree k)))) j)
          go (inl e) =
              let here_tight : IsTight p (lane_at lanes (at tree k)) = subst (IsTight p) (sym (b.kept k (omega arith))) (tight k (omega (arith, b.short))) in
              subst (λ (i : ℕ). Fits p (lane_at (set lanes (at tree k) (flipped (lane_at lanes (at tree k)))) i)) (sym e)
              (subst (Fits p) (sym (get_or-set_same lanes (at tree k) (flipped (lane_at lanes (at tree k))) no_lane inside))
              (tight_fits p (lane_at lanes (at tree k)) here_tight))
          go (inr apart) =
              subst (Fits p) (sym (get_or-set_other lanes (at tree k) j (flipped (lane_at lanes (at tree k))) no_lane apart)) (b.fits p tight fits j less)

  pub back_passed : head (lane_at lanes (at tree k)) ≢ here → Back old tree s t here k lanes
  back_passed elsewhere = record {
    same = b.same;
    long = b.long;
    fits = b.fits;
    place = nearer b.place;
    kept = λ j less. b.kept j (omega (arith, less));
    flow = b.flow;
    short = omega (arith, b.short);
  }
    where
      nearer : (here ≡ s) ⊎ Reaches old tree (suc k) here → (here ≡ s) ⊎ Reaches old tree k here
      nearer (inl e) = inl e
      nearer (inr (j, less, ends_here)) = go (cases_eq j k)
        where
          go : (j ≡ k) ⊎ (j ≢ k) → (here ≡ s) ⊎ Reaches old tree k here
          go (inl e) = absurd (elsewhere (ap head (b.kept k (omega arith)) ∙ ap (λ (i : ℕ). head (lane_at old (at tree i))) (sym e) ∙ ends_here))
          go (inr apart) = inr (j, omega (arith, less, apart), ends_here)

-- away from the source a lane of the tree is left
pub some_left : (old : List Lane) (tree : List ℕ) (s here k : ℕ) → (here ≡ s) ⊎ Reaches old tree k here → here ≢ s → 0 < k
some_left old tree s here k (inl e) apart = absurd (apart e)
some_left old tree s here k (inr r) apart = omega (arith, r.1)
