-- A walk goes on while it isn't at its end, and takes a lane at each step.
use Rattle.std.proofs.Common.{◌≡◌, ◌+◌, ◌<◌, ℕ, suc, Bool, true, false, cond, List, [], ◌∷◌, ◌++◌, length, set, sum_by, count_by, refl, sym, ap, subst, ◌∙◌}
use Rattle.std.proofs.Common.{inl, inr, arith}
use Rattle.std.specs.Prelude.{◌⊎◌, ◌≢◌, ◌==◌, Option, Some, None, IsSome, slice_index_or}
use Rattle.std.specs.List.{Contains}
use Rattle.std.proofs.lemmas.Bool.{eqb-true}
use Rattle.std.proofs.lemmas.Bool.Decides.{nat_tests}
use Rattle.std.proofs.lemmas.List.{length-set, get_or_default, get_or-set_same, get_or-set_other}
use Rattle.std.proofs.lemmas.List.Elements.{Contains-push, Contains-push_cases, Contains-append_left}
use Rattle.std.proofs.lemmas.List.Quantifiers.{all_pairs_push}
use Rattle.std.proofs.lemmas.List.Sums.{sum_by-cons, sum_by-set}
use Rattle.sp_paths.specs.declared.lane.Lane.{Lane}
use Rattle.sp_paths.specs.Flows.{Flow, Halfway, begins, ends}
use Rattle.sp_paths.specs.Lanes.{flipped, head, lane_at, no_lane, tail}
use Rattle.sp_paths.specs.Taken.{IsFirst, IsLowest, Leads, Taken, first_of}
use Rattle.sp_paths.proofs.AugmentLemmas.{flip_flow}

-- ---- going on

-- where no lane begins, nothing does
none_begin : (lanes : List Lane) (here : ℕ) → ((k : ℕ) → k < length lanes → (lane_at lanes k).used ≡ true → (lane_at lanes k).from ≢ here)
    → sum_by (begins (λ v. v == here)) lanes ≡ 0
none_begin [] here none = refl
none_begin (l ∷ lanes) here none =
    omega (
      arith,
      sum_by-cons (begins (λ v. v == here)) l lanes,
      none_begin lanes here (λ k inside. none (suc k) (omega (arith, inside))),
      one l.used refl (l.from == here) refl,
    )
  where
    one : (used : Bool) → l.used ≡ used → (at : Bool) → (l.from == here) ≡ at → ◌≡◌ {A = ℕ} (cond l.used (cond (l.from == here) 1 0) 0) 0
    one false e at f = rw e refl
    one true e false f = rw (e, f) refl
    one true e true f = absurd (none 0 (omega arith) e (eqb-true _ _ f))

is_itself : (n : ℕ) → (n == n) ≡ true
is_itself n = grind (arith, nat_tests)

is_other : (n m : ℕ) → n ≢ m → (n == m) ≡ false
is_other n m apart = go (n == m) refl
  where
    go : (b : Bool) → (n == m) ≡ b → (n == m) ≡ false
    go true e = absurd (apart (eqb-true _ _ e))
    go false e = e

-- a lane goes on from anywhere but the end
pub goes_on : (s t r here : ℕ) (lanes : List Lane) (found : Option ℕ) → Halfway s t r here lanes → here ≢ t → IsFirst lanes here found → IsSome found
goes_on s t r here lanes (Some i) flow apart first = refl
goes_on s t r here lanes None flow apart first =
    let there : (t == here) ≡ false = is_other t here (λ e. apart (sym e)) in
    let same : (here == here) ≡ true = is_itself here in
    let none = none_begin lanes here first in
    let all = flow (λ v. v == here) in
    let one : ◌≡◌ {A = ℕ} (cond (t == here) (r + 1) 0) 0 = rw there refl in
    let two : ◌≡◌ {A = ℕ} (cond (here == here) 1 0) 1 = rw same refl in
    absurd (omega (arith, none, all, one, two))

-- ---- a step

leads_push : (lanes : List Lane) (start here : ℕ) (walk : List ℕ) (i : ℕ) → Leads lanes start walk here → (lane_at lanes i).from ≡ here
    → Leads lanes start (walk ++ i ∷ []) (lane_at lanes i).to
leads_push lanes start here [] i leads begins_here = (begins_here ∙ sym leads, refl)
leads_push lanes start here (j ∷ walk) i leads begins_here = (leads.0, leads_push lanes (lane_at lanes j).to here walk i leads.1 begins_here)

start_half : (s t r : ℕ) (lanes : List Lane) → Flow s t (r + 1) lanes → Halfway s t r s lanes
start_half s t r lanes flow c = go (c s) (flow c)
  where
    go : (b : Bool) → sum_by (begins c) lanes + cond (c t) (r + 1) 0 ≡ sum_by (ends c) lanes + cond b (r + 1) 0
        → sum_by (begins c) lanes + cond (c t) (r + 1) 0 ≡ sum_by (ends c) lanes + cond b r 0 + cond b 1 0
    go true e = omega (arith, e)
    go false e = omega (arith, e)

end_half : (s t r here : ℕ) (lanes : List Lane) → here ≡ t → Halfway s t r here lanes → Flow s t r lanes
end_half s t r here lanes is flow c = go (c t) (ap c is) (flow c)
  where
    go : (b : Bool) → c here ≡ b → sum_by (begins c) lanes + cond b (r + 1) 0 ≡ sum_by (ends c) lanes + cond (c s) r 0 + cond (c here) 1 0
        → sum_by (begins c) lanes + cond b r 0 ≡ sum_by (ends c) lanes + cond (c s) r 0
    go true f e = let one : ◌≡◌ {A = ℕ} (cond (c here) 1 0) 1 = rw f refl in omega (arith, e, one)
    go false f e = let none : ◌≡◌ {A = ℕ} (cond (c here) 1 0) 0 = rw f refl in omega (arith, e, none)

-- what is known on the way
pub record Walking (old : List Lane) (s t here : ℕ) (lanes : List Lane) (walk : List ℕ) : Type 0 where
  pub flow : (r : ℕ) → Flow s t (r + 1) old → Halfway s t r here lanes
  pub leads : Leads old s walk here
  pub taken : Taken old lanes walk
  pub first : IsLowest old s (first_of walk)

nothing_in : {X : Type 0} (x : X) → Contains [] x → ⊥
nothing_in x h = omega (arith, h.1)

pub walk_begins : (old : List Lane) (s t : ℕ) → Walking old s t s old []
walk_begins old s t = record {
  flow = λ r flow. start_half s t r old flow;
  leads = refl;
  taken = record {
    long = refl;
    inside = λ i h. absurd (nothing_in i h);
    used = λ i h. absurd (nothing_in i h);
    free = λ i h. absurd (nothing_in i h);
    others = λ i h. refl;
    once = λ i j d less inside. absurd (omega (arith, inside));
  };
  first = λ k less. absurd (omega (arith, less));
}

pub walk_ends : (old : List Lane) (s t here : ℕ) (lanes : List Lane) (walk : List ℕ) → Walking old s t here lanes walk → here ≡ t → (r : ℕ)
    → Flow s t (r + 1) old → Flow s t r lanes
walk_ends old s t here lanes walk w is r flow = end_half s t r here lanes is (w.flow r flow)

pub leads_home : (old : List Lane) (s t here : ℕ) (walk : List ℕ) → Leads old s walk here → here ≡ t → Leads old s walk t
leads_home old s t here walk leads is = subst (Leads old s walk) is leads

module _ (old : List Lane) (s t here : ℕ) (lanes : List Lane) (walk : List ℕ) (w : Walking old s t here lanes walk) (i : ℕ)
    (inside : i < length lanes) (used : (lane_at lanes i).used ≡ true) (from : (lane_at lanes i).from ≡ here) (lowest : IsLowest lanes here i) where
  fresh : Contains walk i → ⊥
  fresh h =
      let free : (lane_at lanes i).used ≡ (flipped (lane_at old i)).used = ap (λ (l : Lane). l.used) (w.taken.free i h) in
      let not_used : (flipped (lane_at old i)).used ≡ false = rw (w.taken.used i h) refl in
      let x : true ≡ false = sym used ∙ free ∙ not_used in absurd cc

  as_old : lane_at lanes i ≡ lane_at old i
  as_old = w.taken.others i fresh

  turned_at : lane_at (set lanes i (flipped (lane_at lanes i))) i ≡ flipped (lane_at old i)
  turned_at = get_or-set_same lanes i (flipped (lane_at lanes i)) no_lane inside ∙ ap flipped as_old

  elsewhere : (j : ℕ) → j ≢ i → lane_at (set lanes i (flipped (lane_at lanes i))) j ≡ lane_at lanes j
  elsewhere j apart = get_or-set_other lanes i j (flipped (lane_at lanes i)) no_lane apart

  begins_here : head (lane_at lanes i) ≡ here
  begins_here = rw used from

  ends_there : tail (lane_at lanes i) ≡ (lane_at lanes i).to
  ends_there = rw used refl

  -- what holds of each place taken holds of each with this one
  each_place : (P : ℕ → Type 0) → ((j : ℕ) → Contains walk j → P j) → P i → (j : ℕ) → Contains (walk ++ i ∷ []) j → P j
  each_place P olds this j h = go (Contains-push_cases walk i j h)
    where
      go : Contains walk j ⊎ (i ≡ j) → P j
      go (inl k) = olds j k
      go (inr e) = subst P e this

  pub walk_goes_on : Walking old s t (lane_at lanes i).to (set lanes i (flipped (lane_at lanes i))) (walk ++ i ∷ [])
  walk_goes_on = record {
    flow = λ r flow. subst (λ (v : ℕ). Halfway s t r v (set lanes i (flipped (lane_at lanes i)))) ends_there
        (flip_flow s t r here lanes i inside begins_here (w.flow r flow));
    leads = subst (λ (l : Lane). Leads old s (walk ++ i ∷ []) l.to) (sym as_old)
        (leads_push old s here walk i w.leads (ap (λ (l : Lane). l.from) (sym as_old) ∙ from));
    taken = record {
      long = length-set lanes i (flipped (lane_at lanes i)) ∙ w.taken.long;
      inside = each_place (λ j. j < length old) w.taken.inside (omega (arith, inside, w.taken.long));
      used = each_place (λ j. (lane_at old j).used ≡ true) w.taken.used (ap (λ (l : Lane). l.used) (sym as_old) ∙ used);
      free = each_place (λ j. lane_at (set lanes i (flipped (lane_at lanes i))) j ≡ flipped (lane_at old j))
          (λ j h. elsewhere j (λ e. fresh (subst (Contains walk) e h)) ∙ w.taken.free j h) turned_at;
      others = λ j out. elsewhere j (λ e. out (subst (Contains (walk ++ i ∷ [])) (sym e) (Contains-push walk i)))
          ∙ w.taken.others j (λ h. out (Contains-append_left walk (i ∷ []) j h));
      once = all_pairs_push (λ j k. j ≢ k) walk i w.taken.once (λ k d less e. fresh (k, less, get_or_as walk k d i less e));
    };
    first = still_first walk w.leads w.taken w.first;
  }
    where
      still_first : (ws : List ℕ) → Leads old s ws here → Taken old lanes ws → IsLowest old s (first_of ws) → IsLowest old s (first_of (ws ++ i ∷ []))
      still_first (j ∷ ws) leads taken first = first
      still_first [] leads taken first = λ k less is_used begins.
          let same : lane_at lanes k ≡ lane_at old k = taken.others k (nothing_in k) in
          lowest k less (ap (λ (l : Lane). l.used) same ∙ is_used) (ap (λ (l : Lane). l.from) same ∙ begins ∙ leads)

      get_or_as : (xs : List ℕ) (k d x : ℕ) → k < length xs → slice_index_or xs k d ≡ x → slice_index_or xs k x ≡ x
      get_or_as xs k d x less e = sym (get_or_default xs k d x less) ∙ e

  pub fewer_used : count_by (λ l. l.used) (set lanes i (flipped (lane_at lanes i))) < count_by (λ l. l.used) lanes
  fewer_used =
      let all = sum_by-set (λ l. cond l.used 1 0) lanes i (flipped (lane_at lanes i)) no_lane inside in
      let one : ◌≡◌ {A = ℕ} (cond (lane_at lanes i).used 1 0) 1 = rw used refl in
      let none : ◌≡◌ {A = ℕ} (cond (flipped (lane_at lanes i)).used 1 0) 0 = rw used refl in
      omega (arith, all, one, none)
