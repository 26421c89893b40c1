-- What a flow says of a set of parts: how much crosses a cut, and that nothing is used where no path goes.
use Rattle.std.proofs.Common.{◌≡◌, ◌+◌, ◌<◌, ◌≤◌, ℕ, zero, suc, Bool, true, false, not, cond, List, [], ◌∷◌, length, sum_by, refl, sym, ◌∙◌, arith}
use Rattle.std.specs.Prelude.{◌&&◌, nat_le}
use Rattle.std.proofs.lemmas.Bool.Decides.{nat_tests}
use Rattle.std.proofs.lemmas.List.Sums.{sum_by-cons}
use Rattle.sp_paths.specs.declared.lane.Lane.{Lane}
use Rattle.sp_paths.specs.Crossings.{leaves}
use Rattle.sp_paths.specs.Flows.{Flow, begins, ends}
use Rattle.sp_paths.specs.Lanes.{Closed, lane_at}

module _ (f h : Lane → ℕ) where
  sums_at_most : (lanes : List Lane) → ((k : ℕ) → k < length lanes → f (lane_at lanes k) ≤ h (lane_at lanes k)) → sum_by f lanes ≤ sum_by h lanes
  sums_at_most [] below = omega arith
  sums_at_most (l ∷ lanes) below =
      omega (arith, below 0 (omega arith), sums_at_most lanes (λ k inside. below (suc k) (omega (arith, inside))), sum_by-cons f l lanes, sum_by-cons h l lanes)

  sums_equal : (lanes : List Lane) → ((k : ℕ) → k < length lanes → f (lane_at lanes k) ≡ h (lane_at lanes k)) → sum_by f lanes ≡ sum_by h lanes
  sums_equal [] same = refl
  sums_equal (l ∷ lanes) same =
      omega (arith, same 0 (omega arith), sums_equal lanes (λ k inside. same (suc k) (omega (arith, inside))), sum_by-cons f l lanes, sum_by-cons h l lanes)

  -- where the sums are equal, and no term of the one is above that of the other, all terms are equal
  terms_equal : (lanes : List Lane) → ((k : ℕ) → k < length lanes → f (lane_at lanes k) ≤ h (lane_at lanes k)) → sum_by h lanes ≤ sum_by f lanes → (k : ℕ)
      → k < length lanes → f (lane_at lanes k) ≡ h (lane_at lanes k)
  terms_equal [] below sums k inside = absurd (omega (arith, inside))
  terms_equal (l ∷ lanes) below sums zero inside =
      omega (
        arith,
        below 0 (omega arith),
        sums_at_most lanes (λ k less. below (suc k) (omega (arith, less))),
        sums,
        sum_by-cons f l lanes,
        sum_by-cons h l lanes,
      )
  terms_equal (l ∷ lanes) below sums (suc k) inside =
      terms_equal lanes (λ j less. below (suc j) (omega (arith, less)))
      (omega (arith, below 0 (omega arith), sums, sum_by-cons f l lanes, sum_by-cons h l lanes)) k (omega (arith, inside))

sum_of_both : (f h : Lane → ℕ) (lanes : List Lane) → sum_by (λ l. f l + h l) lanes ≡ sum_by f lanes + sum_by h lanes
sum_of_both f h [] = refl
sum_of_both f h (l ∷ lanes) = omega (arith, sum_of_both f h lanes, sum_by-cons (λ x. f x + h x) l lanes, sum_by-cons f l lanes, sum_by-cons h l lanes)

-- ---- cuts

crosses : (used a b : Bool) → cond used (cond a 1 0) 0 ≤ cond (a && not b) 1 0 + cond used (cond b 1 0) 0
crosses true true true = omega arith
crosses true true false = omega arith
crosses true false true = omega arith
crosses true false false = omega arith
crosses false true true = omega arith
crosses false true false = omega arith
crosses false false b = omega arith

crosses_closed : (used a b : Bool) → (cond used b a ≡ true → cond used a b ≡ true)
    → ◌≡◌ {A = ℕ} (cond used (cond a 1 0) 0) (cond (a && not b) 1 0 + cond used (cond b 1 0) 0)
crosses_closed true true true closed = refl
crosses_closed true true false closed = refl
crosses_closed true false true closed = absurd (let x : false ≡ true = closed refl in cc)
crosses_closed true false false closed = refl
crosses_closed false true true closed = refl
crosses_closed false true false closed = absurd (let x : false ≡ true = closed refl in cc)
crosses_closed false false b closed = refl

closed_crosses : (used a b : Bool) → ◌≡◌ {A = ℕ} (cond used (cond a 1 0) 0) (cond (a && not b) 1 0 + cond used (cond b 1 0) 0) → cond used b a ≡ true
    → cond used a b ≡ true
closed_crosses true true b e f = refl
closed_crosses true false true e f = absurd (omega (arith, e))
closed_crosses true false false e f = f
closed_crosses false true true e f = refl
closed_crosses false true false e f = absurd (omega (arith, e))
closed_crosses false false b e f = absurd cc

-- the two ends of a lane's residual arc in the set
at_ends : (c : ℕ → Bool) (used : Bool) (from to : ℕ) → (c (cond used from to) ≡ cond used (c from) (c to)) × (c (cond used to from) ≡ cond used (c to) (c from))
at_ends c true from to = (refl, refl)
at_ends c false from to = (refl, refl)

module _ (s t r : ℕ) (lanes : List Lane) (c : ℕ → Bool) (flow : Flow s t r lanes) (source : c s ≡ true) (destination : c t ≡ false) where
  counted : sum_by (begins c) lanes ≡ sum_by (ends c) lanes + r
  counted =
      let all = flow c in
      let one : ◌≡◌ {A = ℕ} (cond (c t) r 0) 0 = rw destination refl in
      let two : ◌≡◌ {A = ℕ} (cond (c s) r 0) r = rw source refl in
      omega (arith, all, one, two)

  -- no cut is smaller than the flow
  pub open_size : r ≤ sum_by (leaves c) lanes
  open_size =
      let most = sums_at_most (begins c) (λ l. leaves c l + ends c l) lanes
      (λ k inside. crosses (lane_at lanes k).used (c (lane_at lanes k).from) (c (lane_at lanes k).to)) in
      omega (arith, most, counted, sum_of_both (leaves c) (ends c) lanes)

  -- a cut that no residual arc leaves has the size of the flow
  pub closed_size : ((k : ℕ) → k < length lanes → Closed c (lane_at lanes k)) → sum_by (leaves c) lanes ≡ r
  closed_size closed =
      let same = sums_equal (begins c) (λ l. leaves c l + ends c l) lanes (λ k inside.
      let l = lane_at lanes k in
      let both = at_ends c l.used l.from l.to in
      crosses_closed l.used (c l.from) (c l.to) (λ e. sym both.0 ∙ closed k inside (both.1 ∙ e))) in
      omega (arith, same, counted, sum_of_both (leaves c) (ends c) lanes)

  -- a cut of no more than the flow's size is one that no residual arc leaves
  pub least_cut : sum_by (leaves c) lanes ≤ r → (k : ℕ) → k < length lanes → Closed c (lane_at lanes k)
  least_cut small k inside e =
      let same = terms_equal (begins c) (λ l. leaves c l + ends c l) lanes
      (λ j less. crosses (lane_at lanes j).used (c (lane_at lanes j).from) (c (lane_at lanes j).to))
      (omega (arith, small, counted, sum_of_both (leaves c) (ends c) lanes)) k inside in
      let l = lane_at lanes k in
      let both = at_ends c l.used l.from l.to in
      both.0 ∙ closed_crosses l.used (c l.from) (c l.to) same (sym both.1 ∙ e)

-- ---- nothing left over

rises_in : (used a b : Bool) → (used ≡ true → a ≡ true → b ≡ true) → cond used (cond a 1 0) 0 ≤ cond used (cond b 1 0) 0
rises_in true true true up = omega arith
rises_in true true false up = absurd (let x : false ≡ true = up refl refl in cc)
rises_in true false true up = omega arith
rises_in true false false up = omega arith
rises_in false a b up = omega arith

-- where a rank rises along each used lane, and no path goes along them, none is used: those that end at a rank of at least m would be more than those that
-- begin there
pub none_left : (s t : ℕ) (lanes : List Lane) (rank : ℕ → ℕ)
    → ((k : ℕ) → k < length lanes → (lane_at lanes k).used ≡ true → rank (lane_at lanes k).from < rank (lane_at lanes k).to) → Flow s t 0 lanes
    → (k : ℕ) → k < length lanes → (lane_at lanes k).used ≡ false
none_left s t lanes rank up flow k inside = go (lane_at lanes k).used refl
  where
    go : (b : Bool) → (lane_at lanes k).used ≡ b → (lane_at lanes k).used ≡ false
    go false e = e
    go true e =
        let c : ℕ → Bool = λ v. nat_le (rank (lane_at lanes k).to) (rank v) in
        let ends_high : nat_le (rank (lane_at lanes k).to) (rank (lane_at lanes k).to) ≡ true = grind (arith, nat_tests) in
        let begins_low : nat_le (rank (lane_at lanes k).to) (rank (lane_at lanes k).from) ≡ false = let less = up k inside e in grind (arith, nat_tests) in
        let none : (a : Bool) → ◌≡◌ {A = ℕ} (cond a 0 0) 0 = zeros in
        let equal = terms_equal (begins c) (ends c) lanes
        (λ j less. rises_in (lane_at lanes j).used (c (lane_at lanes j).from) (c (lane_at lanes j).to)
        (λ used at_from. let above = up j less used in grind (arith, nat_tests)))
        (omega (arith, flow c, none (c s), none (c t))) k inside in
        absurd (let one : ◌≡◌ {A = ℕ} 0 1 = rw (e, begins_low, ends_high) at equal in omega (arith, one))
      where
        zeros : (a : Bool) → ◌≡◌ {A = ℕ} (cond a 0 0) 0
        zeros true = refl
        zeros false = refl
