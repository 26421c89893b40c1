-- Raising what isn't reached keeps reduced costs at 0 or more, and makes the nearest residual arc tight.
use Rattle.std.proofs.Common.{◌≡◌, ◌+◌, ◌≤◌, ℕ, Bool, true, false, refl, ◌∙◌, arith}
use Rattle.sp_paths.specs.declared.lane.Lane.{Lane}
use Rattle.sp_paths.specs.Lanes.{Fits, LeadsOut, head, raised, slack, tail}
use Rattle.sp_paths.specs.Trees.{IsTight}

-- a lane by its fields, so that a proof goes by cases on its mark
abbrev lane : Bool → ℕ → ℕ → ℕ → Lane
lane used from to cost = record { from = from; to = to; cost = cost; used = used }

module _ (c : ℕ → Bool) (gap : ℕ) (p q : ℕ → ℕ) (is : (v : ℕ) → q v ≡ raised c gap p v) where
  pub stays : (v : ℕ) → c v ≡ true → q v ≡ p v
  stays v inside = is v ∙ rw inside refl

  pub rises : (v : ℕ) → c v ≡ false → q v ≡ p v + gap
  rises v outside = is v ∙ rw outside refl

  pub at_most : (v : ℕ) → q v ≤ p v + gap
  at_most v = go (c v) refl
    where
      go : (b : Bool) → c v ≡ b → q v ≤ p v + gap
      go true e = omega (arith, stays v e)
      go false e = omega (arith, rises v e)

  raise_fits_at : (used : Bool) (from to cost : ℕ) → Fits p (lane used from to cost)
      → (LeadsOut c (lane used from to cost) → gap ≤ slack p (lane used from to cost)) → Fits q (lane used from to cost)
  raise_fits_at true from to cost fits room = go (c from) refl (c to) refl
    where
      go : (a : Bool) → c from ≡ a → (b : Bool) → c to ≡ b → cost + q from ≤ q to
      go true e true f = omega (arith, fits, stays from e, stays to f)
      go true e false f = omega (arith, fits, stays from e, rises to f)
      go false e true f = omega (arith, fits, rises from e, stays to f, room (f, e))
      go false e false f = omega (arith, fits, rises from e, rises to f)
  raise_fits_at false from to cost fits room = go (c from) refl (c to) refl
    where
      go : (a : Bool) → c from ≡ a → (b : Bool) → c to ≡ b → q to ≤ cost + q from
      go true e true f = omega (arith, fits, stays from e, stays to f)
      go true e false f = omega (arith, fits, stays from e, rises to f, room (e, f))
      go false e true f = omega (arith, fits, rises from e, stays to f)
      go false e false f = omega (arith, fits, rises from e, rises to f)

  pub raise_fits : (l : Lane) → Fits p l → (LeadsOut c l → gap ≤ slack p l) → Fits q l
  raise_fits l = raise_fits_at l.used l.from l.to l.cost

  -- a tight lane with both ends reached stays tight
  still_tight_at : (used : Bool) (from to cost : ℕ) → IsTight p (lane used from to cost) → c (tail (lane used from to cost)) ≡ true
      → c (head (lane used from to cost)) ≡ true → IsTight q (lane used from to cost)
  still_tight_at true from to cost tight e f = omega (arith, tight, stays to e, stays from f)
  still_tight_at false from to cost tight e f = omega (arith, tight, stays from e, stays to f)

  pub still_tight : (l : Lane) → IsTight p l → c (tail l) ≡ true → c (head l) ≡ true → IsTight q l
  still_tight l = still_tight_at l.used l.from l.to l.cost

  -- the nearest lane becomes tight
  now_tight_at : (used : Bool) (from to cost : ℕ) → Fits p (lane used from to cost) → LeadsOut c (lane used from to cost)
      → gap ≡ slack p (lane used from to cost) → IsTight q (lane used from to cost)
  now_tight_at true from to cost fits out least = omega (arith, fits, least, stays to out.0, rises from out.1)
  now_tight_at false from to cost fits out least = omega (arith, fits, least, stays from out.0, rises to out.1)

  pub now_tight : (l : Lane) → Fits p l → LeadsOut c l → gap ≡ slack p l → IsTight q l
  now_tight l = now_tight_at l.used l.from l.to l.cost

  -- where it ends the potential is at most that where it begins, and its cost
  end_low_at : (used : Bool) (from to cost : ℕ) → Fits p (lane used from to cost) → LeadsOut c (lane used from to cost) → gap ≡ slack p (lane used from to cost)
      → q (head (lane used from to cost)) ≤ cost + p (tail (lane used from to cost))
  end_low_at true from to cost fits out least = omega (arith, fits, least, rises from out.1)
  end_low_at false from to cost fits out least = omega (arith, fits, least, rises to out.1)

  pub end_low : (l : Lane) → Fits p l → LeadsOut c l → gap ≡ slack p l → q (head l) ≤ l.cost + p (tail l)
  end_low l = end_low_at l.used l.from l.to l.cost

-- a lane's slack is at most its cost and the potential where its residual arc begins
slack_low_at : (p : ℕ → ℕ) (used : Bool) (from to cost : ℕ) → slack p (lane used from to cost) ≤ cost + p (tail (lane used from to cost))
slack_low_at p true from to cost = omega arith
slack_low_at p false from to cost = omega arith

pub slack_low : (p : ℕ → ℕ) (l : Lane) → slack p l ≤ l.cost + p (tail l)
slack_low p l = slack_low_at p l.used l.from l.to l.cost
