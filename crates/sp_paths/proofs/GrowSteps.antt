-- A turn of the search: its sums stay in their types, and what is known stays true.
use Rattle.std.proofs.Common.{◌≡◌, ◌+◌, ◌<◌, ◌^◌, ℕ, Bool, true, List, [], ◌∷◌, ◌++◌, length, set, sym, subst, arith}
use Rattle.sp_paths.specs.declared.lane.Lane.{Lane}
use Rattle.sp_paths.specs.Bounds.{most_potential}
use Rattle.sp_paths.specs.Lanes.{AreWithin, IsLow, Nearest, at, head, is_in, lane_at, raised}
use Rattle.sp_paths.specs.Trees.{Grown, IsReady}
use Rattle.sp_paths.proofs.GrowLemmas.{ends_within, grow_more}
use Rattle.sp_paths.proofs.Raised.{slack_low}

module _ (first : List ℕ) (s : ℕ) (lanes : List Lane) (pot : List ℕ) (reached : List Bool) (tree : List ℕ) (ready : IsReady s lanes first)
    (g : Grown first s lanes pot reached tree) where
  pub stays_low : IsLow pot
  stays_low v = omega (arith, g.high most_potential ready.low v, g.few, g.marks, ready.parts)

  pub within_more : AreWithin (length pot) lanes
  within_more = subst (λ (n : ℕ). AreWithin n lanes) (sym g.parts) ready.within

  module _ (place gap : ℕ) (n : Nearest (at pot) (is_in reached) lanes (length lanes) place gap) where
    pub has_room : (v : ℕ) → at pot v + gap < 2 ^ 64
    has_room v =
        let end = ends_within (length pot) (lane_at lanes place) (within_more place n.inside) in
        let begins = g.low _ (omega (arith, end.0, g.parts)) n.leads_out.0 in
        omega (arith, stays_low v, n.is, slack_low (at pot) (lane_at lanes place), begins, ready.weights place n.inside, g.few, g.marks, ready.parts)

    pub grow_on : (more : List ℕ) → length more ≡ length pot → ((v : ℕ) → at more v ≡ raised (is_in reached) gap (at pot) v)
        → Grown first s lanes more (set reached (head (lane_at lanes place)) true) (tree ++ place ∷ [])
    grow_on more same up = grow_more first s lanes pot more reached tree place gap g n within_more ready.weights (omega (arith, g.parts, ready.parts)) same up
