-- A round of the search: one path more goes along the lanes, and what a search begins with holds again.
use Rattle.std.proofs.Common.{◌≡◌, ◌+◌, ◌*◌, ◌<◌, ◌≤◌, ℕ, zero, suc, Bool, true, false, cond, List, [], ◌∷◌, length, map, sum_by, refl, sym, ap, ◌∙◌, arith}
use Rattle.std.proofs.lemmas.List.Sums.{sum_by-cons}
use Rattle.sp_paths.specs.declared.lane.Lane.{Lane}
use Rattle.sp_paths.specs.declared.limits.TheConstants.{MAX_PATHS}
use Rattle.sp_paths.specs.Flows.{Flow, bare, begins, ends}
use Rattle.sp_paths.specs.Bounds.{most_rise}
use Rattle.sp_paths.specs.Lanes.{Closed, FitAll, at, is_in, lane_at}
use Rattle.sp_paths.specs.Routes.{HasAll, HasOnly, IsUnused}
use Rattle.sp_paths.specs.Trees.{AreTight, Grown, IsReady}

bare_at : (xs ys : List Lane) → map bare xs ≡ map bare ys → (k : ℕ) → bare (lane_at xs k) ≡ bare (lane_at ys k)
bare_at xs ys same k = sym (reads xs k) ∙ ap (λ (ls : List Lane). lane_at ls k) same ∙ reads ys k
  where
    reads : (zs : List Lane) (i : ℕ) → lane_at (map bare zs) i ≡ bare (lane_at zs i)
    reads [] i = refl
    reads (z ∷ zs) zero = refl
    reads (z ∷ zs) (suc i) = reads zs i

same_length : (xs ys : List Lane) → map bare xs ≡ map bare ys → length xs ≡ length ys
same_length xs ys same = sym (mapped xs) ∙ ap (λ (ls : List Lane). length ls) same ∙ mapped ys
  where
    mapped : (zs : List Lane) → length (map bare zs) ≡ length zs
    mapped [] = refl
    mapped (z ∷ zs) = omega (arith, mapped zs)

-- no path goes along lanes that are all unused
pub no_flow : (s t : ℕ) (lanes : List Lane) → IsUnused lanes → Flow s t 0 lanes
no_flow s t lanes unused c = none lanes unused (c s) (c t)
  where
    nothing : (used : Bool) (a : Bool) → used ≡ false → ◌≡◌ {A = ℕ} (cond used (cond a 1 0) 0) 0
    nothing true a e = absurd cc
    nothing false a e = refl

    both : (ls : List Lane) → IsUnused ls → sum_by (begins c) ls ≡ sum_by (ends c) ls
    both [] free = refl
    both (l ∷ ls) free =
        let one = nothing l.used (c l.from) (free 0 (omega arith)) in
        let two = nothing l.used (c l.to) (free 0 (omega arith)) in
        let rest = both ls (λ k inside. free (suc k) (omega (arith, inside))) in
        omega (arith, one, two, rest, sum_by-cons (begins c) l ls, sum_by-cons (ends c) l ls)

    none : (ls : List Lane) → IsUnused ls → (a b : Bool) → sum_by (begins c) ls + cond b 0 0 ≡ sum_by (ends c) ls + cond a 0 0
    none ls free true true = omega (arith, both ls free)
    none ls free true false = omega (arith, both ls free)
    none ls free false true = omega (arith, both ls free)
    none ls free false false = omega (arith, both ls free)

-- what holds after so many rounds
pub record Rounds (old : List Lane) (first : List ℕ) (s t round : ℕ) (lanes : List Lane) (potential : List ℕ) (reached : List Bool) : Type 0 where
  pub same : map bare lanes ≡ map bare old
  pub ready : IsReady s lanes potential
  pub low : (v : ℕ) → at potential v ≤ round * most_rise
  pub flow : Flow s t round lanes
  pub parts : length potential ≡ length first
  pub marks : length reached ≡ length first

pub rounds_begin : (old : List Lane) (first : List ℕ) (s t : ℕ) (reached : List Bool) → IsReady s old first → ((v : ℕ) → at first v ≡ 0) → IsUnused old
    → length reached ≡ length first → Rounds old first s t 0 old first reached
rounds_begin old first s t reached ready zero_all unused marks = record {
  same = refl;
  ready = ready;
  low = λ v. omega (arith, zero_all v);
  flow = no_flow s t old unused;
  parts = refl;
  marks = marks;
}

module _ (old : List Lane) (first : List ℕ) (s t round : ℕ) (lanes : List Lane) (potential more : List ℕ) (before reached : List Bool) (tree : List ℕ)
    (r : Rounds old first s t round lanes potential before) (g : Grown potential s lanes more reached tree) where
  low_again : (v : ℕ) → at more v ≤ (round + 1) * most_rise
  low_again v = omega (arith, g.high (round * most_rise) r.low v, g.few, g.marks, r.ready.parts)

  pub rounds_more : (turned : List Lane) → map bare turned ≡ map bare lanes → (AreTight (at more) lanes tree → FitAll (at more) lanes → FitAll (at more) turned)
      → Flow s t (round + 1) turned → round + 1 ≤ MAX_PATHS
      → Rounds old first s t (round + 1) turned more reached
  rounds_more turned same fits flow few = record {
    same = same ∙ r.same;
    ready = record {
      parts = omega (arith, g.parts, r.ready.parts);
      source = omega (arith, g.parts, r.ready.source);
      within = λ k inside.
          let old_one = r.ready.within k (omega (arith, long, inside)) in (
            omega (arith, g.parts, old_one.0, ap (λ (l : Lane). l.from) (bare_at turned lanes same k)),
            omega (arith, g.parts, old_one.1, ap (λ (l : Lane). l.to) (bare_at turned lanes same k)),
          );
      weights = λ k inside. omega (arith, r.ready.weights k (omega (arith, long, inside)), ap (λ (l : Lane). l.cost) (bare_at turned lanes same k));
      fits = fits g.tight g.fits;
      zero_there = g.zero_there;
      low = λ v. omega (arith, low_again v, few);
    };
    low = low_again;
    flow = flow;
    parts = g.parts ∙ r.parts;
    marks = g.marks ∙ r.parts;
  }
    where
      long : length turned ≡ length lanes
      long = same_length turned lanes same

  pub rounds_end : (count : ℕ) → round < count → is_in reached t ≡ false → ((k : ℕ) → k < length lanes → Closed (is_in reached) (lane_at lanes k))
      → HasOnly s t round count lanes reached
  rounds_end count fewer out closed = record {
    fewer = fewer;
    flow = r.flow;
    source = g.source;
    destination = out;
    closed = closed;
    least_set = λ c source all v inside. g.least_set c source all v (omega (arith, inside, g.marks));
  }

pub rounds_done : (old : List Lane) (first : List ℕ) (s t count : ℕ) (lanes : List Lane) (potential : List ℕ) (reached : List Bool) → count ≤ MAX_PATHS
    → Rounds old first s t count lanes potential reached → HasAll s t count lanes potential
rounds_done old first s t count lanes potential reached few r = record { flow = r.flow; fits = r.ready.fits; low = λ v. omega (arith, r.low v, few) }
