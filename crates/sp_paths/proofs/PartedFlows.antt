-- Any flow of so many paths can be taken apart into so many walks, whether or not a call does so.
use Rattle.std.proofs.Common.{◌≡◌, ◌+◌, ◌<◌, ℕ, zero, suc, Bool, true, false, List, [], ◌∷◌, length, ◌++◌, count_by, set, refl, sym, subst, ◌∙◌, arith}
use Rattle.std.specs.Prelude.{◌≢◌, ◌==◌, Option, Some, None, IsSome}
use Rattle.std.proofs.lemmas.Bool.{eqb-true}
use Rattle.std.proofs.lemmas.Bool.Decides.{nat_tests}
use Rattle.sp_paths.specs.declared.lane.Lane.{Lane}
use Rattle.sp_paths.specs.Flows.{Flow}
use Rattle.sp_paths.specs.Lanes.{flipped, lane_at}
use Rattle.sp_paths.specs.Taken.{IsApart, IsFirst}
use Rattle.sp_paths.proofs.WalkLemmas.{Walking, fewer_used, goes_on, walk_begins, walk_ends, walk_goes_on}
use Rattle.sp_paths.proofs.WalksLemmas.{none_taken, one_more}

-- the first lane that is used and begins here, or that there is none
next_lane : (lanes : List Lane) (here : ℕ) → (found : Option ℕ) × IsFirst lanes here found
next_lane [] here = (None, λ k inside. absurd (omega (arith, inside)))
next_lane (l ∷ lanes) here = go l.used refl (l.from == here) refl (next_lane lanes here)
  where
    -- where the first isn't it, it is that of the others
    further : (l.used ≡ true → l.from ≢ here) → (found : Option ℕ) → IsFirst lanes here found → (found : Option ℕ) × IsFirst (l ∷ lanes) here found
    further not (Some i) first = (Some (suc i), (omega (arith, first.0), first.1, first.2, each))
      where
        each : (k : ℕ) → k < suc i → (lane_at (l ∷ lanes) k).used ≡ true → (lane_at (l ∷ lanes) k).from ≢ here
        each zero less = not
        each (suc k) less = first.3 k (omega (arith, less))
    further not None first = (None, each)
      where
        each : (k : ℕ) → k < length (l ∷ lanes) → (lane_at (l ∷ lanes) k).used ≡ true → (lane_at (l ∷ lanes) k).from ≢ here
        each zero less = not
        each (suc k) less = first k (omega (arith, less))

    go : (used : Bool) → l.used ≡ used → (at : Bool) → (l.from == here) ≡ at → (found : Option ℕ) × IsFirst lanes here found
        → (found : Option ℕ) × IsFirst (l ∷ lanes) here found
    go true e true f rest = (Some 0, (omega arith, e, eqb-true _ _ f, λ k less. absurd (omega (arith, less))))
    go true e false f rest = further (λ used from. grind (arith, nat_tests)) rest.0 rest.1
    go false e at f rest = further (λ used. absurd (let x : true ≡ false = sym used ∙ e in cc)) rest.0 rest.1

-- how many lanes are used
abbrev used_lanes : List Lane → ℕ
used_lanes lanes = count_by (λ l. l.used) lanes

-- a walk on its way to t, and what is left of the lanes
record Going (old : List Lane) (s t below : ℕ) : Type 0 where
  here : ℕ
  lanes : List Lane
  walk : List ℕ
  walking : Walking old s t here lanes walk
  fewer : used_lanes lanes < below

-- a walk that isn't at its end goes on by a lane
step_on : (s t r here : ℕ) (old lanes : List Lane) (walk : List ℕ) → Flow s t (r + 1) old → Walking old s t here lanes walk → here ≢ t
    → Going old s t (used_lanes lanes)
step_on s t r here old lanes walk flow w apart =
    let found = next_lane lanes here in
    go found.0 found.1 (goes_on s t r here lanes found.0 (w.flow r flow) apart found.1)
  where
    go : (found : Option ℕ) → IsFirst lanes here found → IsSome found → Going old s t (used_lanes lanes)
    go None first some = absurd (let x : false ≡ true = some in cc)
    go (Some i) first some = record {
      here = (lane_at lanes i).to;
      lanes = set lanes i (flipped (lane_at lanes i));
      walk = walk ++ i ∷ [];
      walking = walk_goes_on old s t here lanes walk w i first.0 first.1 first.2 first.3;
      fewer = fewer_used old s t here lanes walk w i first.0 first.1 first.2 first.3;
    }

-- a walk that is at its end, and what is left of the lanes
record Gone (old : List Lane) (s t : ℕ) : Type 0 where
  new : List Lane
  walk : List ℕ
  walked : Walking old s t t new walk

-- so it comes to its end: each step leaves fewer lanes used
walk_on : (s t r n here : ℕ) (old lanes : List Lane) (walk : List ℕ) → Flow s t (r + 1) old → Walking old s t here lanes walk → used_lanes lanes < n
    → Gone old s t
walk_on s t r zero here old lanes walk flow w few = absurd (omega (arith, few))
walk_on s t r (suc n) here old lanes walk flow w few =
    go (λ next. walk_on s t r n next.here old next.lanes next.walk flow next.walking (omega (arith, next.fewer, few))) (here == t) refl
  where
    go : (Going old s t (used_lanes lanes) → Gone old s t) → (b : Bool) → (here == t) ≡ b → Gone old s t
    go on true e = record { new = lanes; walk = walk; walked = subst (λ (v : ℕ). Walking old s t v lanes walk) (eqb-true _ _ e) w }
    go on false e = on (step_on s t r here old lanes walk flow w (λ f. grind (arith, nat_tests)))

-- walks that are taken, and what is left of the lanes
pub record Parted (old : List Lane) (s t total : ℕ) : Type 0 where
  pub new : List Lane
  pub walks : List (List ℕ)
  pub apart : IsApart old new s t total walks

-- after the walks that were taken, as many more as the flow that is left has paths
part_on : (s t done more : ℕ) (old lanes : List Lane) (walks : List (List ℕ)) → IsApart old lanes s t done walks → Flow s t more lanes
    → Parted old s t (done + more)
part_on s t done zero old lanes walks taken flow = subst (Parted old s t) (omega arith) (record { new = lanes; walks = walks; apart = taken })
part_on s t done (suc more) old lanes walks taken flow =
    let all : Flow s t (more + 1) lanes = subst (λ (n : ℕ). Flow s t n lanes) (omega arith) flow in
    let gone = walk_on s t more (used_lanes lanes + 1) s lanes lanes [] all (walk_begins lanes s t) (omega arith) in
    let w = gone.walked in
    let rest = walk_ends lanes s t t gone.new gone.walk w refl more all in
    let taken_more = one_more old lanes gone.new s t done walks gone.walk taken w.taken w.leads w.first in
    subst (Parted old s t) (omega arith) (part_on s t (done + 1) more old gone.new (walks ++ gone.walk ∷ []) taken_more rest)

-- a flow of so many paths is so many walks that take no lane twice
pub parted : (s t total : ℕ) (lanes : List Lane) → Flow s t total lanes → Parted lanes s t total
parted s t total lanes flow = subst (Parted lanes s t) (omega arith) (part_on s t 0 total lanes lanes [] (none_taken lanes s t) flow)
