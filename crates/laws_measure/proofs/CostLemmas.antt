-- The last costs, and the weight that is due.
use Rattle.std.proofs.Common.{◌≡◌, ◌≤◌, ℕ, ◌+◌, ◌-◌, ◌==◌, ◌&&◌, Bool, true, false, cond, not, List, [], ◌∷◌, ◌++◌, length, drop, Some, None, refl, sym, ap}
use Rattle.std.proofs.Common.{◌∙◌, arith, length-append, length-drop, nat_le}
use Rattle.std.proofs.lemmas.Bool.{eqb-true}
use Rattle.std.proofs.lemmas.Bool.Decides.{nat_tests}
use Rattle.std.proofs.lemmas.List.{drop-append-le, drop-drop}
use Rattle.sp_measure.specs.Costs.{last_of, weight_of}
use Rattle.sp_measure.specs.Meters.{MeterState, due_weight, has_rested}
use Rattle.sp_measure.specs.declared.weight.TheConstants.{WEIGHED_COSTS}

-- the last n of the last n with one more are those of all with one more
pub last_more : (n : ℕ) (all : List ℕ) (cost : ℕ) → last_of n (last_of n all ++ cost ∷ []) ≡ last_of n (all ++ cost ∷ [])
last_more n all cost =
    let k = length all - n in
    let ys = all ++ cost ∷ [] in
    let front : drop k ys ≡ drop k all ++ cost ∷ [] = drop-append-le k all (cost ∷ []) (omega arith) in
    let long = length-append all (cost ∷ []) in
    let place : k + (length (drop k ys) - n) ≡ length ys - n = omega (arith, length-drop k ys, long) in
    ap (λ (xs : List ℕ). last_of n xs) (sym front) ∙ drop-drop (length (drop k ys) - n) k ys ∙ ap (λ (i : ℕ). drop i ys) place

-- the last n of fewer aren't n
pub long_enough : (n : ℕ) (all : List ℕ) → length (last_of n all) ≡ n → n ≤ length all
long_enough n all is = omega (arith, is, length-drop (length all - n) all)

both_true : (a b : Bool) → (a && b) ≡ true → (a ≡ true) × (b ≡ true)
both_true true true e = (refl, refl)
both_true true false e = absurd (cc)
both_true false b e = absurd (cc)

due_is : (t : Bool) (w weight : ℕ) → cond t (Some w) None ≡ Some weight → (t ≡ true) × (w ≡ weight)
due_is true w weight e = (refl, cc)
due_is false w weight e = absurd (cc)

-- what it is that a weight is due
pub record IsDue (m : MeterState) (minimum now interval weight : ℕ) : Type 0 where
  pub closed : length m.costs ≡ WEIGHED_COSTS
  pub made : weight_of m.costs minimum ≡ weight
  pub rested : has_rested m.published now interval ≡ true

pub due_facts : (m : MeterState) (minimum held now interval weight : ℕ) → due_weight m minimum held now interval ≡ Some weight
    → IsDue m minimum now interval weight
due_facts m minimum held now interval weight due =
    let enough = length m.costs == WEIGHED_COSTS in
    let other = not (weight_of m.costs minimum == held) in
    let all = due_is (enough && other && has_rested m.published now interval) (weight_of m.costs minimum) weight due in
    let outer = both_true (enough && other) (has_rested m.published now interval) all.0 in
    let inner = both_true enough other outer.0 in
    record { closed = eqb-true (length m.costs) WEIGHED_COSTS inner.0; made = all.1; rested = outer.1 }

pub rested_is : (last now interval : ℕ) → has_rested (Some last) now interval ≡ true → last + interval ≤ now
rested_is last now interval rested = let e : nat_le (last + interval) now ≡ true = rested in grind (arith, nat_tests)

-- a weight isn't below the minimum
pub minimum_is : (costs : List ℕ) (minimum weight : ℕ) → weight_of costs minimum ≡ weight → minimum ≤ weight
minimum_is costs minimum weight is = omega (arith, is)
