-- The weights in effect: at the start the minima of the edges, one anew where an update is put into a row of its edge, and all under other minima.
use Rattle.std.proofs.Common.{◌≡◌, ◌<◌, ◌≤◌, ◌+◌, ◌*◌, ℕ, zero, suc, Bool, true, false, List, [], ◌∷◌, ◌++◌, length, set, take, drop, get_or, replicate, Option}
use Rattle.std.proofs.Common.{Some, None, refl, sym, ap, ◌∙◌, inl, inr, arith}
use Rattle.std.specs.Prelude.{◌⊎◌, ◌==◌, slice_get, slice_index_or}
use Rattle.std.specs.Option.{option_and_then}
use Rattle.std.proofs.lemmas.Bool.{cases_eq, cases_lt}
use Rattle.std.proofs.lemmas.List.{get_or-set_same, get_or-set_other}
use Rattle.std.proofs.lemmas.Option.{slice_get_within}
use Rattle.sp_msg.specs.declared.kept.Kept.{Kept}
use Rattle.sp_topology.specs.declared.topology.Edge.{Edge}
use Rattle.sp_rules.specs.Topologies.{weights_in}
use Rattle.sp_rules.specs.Weights.{held_in, row_in, row_of, weight_of}
use Rattle.sp_weights.specs.Sound.{effective_by}

-- ---- the start

nothing_held : (count row : ℕ) → weight_of (held_in (replicate count None) row) ≡ 0
nothing_held zero row = refl
nothing_held (suc count) zero = refl
nothing_held (suc count) (suc row) = nothing_held count row

-- while no row holds an update, the minima are in effect
pub minima_in_effect : (least : List ℕ) (rows : List (Option Kept)) (weights : List ℕ) (count : ℕ)
    → rows ≡ replicate count None → weights ≡ least → (edge : ℕ) → slice_index_or weights edge 0 ≡ effective_by least rows edge
minima_in_effect least rows weights count none same edge =
    let low = nothing_held count (2 * edge) in
    let high = nothing_held count (2 * edge + 1) in
    rw (none, same) (omega (arith, low, high))

-- ---- an update

-- the row is one of the two of an edge
abbrev pub IsRowOf : ℕ → ℕ → Type 0
IsRowOf edge row = (row ≡ 2 * edge) ⊎ (row ≡ 2 * edge + 1)

row_of_is : (edge : ℕ) (e : Edge) (end row : ℕ) → row_of edge e end ≡ Some row → IsRowOf edge row
row_of_is edge e end row at = low (e.low.0 == end) refl
  where
    high : (t : Bool) → (e.high.0 == end) ≡ t → (e.low.0 == end) ≡ false → IsRowOf edge row
    high true is not = let found : Some (2 * edge + 1) ≡ Some row = rw (not, is) at at in inr (let same : 2 * edge + 1 ≡ row = cc in sym same)
    high false is not = absurd (let found : None ≡ Some row = rw (not, is) at at in cc)

    low : (t : Bool) → (e.low.0 == end) ≡ t → IsRowOf edge row
    low true is = let found : Some (2 * edge) ≡ Some row = rw is at at in inl (let same : 2 * edge ≡ row = cc in sym same)
    low false is = high (e.high.0 == end) refl is

-- where an end has a row, its edge is there
pub record HasRow (edges : List Edge) (edge row : ℕ) : Type 0 where
  pub there : edge < length edges
  pub row_is : IsRowOf edge row

pub row_in_is : (edges : List Edge) (edge end row : ℕ) → row_in edges edge end ≡ Some row → HasRow edges edge row
row_in_is edges edge end row at = go (slice_get edges edge) refl
  where
    go : (found : Option Edge) → slice_get edges edge ≡ found → HasRow edges edge row
    go None is = absurd (let none : None ≡ Some row = rw is at at in cc)
    go (Some e) is = record { there = slice_get_within edges edge e is; row_is = row_of_is edge e end row (rw is at at) }

get_set_other : {X : Type 0} (xs : List X) (i j : ℕ) (y : X) → (j ≡ i → ⊥) → slice_get (set xs i y) j ≡ slice_get xs j
get_set_other [] i j y apart = refl
get_set_other (x ∷ xs) zero zero y apart = absurd (apart refl)
get_set_other (x ∷ xs) zero (suc j) y apart = refl
get_set_other (x ∷ xs) (suc i) zero y apart = refl
get_set_other (x ∷ xs) (suc i) (suc j) y apart = get_set_other xs i j y (λ e. apart (ap (λ (n : ℕ). suc n) e))

-- what another row holds stays
weight_stays : (rows : List (Option Kept)) (row other : ℕ) (held : Option Kept) → (other ≡ row → ⊥)
    → weight_of (held_in (set rows row held) other) ≡ weight_of (held_in rows other)
weight_stays rows row other held apart =
    ap (λ (found : Option (Option Kept)). weight_of (option_and_then (λ h. h) found)) (get_set_other rows row other held apart)

low_apart : (edge other row : ℕ) → IsRowOf edge row → (other ≡ edge → ⊥) → 2 * other ≡ row → ⊥
low_apart edge other row (inl is) apart e = apart (omega (arith, is, e))
low_apart edge other row (inr is) apart e = omega (arith, is, e)

high_apart : (edge other row : ℕ) → IsRowOf edge row → (other ≡ edge → ⊥) → 2 * other + 1 ≡ row → ⊥
high_apart edge other row (inl is) apart e = omega (arith, is, e)
high_apart edge other row (inr is) apart e = apart (omega (arith, is, e))

-- the weights of all other edges stay
others_stay : (least : List ℕ) (rows : List (Option Kept)) (edge other row : ℕ) (held : Option Kept) → IsRowOf edge row → (other ≡ edge → ⊥)
    → effective_by least rows other ≡ effective_by least (set rows row held) other
others_stay least rows edge other row held is apart =
    let low = weight_stays rows row (2 * other) held (low_apart edge other row is apart) in
    let high = weight_stays rows row (2 * other + 1) held (high_apart edge other row is apart) in
    rw (low, high) refl

-- where an update is put into a row of an edge, the weight of this edge alone is another
pub weights_with : (edges : List Edge) (least : List ℕ) (rows : List (Option Kept)) (weights : List ℕ) (edge row weight : ℕ) (held : Option Kept)
    → length weights ≡ length edges → HasRow edges edge row → weight ≡ effective_by least (set rows row held) edge
    → ((e : ℕ) → slice_index_or weights e 0 ≡ effective_by least rows e)
    → (e : ℕ) → slice_index_or (set weights edge weight) e 0 ≡ effective_by least (set rows row held) e
weights_with edges least rows weights edge row weight held enough has is before e = go (cases_eq e edge)
  where
    go : (e ≡ edge) ⊎ (e ≡ edge → ⊥) → slice_index_or (set weights edge weight) e 0 ≡ effective_by least (set rows row held) e
    go (inl same) = rw same (get_or-set_same weights edge weight 0 (omega (arith, enough, has.there)) ∙ is)
    go (inr apart) = get_or-set_other weights edge e weight 0 apart ∙ before e ∙ others_stay least rows edge e row held has.row_is apart

-- ---- other minima

none_behind : (rows : List (Option Kept)) (row : ℕ) → length rows ≤ row → weight_of (held_in rows row) ≡ 0
none_behind [] row le = refl
none_behind (r ∷ rows) zero le = absurd (omega (arith, le))
none_behind (r ∷ rows) (suc row) le = none_behind rows row (omega (arith, le))

zero_behind : (xs : List ℕ) (place : ℕ) → length xs ≤ place → slice_index_or xs place 0 ≡ 0
zero_behind [] place le = refl
zero_behind (x ∷ xs) zero le = absurd (omega (arith, le))
zero_behind (x ∷ xs) (suc place) le = zero_behind xs place (omega (arith, le))

-- where the weight of each edge is the one in effect, so it is of each place: behind the edges there is none
pub everywhere : (least : List ℕ) (rows : List (Option Kept)) (weights : List ℕ) (count : ℕ)
    → length least ≡ count → length rows ≡ 2 * count → length weights ≡ count
    → ((edge : ℕ) → edge < count → slice_index_or weights edge 0 ≡ effective_by least rows edge)
    → (edge : ℕ) → slice_index_or weights edge 0 ≡ effective_by least rows edge
everywhere least rows weights count minima ends many each edge = elim (cases_lt edge count) [
  | inl lt ↦ each edge lt
  | inr ge ↦
      let none = zero_behind weights edge (omega (arith, many, ge)) in
      let free = zero_behind least edge (omega (arith, minima, ge)) in
      let low = none_behind rows (2 * edge) (omega (arith, ends, ge)) in
      let high = none_behind rows (2 * edge + 1) (omega (arith, ends, ge)) in
      omega (arith, none, free, low, high)
]

-- the minima up to a place are those of these edges, and then one more is
pub minima_set : (edges : List Edge) (old : List ℕ) (i : ℕ) (d : Edge) → i < length edges → length edges ≡ length old
    → set (weights_in (take i edges) ++ drop i old) i (get_or edges i d).weight ≡ weights_in (take (suc i) edges) ++ drop (suc i) old
minima_set [] old i d inside same = absurd (omega (arith, inside))
minima_set (e ∷ edges) [] i d inside same = absurd (omega (arith, same))
minima_set (e ∷ edges) (x ∷ old) zero d inside same = refl
minima_set (e ∷ edges) (x ∷ old) (suc i) d inside same =
    ap (λ (rest : List ℕ). e.weight ∷ rest) (minima_set edges old i d (omega (arith, inside)) (omega (arith, same)))

-- the weights in effect up to a place are right, and then one more is
pub weighed_more : (least : List ℕ) (rows : List (Option Kept)) (weights : List ℕ) (i weight : ℕ) → i < length weights → weight ≡ effective_by least rows i
    → ((edge : ℕ) → edge < i → slice_index_or weights edge 0 ≡ effective_by least rows edge)
    → (edge : ℕ) → edge < i + 1 → slice_index_or (set weights i weight) edge 0 ≡ effective_by least rows edge
weighed_more least rows weights i weight inside is so_far edge below = elim (cases_eq edge i) [
  | inl same ↦ rw same (get_or-set_same weights i weight 0 inside ∙ is)
  | inr apart ↦ get_or-set_other weights i edge weight 0 apart ∙ so_far edge (omega (arith, below, apart))
]
