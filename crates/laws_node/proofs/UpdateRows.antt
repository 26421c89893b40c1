-- Rows of updates: each end of each edge has its own, and a write is seen in its row alone.
use Rattle.std.proofs.Common.{◌≡◌, ◌<◌, ◌+◌, ◌*◌, ℕ, zero, suc, Bool, true, false, List, [], ◌∷◌, length, set, replicate, Some, None, refl, sym, ap, subst, ◌∙◌}
use Rattle.std.proofs.Common.{inl, inr, arith}
use Rattle.std.specs.Prelude.{◌⊎◌, ◌==◌}
use Rattle.std.specs.List.{slice_get}
use Rattle.std.proofs.lemmas.Bool.{eqb-true}
use Rattle.sp_topology.specs.declared.topology.Edge.{Edge}
use Rattle.sp_topology.specs.Ranges.{AreEdges}
use Rattle.sp_rules.specs.Weights.{held_in, row_of, weight_of}

pub get_set_same : {X : Type 0} (xs : List X) (i : ℕ) (y : X) → i < length xs → slice_get (set xs i y) i ≡ Some y
get_set_same [] i y inside = absurd (omega (arith, inside))
get_set_same (x ∷ xs) zero y inside = refl
get_set_same (x ∷ xs) (suc i) y inside = get_set_same xs i y (omega (arith, inside))

pub get_set_other : {X : Type 0} (xs : List X) (i j : ℕ) (y : X) → (j ≡ i → ⊥) → slice_get (set xs i y) j ≡ slice_get xs j
get_set_other [] i j y apart = refl
get_set_other (x ∷ xs) zero zero y apart = absurd (apart refl)
get_set_other (x ∷ xs) zero (suc j) y apart = refl
get_set_other (x ∷ xs) (suc i) zero y apart = refl
get_set_other (x ∷ xs) (suc i) (suc j) y apart = get_set_other xs i j y (λ e. apart (ap (λ (n : ℕ). suc n) e))

-- an end and its row
abbrev pub IsRow : ℕ → Edge → ℕ → ℕ → Type 0
IsRow edge e end row = ((row ≡ 2 * edge) × (end ≡ e.low.0)) ⊎ ((row ≡ 2 * edge + 1) × (end ≡ e.high.0))

pub row_is : (edge : ℕ) (e : Edge) (end row : ℕ) → row_of edge e end ≡ Some row → IsRow edge e end row
row_is edge e end row at = low (e.low.0 == end) refl
  where
    high : (t : Bool) → (e.high.0 == end) ≡ t → (e.low.0 == end) ≡ false → IsRow edge e end row
    high true is not = let found : Some (2 * edge + 1) ≡ Some row = rw (not, is) at at in
        inr ((let same : 2 * edge + 1 ≡ row = cc in sym same), sym (eqb-true _ _ is))
    high false is not = absurd (let found : None ≡ Some row = rw (not, is) at at in cc)

    low : (t : Bool) → (e.low.0 == end) ≡ t → IsRow edge e end row
    low true is = let found : Some (2 * edge) ≡ Some row = rw is at at in inl ((let same : 2 * edge ≡ row = cc in sym same), sym (eqb-true _ _ is))
    low false is = high (e.high.0 == end) refl is

-- one row is that of one end of one edge
pub same_edge : (edge other : ℕ) (e f : Edge) (end far row : ℕ) → IsRow edge e end row → IsRow other f far row → edge ≡ other
same_edge edge other e f end far row (inl p) (inl q) = omega (arith, p.0, q.0)
same_edge edge other e f end far row (inl p) (inr q) = omega (arith, p.0, q.0)
same_edge edge other e f end far row (inr p) (inl q) = omega (arith, p.0, q.0)
same_edge edge other e f end far row (inr p) (inr q) = omega (arith, p.0, q.0)

pub same_end : (edge : ℕ) (e : Edge) (end far row : ℕ) → IsRow edge e end row → IsRow edge e far row → end ≡ far
same_end edge e end far row (inl p) (inl q) = p.1 ∙ sym q.1
same_end edge e end far row (inl p) (inr q) = absurd (omega (arith, p.0, q.0))
same_end edge e end far row (inr p) (inl q) = absurd (omega (arith, p.0, q.0))
same_end edge e end far row (inr p) (inr q) = p.1 ∙ sym q.1

pub row_within : (edges edge : ℕ) (e : Edge) (end row : ℕ) → edge < edges → IsRow edge e end row → row < 2 * edges
row_within edges edge e end row inside (inl p) = omega (arith, inside, p.0)
row_within edges edge e end row inside (inr p) = omega (arith, inside, p.0)

-- rows that hold nothing say nothing
pub nothing_held : (n row : ℕ) → weight_of (held_in (replicate n None) row) ≡ 0
nothing_held zero row = refl
nothing_held (suc n) zero = refl
nothing_held (suc n) (suc row) = nothing_held n row

-- the lower end of an edge is another node than the higher one
pub ends_differ : (format : ℕ) (ids : List ℕ) (before : ℕ × ℕ) (edges : List Edge) (edge : ℕ) (e : Edge) → AreEdges format ids before edges
    → slice_get edges edge ≡ Some e → e.low.0 < e.high.0
ends_differ format ids before [] edge e good at = absurd cc
ends_differ format ids before (f ∷ edges) zero e good at = let same : f ≡ e = cc in subst (λ (g : Edge). g.low.0 < g.high.0) same good.0.ascend
ends_differ format ids before (f ∷ edges) (suc edge) e good at = ends_differ format ids _ edges edge e good.2 at
