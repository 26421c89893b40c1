-- What stands at places of lists: the hops of a path, fronts and ends; counts by the first element; and nodes compared.
use Rattle.std.proofs.Common.{cond, refl, ◌+◌, ◌<◌, ◌++◌, length, arith, Bool, ◌≡◌, ◌⊎◌, ℕ, zero, suc, List, [], ◌∷◌, Some, ap, subst, inl, inr}
use Rattle.std.specs.Prelude.{count_by, slice_get}
use Rattle.std.proofs.lemmas.List.Sums.{sum_by-cons}
use Rattle.std.specs.List.{All}
use Rattle.std.proofs.lemmas.Bool.{cases_eq}
use Rattle.std.proofs.lemmas.List.Elements.{All-head, All-tail}
use Rattle.sp_base.specs.declared.id.NodeId.{NodeId}
use Rattle.sp_graph.specs.Walks.{steps}
use Rattle.laws_runs.proofs.Tables.{same_node}

-- no node
abbrev pub nobody : NodeId
nobody = record { 0 = 0 }

pub cases_node : (a b : NodeId) → (a ≡ b) ⊎ (a ≡ b → ⊥)
cases_node a b = elim (cases_eq a.0 b.0) [
  | inl same ↦ inl (same_node a b same)
  | inr other ↦ inr (λ same. other (ap (λ (n : NodeId). n.0) same))
]

-- what holds of each hop holds of two neighbours in the path
pub hop_at : (P : NodeId → NodeId → Type 0) (path : List NodeId) → All (λ hop. P hop.0 hop.1) (steps path) → (i : ℕ) (u v : NodeId)
    → slice_get path i ≡ Some u → slice_get path (suc i) ≡ Some v → P u v
hop_at P [] all i u v a b = absurd cc
hop_at P (x ∷ []) all i u v a b = absurd cc
hop_at P (x ∷ y ∷ path) all zero u v a b =
    let first : x ≡ u = cc in
    let second : y ≡ v = cc in
    subst (λ w. P u w) second (subst (λ w. P w y) first (All-head (λ (hop : NodeId × NodeId). P hop.0 hop.1) (x, y) (steps (y ∷ path)) all))
hop_at P (x ∷ y ∷ path) all (suc i) u v a b = hop_at P (y ∷ path) (All-tail (λ (hop : NodeId × NodeId). P hop.0 hop.1) (x, y) (steps (y ∷ path)) all) i u v a b

-- a count by its first element
pub counts_one : {X : Type 0} (p : X → Bool) (x : X) (xs : List X) → count_by p (x ∷ xs) ≡ cond (p x) 1 0 + count_by p xs
counts_one p x xs = sum_by-cons (λ y. cond (p y) 1 0) x xs

pub get_front : {X : Type 0} (xs ys : List X) (i : ℕ) → i < length xs → slice_get (xs ++ ys) i ≡ slice_get xs i
get_front [] ys i low = absurd (omega (arith, low))
get_front (x ∷ xs) ys zero low = refl
get_front (x ∷ xs) ys (suc i) low = get_front xs ys i (omega (arith, low))

pub get_last : {X : Type 0} (xs : List X) (y : X) → slice_get (xs ++ y ∷ []) (length xs) ≡ Some y
get_last [] y = refl
get_last (x ∷ xs) y = get_last xs y
