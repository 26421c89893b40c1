-- The elements of a list, and where an index stands in one that rises.
use Rattle.std.proofs.Common.{◌≡◌, ℕ, ◌+◌, ◌≤◌, ◌⊎◌, List, [], ◌∷◌, sym, ◌∙◌, ap, inl, inr, arith}
use Rattle.std.specs.List.{Contains}
use Rattle.std.proofs.lemmas.List.Elements.{Contains-push_cases, Contains-append_cases}
use Rattle.sp_hss.specs.Uses.{Rising, Signing}

-- an element is the first, or one of the others
pub first_or_other : {X : Type 0} (x : X) (xs : List X) (y : X) → Contains (x ∷ xs) y → (x ≡ y) ⊎ Contains xs y
first_or_other x xs y one = elim (Contains-append_cases (x ∷ []) xs y one) [
  | inl alone ↦ elim (Contains-push_cases [] x y alone) [ inl none ↦ absurd (omega (arith, none.1)) | inr is ↦ inl is ]
  | inr other ↦ inr other
]

-- no index below the first stands in a list that rises
not_below : (first : ℕ) (ss : List Signing) (s : Signing) → Rising first ss → Contains ss s → first ≤ s.index
not_below first [] s rises one = absurd (omega (arith, one.1))
not_below first (x ∷ xs) s rises one = elim (first_or_other x xs s one) [
  | inl is ↦ omega (arith, rises.0, ap (λ (y : Signing). y.index) is)
  | inr other ↦ omega (arith, rises.0, not_below (x.index + 1) xs s rises.1 other)
]

-- an index stands once in a list that rises
pub once : (first : ℕ) (ss : List Signing) (a b : Signing) → Rising first ss → Contains ss a → Contains ss b → a.index ≡ b.index → a ≡ b
once first [] a b rises one other same = absurd (omega (arith, one.1))
once first (x ∷ xs) a b rises one other same = elim (first_or_other x xs a one) [
  | inl a_is ↦ elim (first_or_other x xs b other) [
    | inl b_is ↦ sym a_is ∙ b_is
    | inr later ↦ absurd (omega (arith, same, ap (λ (y : Signing). y.index) a_is, not_below (x.index + 1) xs b rises.1 later))
  ]
  | inr a_later ↦ elim (first_or_other x xs b other) [
    | inl b_is ↦ absurd (omega (arith, same, ap (λ (y : Signing). y.index) b_is, not_below (x.index + 1) xs a rises.1 a_later))
    | inr b_later ↦ once (x.index + 1) xs a b rises.1 a_later b_later same
  ]
]
