-- Reading a list that grows at its end, and what stands in front of it.
use Rattle.std.proofs.Common.{◌≡◌, ℕ, zero, suc, List, [], ◌∷◌, ◌++◌, length, Some, refl, ap, ◌∙◌, inl, inr, arith, append_assoc}
use Rattle.std.specs.Prelude.{◌⊎◌}
use Rattle.std.specs.List.{slice_get, zip}
use Rattle.sp_base.specs.Lists.{IsPrefix}

-- what a list gives it gives when more stands after it
pub get_left : {X : Type 0} (xs ys : List X) (i : ℕ) (x : X) → slice_get xs i ≡ Some x → slice_get (xs ++ ys) i ≡ Some x
get_left [] ys i x at = cc
get_left (a ∷ xs) ys zero x at = at
get_left (a ∷ xs) ys (suc i) x at = get_left xs ys i x at

-- a list with one more gives that one last, and else what it gave before
pub get_push : {X : Type 0} (xs : List X) (y : X) (i : ℕ) (x : X) → slice_get (xs ++ y ∷ []) i ≡ Some x
    → (slice_get xs i ≡ Some x) ⊎ ((i ≡ length xs) × (x ≡ y))
get_push [] y zero x at = inr (refl, cc)
get_push [] y (suc i) x at = cc
get_push (a ∷ xs) y zero x at = inl at
get_push (a ∷ xs) y (suc i) x at = elim (get_push xs y i x at) [ inl old ↦ inl old | inr new ↦ inr (omega (arith, new.0), new.1) ]

-- the first of what stands after a list
pub get_seam : {X : Type 0} (xs : List X) (y : X) (ys : List X) → slice_get (xs ++ y ∷ ys) (length xs) ≡ Some y
get_seam [] y ys = refl
get_seam (x ∷ xs) y ys = get_seam xs y ys

-- the last one
pub get_last : {X : Type 0} (xs : List X) (y : X) → slice_get (xs ++ y ∷ []) (length xs) ≡ Some y
get_last xs y = get_seam xs y []

-- lists of one length are paired element by element, and so are their last ones
pub zip-push : {X Y : Type 0} (xs : List X) (ys : List Y) (x : X) (y : Y) → length xs ≡ length ys → zip (xs ++ x ∷ []) (ys ++ y ∷ []) ≡ zip xs ys ++ (x, y) ∷ []
zip-push [] [] x y even = refl
zip-push [] (b ∷ ys) x y even = absurd (omega arith)
zip-push (a ∷ xs) [] x y even = absurd (omega arith)
zip-push {X} {Y} (a ∷ xs) (b ∷ ys) x y even = ap (λ (rest : List (X × Y)). (a, b) ∷ rest) (zip-push xs ys x y (omega arith))

-- a prefix stays one of a longer list
pub longer_prefix : {X : Type 0} (xs ys zs : List X) → IsPrefix xs ys → IsPrefix xs (ys ++ zs)
longer_prefix {X} xs ys zs (rest, is) = (rest ++ zs, ap (λ (s : List X). s ++ zs) is ∙ append_assoc xs rest zs)
