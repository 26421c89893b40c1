-- Places in walks that are taken one after the other.
use Rattle.std.proofs.Common.{◌≡◌, ℕ, Bool, true, false, List, [], ◌∷◌, refl, sym, subst, ◌∙◌, inl, inr}
use Rattle.std.specs.Prelude.{◌⊎◌, ◌==◌}
use Rattle.std.specs.List.{list_any}
use Rattle.std.proofs.lemmas.Bool.{eqb-true}
use Rattle.laws_paths.proofs.Kept.{same_number}
use Rattle.laws_paths.proofs.Lists.{Has, any_has, has_any, has_left, has_right}
use Rattle.sp_paths.specs.Taken.{joined}

pub walk_in_joined : (walks : List (List ℕ)) (walk : List ℕ) (i : ℕ) → Has walks walk → Has walk i → Has (joined walks) i
walk_in_joined [] walk i h k = absurd h
walk_in_joined (v ∷ walks) walk i (inl e) k = has_left v (joined walks) i (subst (λ (u : List ℕ). Has u i) (sym e) k)
walk_in_joined (v ∷ walks) walk i (inr h) k = has_right v (joined walks) i (walk_in_joined walks walk i h k)

pub in_or_not : (xs : List ℕ) (i : ℕ) → Has xs i ⊎ (Has xs i → ⊥)
in_or_not xs i = go (list_any (λ j. j == i) xs) refl
  where
    go : (b : Bool) → list_any (λ j. j == i) xs ≡ b → Has xs i ⊎ (Has xs i → ⊥)
    go true e = let (j, at, same) = any_has (λ j. j == i) xs e in inl (subst (Has xs) (eqb-true _ _ same) at)
    go false e = inr (λ h. let x : true ≡ false = sym (has_any (λ j. j == i) xs i h (same_number i)) ∙ e in cc)
