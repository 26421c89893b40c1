-- The entries that aren't in flight, entry by entry.
use Rattle.std.proofs.Common.{◌≡◌, ℕ, ◌+◌, Bool, true, false, List, [], ◌∷◌, ◌++◌, drop, Some, refl, sym, ap, subst, ◌∙◌, arith}
use Rattle.std.specs.Prelude.{◌==◌, ◌||◌, not, slice_get}
use Rattle.std.proofs.lemmas.Bool.Decides.{nat_tests}
use Rattle.std.proofs.lemmas.List.{append-nil}
use Rattle.std.proofs.lemmas.List.Elements.{filter-append}
use Rattle.sp_base.proofs.FewLemmas.{drop_first}
use Rattle.sp_rules.specs.Store.{free, is_flying}
use Rattle.sp_rules.specs.declared.store.Entry.{Entry}

-- the pair of this place is that of the entry
pub flying_here : (flight : List (ℕ × ℕ)) (i : ℕ) (pair : ℕ × ℕ) (e : Entry) → slice_get flight i ≡ Some pair → e.id ≡ pair.1 →
    (e.id == pair.1) ≡ is_flying (drop i flight) e
flying_here flight i pair e at same =
    let here : (e.id == pair.1) ≡ true = grind (arith, nat_tests) in
    here ∙ sym (ap (λ (pairs : List (ℕ × ℕ)). is_flying pairs e) (drop_first flight i pair at) ∙ ap (λ (b : Bool). b || is_flying (drop (i + 1) flight) e) here)

-- one more that is in flight
pub flying_more : (flight : List (ℕ × ℕ)) (es : List Entry) (e : Entry) → is_flying flight e ≡ true → free flight (es ++ e ∷ []) ≡ free flight es
flying_more flight es e flies = filter-append (λ x. not (is_flying flight x)) es (e ∷ []) ∙ rw flies (append-nil (free flight es))

-- one more that isn't
pub free_more : (flight : List (ℕ × ℕ)) (es : List Entry) (e : Entry) → is_flying flight e ≡ false → free flight (es ++ e ∷ []) ≡ free flight es ++ e ∷ []
free_more flight es e stays = filter-append (λ x. not (is_flying flight x)) es (e ∷ []) ∙ rw stays refl

-- what holds with the entry and without it
pub either_more : (P : List Entry → Type 0) (flight : List (ℕ × ℕ)) (es : List Entry) (e : Entry) → P (free flight es) → P (free flight es ++ e ∷ []) →
    P (free flight (es ++ e ∷ []))
either_more P flight es e without with_it = go (is_flying flight e) refl
  where
    go : (t : Bool) → is_flying flight e ≡ t → P (free flight (es ++ e ∷ []))
    go true flies = subst P (sym (flying_more flight es e flies)) without
    go false stays = subst P (sym (free_more flight es e stays)) with_it

-- where nothing is in flight all are free
pub all_free : (es : List Entry) → free [] es ≡ es
all_free [] = refl
all_free (e ∷ es) = ap (λ (rest : List Entry). e ∷ rest) (all_free es)
