-- Ids rise, so that an entry is found and left out by its id.
use Rattle.std.proofs.Common.{◌≡◌, ◌<◌, ℕ, zero, suc, Bool, true, false, List, [], ◌∷◌, length, get_or, Option, Some, None, refl, ap, subst, arith, cond, find}
use Rattle.std.proofs.Common.{nat_lt}
use Rattle.std.specs.Prelude.{◌==◌, Contains, filter, slice_get}
use Rattle.std.specs.Option.{option_and_then}
use Rattle.std.proofs.lemmas.Bool.Decides.{nat_tests}
use Rattle.std.proofs.lemmas.List.Elements.{All-contains, All-contains_itself, All-filter}
use Rattle.sp_rules.proofs.ChoiceLemmas.{first_is_there}
use Rattle.sp_rules.specs.Choices.{less_first}
use Rattle.sp_rules.specs.Store.{fullest, has_id, is_of, lowest, priority, victim}
use Rattle.sp_rules.specs.declared.store.Entry.{Entry}
use Rattle.sp_store.specs.Places.{Rises}

above : (low : ℕ) (es : List Entry) (i : ℕ) (d : Entry) → Rises low es → i < length es → low < (get_or es i d).id
above low [] i d rises inside = absurd (omega arith)
above low (e ∷ es) zero d rises inside = rises.0
above low (e ∷ es) (suc i) d rises inside = omega (arith, rises.0, above e.id es i d rises.1 (omega arith))

at_place : (low : ℕ) (es : List Entry) (i : ℕ) (v : Entry) → Rises low es → i < length es → get_or es i v ≡ v → find (has_id v.id) es ≡ Some v
at_place low [] i v rises inside is = absurd (omega arith)
at_place low (e ∷ es) zero v rises inside is =
    let same : (e.id == v.id) ≡ true = rw is (grind (arith, nat_tests)) in
    rw same (ap (λ (x : Entry). Some x) is)
at_place low (e ∷ es) (suc i) v rises inside is =
    let later : e.id < v.id = subst (λ (x : Entry). e.id < x.id) is (above e.id es i v rises.1 (omega arith)) in
    let apart : (e.id == v.id) ≡ false = grind (arith, nat_tests) in
    rw apart (at_place e.id es i v rises.1 (omega arith) is)

-- what is there is found by its id
pub there_by_id : (es : List Entry) (e : Entry) → Rises 0 es → Contains es e → find (has_id e.id) es ≡ Some e
there_by_id es e rises there = at_place 0 es there.0 e rises there.1 there.2

-- the first that passes is found by its id, and left out by it
pub first_by_id : (test : Entry → Bool) (low : ℕ) (es : List Entry) (v : Entry) → Rises low es → find test es ≡ Some v →
    (low < v.id) × (find (has_id v.id) es ≡ Some v) × (less_first (has_id v.id) es ≡ less_first test es)
first_by_id test low [] v rises found = absurd (cc)
first_by_id test low (e ∷ es) v rises found = go (test e) found (λ rest. first_by_id test e.id es v rises.1 rest)
  where
    go : (t : Bool) → cond t (Some e) (find test es) ≡ Some v →
        (find test es ≡ Some v → (e.id < v.id) × (find (has_id v.id) es ≡ Some v) × (less_first (has_id v.id) es ≡ less_first test es)) →
        (low < v.id) × (cond (e.id == v.id) (Some e) (find (has_id v.id) es) ≡ Some v)
        × (cond (e.id == v.id) es (e ∷ less_first (has_id v.id) es) ≡ cond t es (e ∷ less_first test es))
    go true found rest =
        let is : e ≡ v = cc in
        let same : (e.id == v.id) ≡ true = grind (arith, nat_tests, ap (λ (x : Entry). x.id) is) in
        (subst (λ (x : Entry). low < x.id) is rises.0, rw same found, rw same refl)
    go false found rest =
        let later = rest found in
        let apart : (e.id == v.id) ≡ false = grind (arith, nat_tests, later.0) in
        (omega (arith, rises.0, later.0), rw apart later.1, rw apart (ap (λ (ys : List Entry). e ∷ ys) later.2))

-- the victim is there
pub victim_there : (es : List Entry) (v : Entry) → victim es ≡ Some v → Contains es v
victim_there es v is = go (fullest es) is
  where
    go : (f : Option ℕ) → option_and_then (lowest es) f ≡ Some v → Contains es v
    go None is = absurd (cc)
    go (Some src) is =
        All-contains (Contains es) (filter (is_of src) es) v (All-filter (is_of src) (Contains es) es (All-contains_itself es))
        (first_is_there (λ (a : Entry) (b : Entry). nat_lt (priority a) (priority b)) (filter (is_of src) es) v is)

pub oldest_by_id : (es : List Entry) (v : Entry) → slice_get es 0 ≡ Some v → find (has_id v.id) es ≡ Some v
oldest_by_id [] v at = absurd (cc)
oldest_by_id (e ∷ es) v at =
    let is : e ≡ v = cc in
    let same : (e.id == v.id) ≡ true = grind (arith, nat_tests, ap (λ (x : Entry). x.id) is) in
    rw same at
