-- Filters and searches over the numbers of a range, and the first row of a port in a table.
use Rattle.std.proofs.Common.{◌≡◌, ◌<◌, ◌≤◌, ℕ, zero, suc, ◌+◌, Bool, true, false, ◌==◌, cond, inl, inr, List, [], ◌∷◌, length, Option, Some, None, refl, sym}
use Rattle.std.proofs.Common.{ap, arith}
use Rattle.std.specs.Prelude.{filter, find}
use Rattle.std.specs.List.{range_with_len}
use Rattle.std.proofs.lemmas.Bool.{cases_Bool, eqb-true}
use Rattle.std.proofs.lemmas.Bool.Decides.{nat_tests}

-- ---- tests that agree

pub filter_same : (f g : ℕ → Bool) → ((x : ℕ) → f x ≡ g x) → (xs : List ℕ) → filter f xs ≡ filter g xs
filter_same f g same [] = refl
filter_same f g same (x ∷ xs) = rw (same x) (ap (λ (rest : List ℕ). cond (g x) (x ∷ rest) rest) (filter_same f g same xs))

pub find_same : (f g : ℕ → Bool) → ((x : ℕ) → f x ≡ g x) → (xs : List ℕ) → find f xs ≡ find g xs
find_same f g same [] = refl
find_same f g same (x ∷ xs) = rw (same x) (ap (λ (rest : Option ℕ). cond (g x) (Some x) rest) (find_same f g same xs))

-- ---- a test that passes one number more

-- the second test passes what the first does, and this number
pub record PassesMore (f g : ℕ → Bool) (p : ℕ) : Type 0 where
  pub before : f p ≡ false
  pub now : g p ≡ true
  pub others : (q : ℕ) → (q ≡ p → ⊥) → g q ≡ f q

-- past the number nothing differs
none_more : (f g : ℕ → Bool) (p a n : ℕ) → PassesMore f g p → p < a → filter g (range_with_len a n) ≡ filter f (range_with_len a n)
none_more f g p a zero more past = refl
none_more f g p a (suc n) more past =
    rw (more.others a (λ same. omega arith)) (ap (λ (rest : List ℕ). cond (f a) (a ∷ rest) rest) (none_more f g p (a + 1) n more (omega arith)))

pub one_more : (f g : ℕ → Bool) (p a n : ℕ) → PassesMore f g p → a ≤ p → p < a + n
    → length (filter g (range_with_len a n)) ≡ length (filter f (range_with_len a n)) + 1
one_more f g p a zero more low high = absurd (omega arith)
one_more f g p a (suc n) more low high = elim (cases_Bool (a == p)) [
  | inl here ↦
      let same : a ≡ p = eqb-true a p here in
      let was : f a ≡ false = rw same more.before in
      let is : g a ≡ true = rw same more.now in
      rw (was, is, none_more f g p (a + 1) n more (omega arith)) (omega arith)
  | inr later ↦
      let apart : a ≡ p → ⊥ = λ same. grind (arith, nat_tests) in
      let rest = one_more f g p (a + 1) n more (omega (arith, (let d : a ≡ p → ⊥ = apart in le_step a p low d))) (omega arith) in
      rw (more.others a apart) (step (f a) a _ _ rest)
]
  where
    le_step : (a p : ℕ) → a ≤ p → (a ≡ p → ⊥) → a + 1 ≤ p
    le_step a p low apart = grind arith

    step : (t : Bool) (x : ℕ) (xs ys : List ℕ) → length xs ≡ length ys + 1 → length (cond t (x ∷ xs) xs) ≡ length (cond t (x ∷ ys) ys) + 1
    step true x xs ys e = omega (arith, e)
    step false x xs ys e = e

-- ---- a test that passes one number

abbrev pub is_holder : Option ℕ → ℕ → Bool
is_holder None q = false
is_holder (Some p) q = p == q

pub find_nobody : (xs : List ℕ) → find (is_holder None) xs ≡ None
find_nobody [] = refl
find_nobody (x ∷ xs) = find_nobody xs

pub find_holder : (p a n : ℕ) → a ≤ p → p < a + n → find (is_holder (Some p)) (range_with_len a n) ≡ Some p
find_holder p a zero low high = absurd (omega arith)
find_holder p a (suc n) low high = elim (cases_Bool (p == a)) [
  | inl here ↦ rw here (ap (λ (x : ℕ). Some x) (sym (eqb-true p a here)))
  | inr later ↦ rw later (find_holder p (a + 1) n (grind (arith, nat_tests)) (omega arith))
]
