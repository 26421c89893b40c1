-- Sums over lists, and what stands in them.
use Rattle.std.proofs.Common.{◌≡◌, ◌<◌, ◌≤◌, ◌+◌, ℕ, zero, suc, Bool, true, false, List, [], ◌∷◌, ◌++◌, map, length, All, AllPairs, Contains, sum_by, refl, sym}
use Rattle.std.proofs.Common.{ap, subst, ◌∙◌, inl, inr, arith}
use Rattle.std.specs.Prelude.{◌⊎◌, ◌||◌, ◌≢◌, slice_index_or}
use Rattle.std.specs.List.{list_any}
use Rattle.std.proofs.lemmas.List.Sums.{sum_by-cons}

abbrev pub total : {X : Type 0} → (X → ℕ) → List X → ℕ
total f [] = 0
total f (x ∷ xs) = f x + total f xs

abbrev pub Has : {X : Type 0} → List X → X → Type 0
Has [] x = ⊥
Has (y ∷ ys) x = (y ≡ x) ⊎ Has ys x

abbrev pub Distinct : {X : Type 0} → List X → Type 0
Distinct [] = Unit {0}
Distinct (x ∷ xs) = (Has xs x → ⊥) × Distinct xs

-- the sum of a list is its total
pub total_is : {X : Type 0} (f : X → ℕ) (xs : List X) → sum_by f xs ≡ total f xs
total_is f [] = refl
total_is f (x ∷ xs) = sum_by-cons f x xs ∙ ap (λ (n : ℕ). f x + n) (total_is f xs)

pub total_append : {X : Type 0} (f : X → ℕ) (xs ys : List X) → total f (xs ++ ys) ≡ total f xs + total f ys
total_append f [] ys = omega arith
total_append f (x ∷ xs) ys = omega (arith, total_append f xs ys)

-- the total of a mapped list is that of the two functions in turn
pub total_map : {X Y : Type 0} (f : Y → ℕ) (h : X → Y) (xs : List X) → total f (map h xs) ≡ total (λ x. f (h x)) xs
total_map f h [] = refl
total_map f h (x ∷ xs) = ap (λ (n : ℕ). f (h x) + n) (total_map f h xs)

-- what the first list has, both together have
pub has_left : {X : Type 0} (xs ys : List X) (a : X) → Has xs a → Has (xs ++ ys) a
has_left [] ys a h = absurd h
has_left (x ∷ xs) ys a (inl e) = inl e
has_left (x ∷ xs) ys a (inr h) = inr (has_left xs ys a h)

-- what the second list has, both together have
pub has_right : {X : Type 0} (xs ys : List X) (a : X) → Has ys a → Has (xs ++ ys) a
has_right [] ys a h = h
has_right (x ∷ xs) ys a h = inr (has_right xs ys a h)

-- what two lists have together one of them has
pub has_either : {X : Type 0} (xs ys : List X) (a : X) → Has (xs ++ ys) a → Has xs a ⊎ Has ys a
has_either [] ys a h = inr h
has_either (x ∷ xs) ys a (inl e) = inl (inl e)
has_either (x ∷ xs) ys a (inr h) = more (has_either xs ys a h)
  where
    more : Has xs a ⊎ Has ys a → Has (x ∷ xs) a ⊎ Has ys a
    more (inl k) = inl (inr k)
    more (inr k) = inr k

-- what a list has is mapped in the mapped one
pub has_map : {X Y : Type 0} (h : X → Y) (xs : List X) (a : X) → Has xs a → Has (map h xs) (h a)
has_map h [] a k = absurd k
has_map h (x ∷ xs) a (inl e) = inl (ap h e)
has_map h (x ∷ xs) a (inr k) = inr (has_map h xs a k)

-- what a list contains it has
pub has : {X : Type 0} (xs : List X) (a : X) → Contains xs a → Has xs a
has xs a c = at xs c.0 c.1 c.2
  where
    at : (ys : List _) (k : ℕ) → k < length ys → slice_index_or ys k a ≡ a → Has ys a
    at [] k inside e = absurd (omega (arith, inside))
    at (y ∷ ys) zero inside e = inl e
    at (y ∷ ys) (suc k) inside e = inr (at ys k (omega (arith, inside)) e)

-- what a list has it contains
pub contains : {X : Type 0} (xs : List X) (a : X) → Has xs a → Contains xs a
contains [] a h = absurd h
contains (x ∷ xs) a (inl e) = (0, omega arith, e)
contains (x ∷ xs) a (inr h) = let at = contains xs a h in (suc at.0, omega (arith, at.1), at.2)

-- what holds of all of a list holds of each that it has
pub held : {X : Type 0} (P : X → Type 0) (xs : List X) (a : X) → All P xs → Has xs a → P a
held P xs a all h = let at = contains xs a h in subst P at.2 (all at.0 a at.1)

-- a list in which each two differ has nothing twice
pub distinct : {X : Type 0} (xs : List X) → AllPairs (λ x y. x ≢ y) xs → Distinct xs
distinct [] pairs = tt
distinct (x ∷ xs) pairs = (
  λ h. let at = contains xs x h in pairs 0 (suc at.0) x (omega arith) (omega (arith, at.1)) (sym at.2),
  distinct xs (λ i j d less inside. pairs (suc i) (suc j) d (omega (arith, less)) (omega (arith, inside))),
)

-- two lists that have nothing twice, and nothing in common, have nothing twice together
pub distinct_append : {X : Type 0} (xs ys : List X) → Distinct xs → Distinct ys → ((a : X) → Has xs a → Has ys a → ⊥) → Distinct (xs ++ ys)
distinct_append [] ys one other apart = other
distinct_append (x ∷ xs) ys one other apart = (λ h. first (has_either xs ys x h), distinct_append xs ys one.1 other (λ a k. apart a (inr k)))
  where
    first : Has xs x ⊎ Has ys x → ⊥
    first (inl h) = one.0 h
    first (inr h) = apart x (inl refl) h

-- what stands before the last element is another one
pub not_last : {X : Type 0} (xs : List X) (z a : X) → Distinct (xs ++ z ∷ []) → Has xs a → a ≡ z → ⊥
not_last [] z a once h e = absurd h
not_last (x ∷ xs) z a once (inl f) e = once.0 (has_right xs (z ∷ []) x (inl (sym e ∙ sym f)))
not_last (x ∷ xs) z a once (inr h) e = not_last xs z a once.1 h e

pub without : {X : Type 0} (xs : List X) (a : X) → Has xs a → List X
without [] a h = absurd h
without (x ∷ xs) a (inl e) = xs
without (x ∷ xs) a (inr h) = x ∷ without xs a h

total_without : {X : Type 0} (f : X → ℕ) (xs : List X) (a : X) (h : Has xs a) → total f xs ≡ f a + total f (without xs a h)
unfolding without
total_without f [] a h = absurd h
total_without f (x ∷ xs) a (inl e) = ap (λ y. f y + total f xs) e
total_without f (x ∷ xs) a (inr h) = omega (arith, total_without f xs a h)

has_without : {X : Type 0} (xs : List X) (a b : X) (h : Has xs a) → Has xs b → (a ≡ b → ⊥) → Has (without xs a h) b
unfolding without
has_without [] a b h k apart = absurd h
has_without (x ∷ xs) a b (inl e) (inl f) apart = absurd (apart (sym e ∙ f))
has_without (x ∷ xs) a b (inl e) (inr k) apart = k
has_without (x ∷ xs) a b (inr h) (inl f) apart = inl f
has_without (x ∷ xs) a b (inr h) (inr k) apart = inr (has_without xs a b h k apart)

-- a list without repeats sums to no more than one that has all of it that counts
pub within : {X : Type 0} (f : X → ℕ) (us vs : List X) → Distinct us → ((a : X) → Has us a → 0 < f a → Has vs a) → total f us ≤ total f vs
within f [] vs once there = omega arith
within {X} f (u ∷ us) vs once there = go (f u) refl (λ ws more. within f us ws once.1 more)
  where
    go : (n : ℕ) → f u ≡ n → ((ws : List X) → ((a : X) → Has us a → 0 < f a → Has ws a) → total f us ≤ total f ws) → f u + total f us ≤ total f vs
    go zero none rest = omega (arith, none, rest vs (λ a h. there a (inr h)))
    go (suc n) some rest =
        let h : Has vs u = there u (inl refl) (omega (arith, some)) in
        let left = total_without f vs u h in
        let more = rest (without vs u h) (λ a k counts. has_without vs u a h (there a (inr k) counts) (λ e. once.0 (subst (Has us) (sym e) k))) in
        omega (arith, left, more)

-- where one of two is so, the first is or the second is
pub either_true : (a b : Bool) → (a || b) ≡ true → (a ≡ true) ⊎ (b ≡ true)
either_true true b e = inl refl
either_true false b e = inr e

-- where some item passes, there is one that does
pub any_has : {X : Type 0} (test : X → Bool) (xs : List X) → list_any test xs ≡ true → (x : X) × Has xs x × (test x ≡ true)
any_has test [] e = absurd cc
any_has {X} test (x ∷ xs) e = go (either_true (test x) (list_any test xs) e) (any_has test xs)
  where
    go : (test x ≡ true) ⊎ (list_any test xs ≡ true) → (list_any test xs ≡ true → (y : X) × Has xs y × (test y ≡ true))
        → (y : X) × Has (x ∷ xs) y × (test y ≡ true)
    go (inl f) rest = (x, inl refl, f)
    go (inr f) rest = let found = rest f in (found.0, inr found.1, found.2)

-- one of two is so where the second is
pub or_true : (a b : Bool) → b ≡ true → (a || b) ≡ true
or_true true b e = refl
or_true false b e = e

-- one of two is so where the first is
pub or_first : (a b : Bool) → a ≡ true → (a || b) ≡ true
or_first true b e = refl
or_first false b e = absurd cc

-- where an item passes, some item does
pub has_any : {X : Type 0} (test : X → Bool) (xs : List X) (x : X) → Has xs x → test x ≡ true → list_any test xs ≡ true
has_any test [] x h e = absurd h
has_any test (y ∷ xs) x (inl f) e = let is : test y ≡ true = ap test f ∙ e in rw is refl
has_any test (y ∷ xs) x (inr h) e = or_true (test y) (list_any test xs) (has_any test xs x h e)
