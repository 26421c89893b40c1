-- All lists over some elements, up to a length; what stands in a filtered list; and the elements of a list that have least and most of something.
use Rattle.std.proofs.Common.{◌≡◌, ◌≤◌, ℕ, zero, suc, Bool, true, false, List, [], ◌∷◌, map, filter, length, cond, refl, sym, ap, subst, ◌∙◌, inl, inr, arith}
use Rattle.std.specs.Prelude.{◌⊎◌, nat_le}
use Rattle.std.specs.List.{flat_map}
use Rattle.std.proofs.lemmas.Bool.{leb-true, leb-false}
use Rattle.laws_paths.proofs.Lists.{Distinct, Has, has_either, has_left, has_map, has_right, total, within}

-- ---- lists over these elements, at most so long

abbrev pub listed : {X : Type 0} → ℕ → List X → List (List X)
listed zero xs = [] ∷ []
listed (suc n) xs = [] ∷ flat_map (λ x. map (λ ys. x ∷ ys) (listed n xs)) xs

has_flat : {X Y : Type 0} (f : X → List Y) (xs : List X) (x : X) (a : Y) → Has xs x → Has (f x) a → Has (flat_map f xs) a
has_flat f [] x a h k = absurd h
has_flat f (y ∷ xs) x a (inl e) k = has_left (f y) (flat_map f xs) a (subst (λ z. Has (f z) a) (sym e) k)
has_flat f (y ∷ xs) x a (inr h) k = has_right (f y) (flat_map f xs) a (has_flat f xs x a h k)

pub all_are_listed : {X : Type 0} (n : ℕ) (xs ys : List X) → length ys ≤ n → ((y : X) → Has ys y → Has xs y) → Has (listed n xs) ys
all_are_listed zero xs [] short among = inl refl
all_are_listed zero xs (y ∷ ys) short among = absurd (omega (arith, short))
all_are_listed (suc n) xs [] short among = inl refl
all_are_listed {X} (suc n) xs (y ∷ ys) short among =
    inr (has_flat (λ (x : X). map (λ (zs : List X). x ∷ zs) (listed n xs)) xs y (y ∷ ys) (among y (inl refl))
    (has_map (λ (zs : List X). y ∷ zs) (listed n xs) ys (all_are_listed n xs ys (omega (arith, short)) (λ z h. among z (inr h)))))

has_from_flat : {X Y : Type 0} (f : X → List Y) (xs : List X) (a : Y) → Has (flat_map f xs) a → (x : X) × Has xs x × Has (f x) a
has_from_flat f [] a h = absurd h
has_from_flat {X} {Y} f (y ∷ xs) a h = go (has_either (f y) (flat_map f xs) a h) (has_from_flat f xs a)
  where
    go : Has (f y) a ⊎ Has (flat_map f xs) a → (Has (flat_map f xs) a → (x : X) × Has xs x × Has (f x) a) → (x : X) × Has (y ∷ xs) x × Has (f x) a
    go (inl k) rest = (y, inl refl, k)
    go (inr k) rest = let found = rest k in (found.0, inr found.1, found.2)

has_from_map : {X Y : Type 0} (f : X → Y) (xs : List X) (a : Y) → Has (map f xs) a → (x : X) × Has xs x × (f x ≡ a)
has_from_map f [] a h = absurd h
has_from_map f (x ∷ xs) a (inl e) = (x, inl refl, e)
has_from_map f (x ∷ xs) a (inr h) = let found = has_from_map f xs a h in (found.0, inr found.1, found.2)

-- what is listed has these elements alone
pub listed_are_among : {X : Type 0} (n : ℕ) (xs ys : List X) → Has (listed n xs) ys → (y : X) → Has ys y → Has xs y
listed_are_among zero xs ys (inl e) y k = absurd (subst (λ zs. Has zs y) (sym e) k)
listed_are_among zero xs ys (inr h) y k = absurd h
listed_are_among (suc n) xs ys (inl e) y k = absurd (subst (λ zs. Has zs y) (sym e) k)
listed_are_among {X} (suc n) xs ys (inr h) y k =
    let first = has_from_flat (λ (x : X). map (λ (zs : List X). x ∷ zs) (listed n xs)) xs ys h in
    let rest = has_from_map (λ (zs : List X). first.0 ∷ zs) (listed n xs) ys first.2 in
    go first.0 rest.0 first.1 (listed_are_among n xs rest.0 rest.1 y) (subst (λ zs. Has zs y) (sym rest.2) k)
  where
    go : (x : X) (zs : List X) → Has xs x → (Has zs y → Has xs y) → Has (x ∷ zs) y → Has xs y
    go x zs there more (inl e) = subst (Has xs) e there
    go x zs there more (inr m) = more m

-- ---- a list without repeats is no longer than one that has its elements

count_one : {X : Type 0} (xs : List X) → total (λ x. 1) xs ≡ length xs
count_one [] = refl
count_one (x ∷ xs) = omega (arith, count_one xs)

pub no_longer : {X : Type 0} (xs ys : List X) → Distinct xs → ((x : X) → Has xs x → Has ys x) → length xs ≤ length ys
no_longer xs ys once among = omega (arith, within (λ x. 1) xs ys once (λ a h some. among a h), count_one xs, count_one ys)

-- ---- what passed a test

pub passed : {X : Type 0} (test : X → Bool) (xs : List X) (a : X) → Has (filter test xs) a → (test a ≡ true) × Has xs a
passed test [] a h = absurd h
passed {X} test (x ∷ xs) a h = go (test x) refl (passed test xs a) h
  where
    go : (b : Bool) → test x ≡ b → (Has (filter test xs) a → (test a ≡ true) × Has xs a) → Has (cond b (x ∷ filter test xs) (filter test xs)) a
        → (test a ≡ true) × Has (x ∷ xs) a
    go true is rest (inl e) = (ap test (sym e) ∙ is, inl e)
    go true is rest (inr k) = let found = rest k in (found.0, inr found.1)
    go false is rest k = let found = rest k in (found.0, inr found.1)

-- ---- the least and the most

pub least : {X : Type 0} (f : X → ℕ) (x : X) (xs : List X) → (y : X) × Has (x ∷ xs) y × ((z : X) → Has (x ∷ xs) z → f y ≤ f z)
least {X} f x [] = (x, inl refl, only)
  where
    only : (z : X) → Has (x ∷ []) z → f x ≤ f z
    only z (inl e) = let same = ap f e in omega (arith, same)
    only z (inr h) = absurd h
least {X} f x (w ∷ xs) = go (least f w xs)
  where
    choose : (y : X) → Has (w ∷ xs) y → ((z : X) → Has (w ∷ xs) z → f y ≤ f z) → (b : Bool) → nat_le (f x) (f y) ≡ b
        → (y : X) × Has (x ∷ w ∷ xs) y × ((z : X) → Has (x ∷ w ∷ xs) z → f y ≤ f z)
    choose y there low true is = (x, inl refl, λ z h. first z h)
      where
        first : (z : X) → Has (x ∷ w ∷ xs) z → f x ≤ f z
        first z (inl e) = let same = ap f e in omega (arith, same)
        first z (inr h) = omega (arith, leb-true _ _ is, low z h)
    choose y there low false is = (y, inr there, λ z h. other z h)
      where
        other : (z : X) → Has (x ∷ w ∷ xs) z → f y ≤ f z
        other z (inl e) = let same = ap f e in omega (arith, leb-false _ _ is, same)
        other z (inr h) = low z h

    go : (y : X) × Has (w ∷ xs) y × ((z : X) → Has (w ∷ xs) z → f y ≤ f z) → (y : X) × Has (x ∷ w ∷ xs) y × ((z : X) → Has (x ∷ w ∷ xs) z → f y ≤ f z)
    go found = choose found.0 found.1 found.2 (nat_le (f x) (f found.0)) refl

pub most : {X : Type 0} (f : X → ℕ) (x : X) (xs : List X) → (y : X) × Has (x ∷ xs) y × ((z : X) → Has (x ∷ xs) z → f z ≤ f y)
most {X} f x [] = (x, inl refl, only)
  where
    only : (z : X) → Has (x ∷ []) z → f z ≤ f x
    only z (inl e) = let same = ap f e in omega (arith, same)
    only z (inr h) = absurd h
most {X} f x (w ∷ xs) = go (most f w xs)
  where
    choose : (y : X) → Has (w ∷ xs) y → ((z : X) → Has (w ∷ xs) z → f z ≤ f y) → (b : Bool) → nat_le (f y) (f x) ≡ b
        → (y : X) × Has (x ∷ w ∷ xs) y × ((z : X) → Has (x ∷ w ∷ xs) z → f z ≤ f y)
    choose y there high true is = (x, inl refl, λ z h. first z h)
      where
        first : (z : X) → Has (x ∷ w ∷ xs) z → f z ≤ f x
        first z (inl e) = let same = ap f e in omega (arith, same)
        first z (inr h) = omega (arith, leb-true _ _ is, high z h)
    choose y there high false is = (y, inr there, λ z h. other z h)
      where
        other : (z : X) → Has (x ∷ w ∷ xs) z → f z ≤ f y
        other z (inl e) = let same = ap f e in omega (arith, leb-false _ _ is, same)
        other z (inr h) = high z h

    go : (y : X) × Has (w ∷ xs) y × ((z : X) → Has (w ∷ xs) z → f z ≤ f y) → (y : X) × Has (x ∷ w ∷ xs) y × ((z : X) → Has (x ∷ w ∷ xs) z → f z ≤ f y)
    go found = choose found.0 found.1 found.2 (nat_le (f found.0) (f x)) refl
