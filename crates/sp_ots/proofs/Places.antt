-- A list that is filled from its first place on, each place by a function of its number.
use Rattle.std.proofs.Common.{◌≡◌, ℕ, zero, suc, ◌+◌, ◌-◌, ◌<◌, ◌≤◌, List, ◌∷◌, ◌++◌, length, take, drop, map, set, get_or, refl, sym, ◌∙◌, ap, arith}
use Rattle.std.specs.List.{range_with_len}
use Rattle.std.proofs.lemmas.List.{take_more_set, take_all, drop-set-lt, get_or-append_right, get_or-drop, get_or-take, length-take-le}
use Rattle.std.proofs.lemmas.List.FromFn.{length-map-range_with_len, map-range_with_len_more, take-map-range_with_len}
use Rattle.std.proofs.lemmas.Slice.{take-put_mid}
use borrow.Rule.Slice.PartMut.{put_mid}
use Rattle.std.proofs.lemmas.Grind.{drop_more_same}

-- one more place is filled
pub filled_more : {X : Type 0} (f : ℕ → X) (xs : List X) (i : ℕ) (x : X) → i < length xs → take i xs ≡ map f (range_with_len 0 i) → x ≡ f i
    → take (i + 1) (set xs i x) ≡ map f (range_with_len 0 (i + 1))
filled_more f xs i x within before here =
    take_more_set xs i x within ∙ rw (before, here) (sym (map-range_with_len_more f 0 i i (omega arith)))

-- every place is filled
pub filled_all : {X : Type 0} (f : ℕ → X) (xs : List X) (i n : ℕ) → length xs ≡ n → n ≤ i → i ≤ n → take i xs ≡ map f (range_with_len 0 i)
    → xs ≡ map f (range_with_len 0 n)
filled_all f xs i n long high low before =
    let e : i ≡ n = omega arith in
    sym (take_all i xs (omega arith)) ∙ before ∙ ap (λ (k : ℕ). map f (range_with_len 0 k)) e

-- the places after stay
pub rest_more : {X : Type 0} (was xs : List X) (i : ℕ) (x : X) → drop i xs ≡ drop i was → drop (i + 1) (set xs i x) ≡ drop (i + 1) was
rest_more was xs i x before = drop-set-lt (i + 1) xs i x (omega arith) ∙ drop_more_same xs was i before

-- the first place after is as it was
pub rest_first : {X : Type 0} (was xs : List X) (i : ℕ) (d : X) → drop i xs ≡ drop i was → get_or xs i d ≡ get_or was i d
rest_first {X = X} was xs i d before =
    let place : i + 0 ≡ i = omega arith in
    ap (λ (k : ℕ). get_or xs k d) (sym place) ∙ sym (get_or-drop i xs 0 d) ∙ ap (λ (ys : List X). get_or ys 0 d) before
    ∙ get_or-drop i was 0 d ∙ ap (λ (k : ℕ). get_or was k d) place

-- the values of f at n numbers, and at those after them
in_two : {X : Type 0} (f : ℕ → X) (a n k b m : ℕ) → a + n ≡ b → n + k ≡ m
    → map f (range_with_len a m) ≡ map f (range_with_len a n) ++ map f (range_with_len b k)
in_two f a zero k b m start all =
    let same : a ≡ b = omega arith in
    let count : m ≡ k = omega arith in
    rw (count, same) refl
in_two {X = X} f a (suc n) k b m start all =
    let more : m ≡ suc (n + k) = omega arith in
    rw more (ap (λ (xs : List X). f a ∷ xs) (in_two f (a + 1) n k b (n + k) (omega arith) refl))

-- the places from a to b are filled with the first of m values
pub group_filled : {X : Type 0} (f : ℕ → X) (xs ys : List X) (a b m : ℕ) → a ≤ b → b ≤ length xs → b ≤ a + m → take a xs ≡ map f (range_with_len 0 a)
    → ys ≡ take (b - a) (map f (range_with_len a m)) → take b (put_mid a (b - a) xs ys) ≡ map f (range_with_len 0 b)
group_filled f xs ys a b m order within most before values =
    let made : ys ≡ map f (range_with_len a (b - a)) = values ∙ take-map-range_with_len f a m (b - a) (omega arith) in
    let count : length ys ≡ b - a = ap length made ∙ length-map-range_with_len f a (b - a) in
    take-put_mid a (b - a) xs ys b (omega arith) (omega arith) ∙ rw (before, made) (sym (in_two f 0 a (b - a) a b (omega arith) (omega arith)))

-- what is written over the places from a on
pub put_within : {X : Type 0} (a k : ℕ) (xs ys : List X) (i : ℕ) (d : X) → a ≤ length xs → i < length ys → get_or (put_mid a k xs ys) (a + i) d ≡ get_or ys i d
put_within {X = X} a k xs ys i d within inside =
    let place : a + i - a ≡ i = omega arith in
    sym (get_or-take (a + length ys) (put_mid a k xs ys) (a + i) d (omega arith))
    ∙ ap (λ (zs : List X). get_or zs (a + i) d) (take-put_mid a k xs ys (a + length ys) refl within)
    ∙ get_or-append_right (take a xs) ys a (a + i) d (length-take-le a xs within) (omega arith) ∙ ap (λ (n : ℕ). get_or ys n d) place
