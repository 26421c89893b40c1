-- Marks as ascending lists: which numbers a list has after a mark, and which is the greatest.
use Rattle.std.proofs.Common.{◌≡◌, ◌≤◌, ◌<◌, ℕ, ◌+◌, Bool, true, false, List, [], ◌∷◌, max, refl, sym, ap, ◌∙◌, arith, cond, nat_lt, nat_le}
use Rattle.std.specs.Prelude.{◌==◌, ◌&&◌, ◌||◌, filter, not}
use Rattle.std.proofs.lemmas.Bool.Decides.{nat_tests}
use Rattle.sp_rules.specs.Window.{greatest, is_in, is_past, put_in, with_mark}
use Rattle.sp_rules.specs.declared.window.TheConstants.{WINDOW}

-- ---- which numbers are in

in_more : (t : Bool) (y x : ℕ) (ys : List ℕ) → is_in x (cond t (y ∷ ys) ys) ≡ ((t && (y == x)) || is_in x ys)
in_more true y x ys = refl
in_more false y x ys = refl

-- of a list those that pass
pub in_filter : (p : ℕ → Bool) (ys : List ℕ) (x : ℕ) → is_in x (filter p ys) ≡ (p x && is_in x ys)
in_filter p [] x = none (p x)
  where
    none : (t : Bool) → false ≡ (t && false)
    none true = refl
    none false = refl
in_filter p (y ∷ ys) x = in_more (p y) y x (filter p ys) ∙ go (y == x) refl (in_filter p ys x)
  where
    here : (t b : Bool) → ((t && true) || (t && b)) ≡ (t && true)
    here true b = refl
    here false b = refl

    there : (t b : Bool) → ((t && false) || b) ≡ b
    there true b = refl
    there false b = refl

    go : (t : Bool) → (y == x) ≡ t → is_in x (filter p ys) ≡ (p x && is_in x ys)
        → ((p y && (y == x)) || is_in x (filter p ys)) ≡ (p x && ((y == x) || is_in x ys))
    go true is rest =
        let same : y ≡ x = grind (arith, nat_tests) in
        rw (is, rest, same) (here (p x) (is_in x ys))
    go false is rest = rw is (there (p y) (is_in x (filter p ys)) ∙ rest)

-- a list and one number more
pub in_put : (q : ℕ) (ms : List ℕ) (x : ℕ) → is_in x (put_in q ms) ≡ ((q == x) || is_in x ms)
in_put q [] x = refl
in_put q (m ∷ ms) x = go (nat_lt q m) (m == q) refl refl (in_put q ms x)
  where
    twice : (t b : Bool) → (t || b) ≡ (t || (t || b))
    twice true b = refl
    twice false b = refl

    turned : (a b c : Bool) → (a || (b || c)) ≡ (b || (a || c))
    turned true true c = refl
    turned true false c = refl
    turned false true c = refl
    turned false false c = refl

    go : (a b : Bool) → nat_lt q m ≡ a → (m == q) ≡ b → is_in x (put_in q ms) ≡ ((q == x) || is_in x ms)
        → is_in x (cond a (q ∷ m ∷ ms) (cond b (m ∷ ms) (m ∷ put_in q ms))) ≡ ((q == x) || ((m == x) || is_in x ms))
    go true b less same rest = refl
    go false true less same rest =
        let is : m ≡ q = grind (arith, nat_tests) in
        rw is (twice (q == x) (is_in x ms))
    go false false less same rest = ap (λ (t : Bool). (m == x) || t) rest ∙ turned (m == x) (q == x) (is_in x ms)

-- a window and one mark more
pub in_mark : (ms : List ℕ) (q x : ℕ) → is_in x (with_mark ms q) ≡ (not (is_past (max q (greatest ms)) x) && ((q == x) || is_in x ms))
in_mark ms q x =
    in_filter (λ n. not (is_past (max q (greatest ms)) n)) (put_in q ms) x
    ∙ ap (λ (t : Bool). not (is_past (max q (greatest ms)) x) && t) (in_put q ms x)

-- ---- which is the greatest

at_most : (m n : ℕ) → nat_le m n ≡ true → m ≤ n
at_most m n e = grind (arith, nat_tests)

not_at_most : (m n : ℕ) → nat_le m n ≡ false → n < m
not_at_most m n e = grind (arith, nat_tests)

fewer_below : (p : ℕ → Bool) (ys : List ℕ) → greatest (filter p ys) ≤ greatest ys
fewer_below p [] = omega arith
fewer_below p (y ∷ ys) = go (p y) (fewer_below p ys)
  where
    go : (t : Bool) → greatest (filter p ys) ≤ greatest ys → greatest (cond t (y ∷ filter p ys) (filter p ys)) ≤ max y (greatest ys)
    go true rest = omega (arith, rest)
    go false rest = omega (arith, rest)

-- it stays where it passes
greatest_stays : (p : ℕ → Bool) (ys : List ℕ) → p (greatest ys) ≡ true → greatest (filter p ys) ≡ greatest ys
greatest_stays p [] passes = refl
greatest_stays p (y ∷ ys) passes = go (nat_le (greatest ys) y) refl (greatest_stays p ys)
  where
    either : (t : Bool) → y < greatest ys → greatest (filter p ys) ≡ greatest ys → greatest (cond t (y ∷ filter p ys) (filter p ys)) ≡ max y (greatest ys)
    either true below rest = omega (arith, below, rest)
    either false below rest = omega (arith, below, rest)

    go : (t : Bool) → nat_le (greatest ys) y ≡ t → (p (greatest ys) ≡ true → greatest (filter p ys) ≡ greatest ys)
        → greatest (cond (p y) (y ∷ filter p ys) (filter p ys)) ≡ max y (greatest ys)
    go true is rest =
        let first : max y (greatest ys) ≡ y = omega (arith, at_most (greatest ys) y is) in
        let here : p y ≡ true = ap p (sym first) ∙ passes in
        let fewer = fewer_below p ys in
        rw here (omega (arith, fewer, at_most (greatest ys) y is))
    go false is rest =
        let below = not_at_most (greatest ys) y is in
        let later : max y (greatest ys) ≡ greatest ys = omega (arith, below) in
        either (p y) below (rest (ap p (sym later) ∙ passes))

greatest_put : (q : ℕ) (ms : List ℕ) → greatest (put_in q ms) ≡ max q (greatest ms)
greatest_put q [] = omega arith
greatest_put q (m ∷ ms) = go (nat_lt q m) (m == q) refl refl (greatest_put q ms)
  where
    go : (a b : Bool) → nat_lt q m ≡ a → (m == q) ≡ b → greatest (put_in q ms) ≡ max q (greatest ms)
        → greatest (cond a (q ∷ m ∷ ms) (cond b (m ∷ ms) (m ∷ put_in q ms))) ≡ max q (max m (greatest ms))
    go true b less same rest = refl
    go false true less same rest = let is : m ≡ q = grind (arith, nat_tests) in omega (arith, is)
    go false false less same rest = omega (arith, rest)

-- the greatest mark after one more is the greater of both
pub greatest_mark : (ms : List ℕ) (q : ℕ) → greatest (with_mark ms q) ≡ max q (greatest ms)
greatest_mark ms q =
    let top = max q (greatest ms) in
    let near : nat_le (top + WINDOW) top ≡ false = grind (arith, nat_tests) in
    let stays : not (is_past top (greatest (put_in q ms))) ≡ true = ap (λ (n : ℕ). not (is_past top n)) (greatest_put q ms) ∙ ap not near in
    greatest_stays (λ n. not (is_past top n)) (put_in q ms) stays ∙ greatest_put q ms

-- ---- ascending lists

-- each number is below all after it
abbrev pub Ascends : List ℕ → Type 0
Ascends [] = Unit {0}
Ascends (x ∷ xs) = ((y : ℕ) → is_in y xs ≡ true → x < y) × Ascends xs

-- what is left of an ascending list ascends
pub filter_ascends : (p : ℕ → Bool) (xs : List ℕ) → Ascends xs → Ascends (filter p xs)
filter_ascends p [] up = tt
filter_ascends p (x ∷ xs) up = go (p x) (filter_ascends p xs up.1)
  where
    passed : (y : ℕ) → is_in y (filter p xs) ≡ true → is_in y xs ≡ true
    passed y is = both (p y) (is_in y xs) (sym (in_filter p xs y) ∙ is)
      where
        both : (a b : Bool) → (a && b) ≡ true → b ≡ true
        both true b e = e
        both false b e = absurd (cc)

    go : (t : Bool) → Ascends (filter p xs) → Ascends (cond t (x ∷ filter p xs) (filter p xs))
    go true rest = (λ y is. up.0 y (passed y is), rest)
    go false rest = rest

-- an ascending list does so with one more number put in its place
pub put_ascends : (q : ℕ) (ms : List ℕ) → Ascends ms → Ascends (put_in q ms)
put_ascends q [] up = (λ y is. absurd (cc), tt)
put_ascends q (m ∷ ms) up = go (nat_lt q m) (m == q) refl refl (put_ascends q ms up.1)
  where
    after : (y : ℕ) → q < m → (t : Bool) → (m == y) ≡ t → (t || is_in y ms) ≡ true → q < y
    after y less true is e = grind (arith, nat_tests)
    after y less false is e = let more = up.0 y e in omega (arith, less, more)

    among : (y : ℕ) → m < q → (t : Bool) → (q == y) ≡ t → (t || is_in y ms) ≡ true → m < y
    among y less true is e = grind (arith, nat_tests)
    among y less false is e = up.0 y e

    go : (a b : Bool) → nat_lt q m ≡ a → (m == q) ≡ b → Ascends (put_in q ms) → Ascends (cond a (q ∷ m ∷ ms) (cond b (m ∷ ms) (m ∷ put_in q ms)))
    go true b less same rest = (λ y is. after y (grind (arith, nat_tests)) (m == y) refl is, up)
    go false true less same rest = up
    go false false less same rest =
        let below : m < q = grind (arith, nat_tests) in
        (λ y is. among y below (q == y) refl (sym (in_put q ms y) ∙ is), rest)

-- two ascending lists with the same numbers are one
pub same_numbers : (xs ys : List ℕ) → Ascends xs → Ascends ys → ((n : ℕ) → is_in n xs ≡ is_in n ys) → xs ≡ ys
same_numbers [] [] up also same = refl
same_numbers [] (y ∷ ys) up also same =
    let is : (y == y) ≡ true = grind (arith, nat_tests) in
    absurd (let no : false ≡ true = rw is at (same y) in cc)
same_numbers (x ∷ xs) [] up also same =
    let is : (x == x) ≡ true = grind (arith, nat_tests) in
    absurd (let no : true ≡ false = rw is at (same x) in cc)
same_numbers (x ∷ xs) (y ∷ ys) up also same =
    let heads : x ≡ y = first (nat_lt x y) (nat_lt y x) refl refl in
    ap (λ (n : ℕ). n ∷ xs) heads ∙ ap (λ (ns : List ℕ). y ∷ ns) (same_numbers xs ys up.1 also.1 (λ n. rest n heads (x == n) refl))
  where
    itself : (n : ℕ) → (n == n) ≡ true
    itself n = grind (arith, nat_tests)

    -- a number before the first isn't in
    before : (n m : ℕ) (ms : List ℕ) → ((k : ℕ) → is_in k ms ≡ true → m < k) → n ≤ m → is_in n ms ≡ false
    before n m ms after low = go (is_in n ms) refl
      where
        go : (t : Bool) → is_in n ms ≡ t → is_in n ms ≡ false
        go false is = is
        go true is = let more = after n is in absurd (omega (arith, more, low))

    first : (a b : Bool) → nat_lt x y ≡ a → nat_lt y x ≡ b → x ≡ y
    first true b less more =
        let apart : (y == x) ≡ false = grind (arith, nat_tests) in
        let none = before x y ys also.0 (let low : x < y = grind (arith, nat_tests) in omega (arith, low)) in
        absurd (let no : true ≡ false = rw (itself x, apart, none) at (same x) in cc)
    first false true less more =
        let apart : (x == y) ≡ false = grind (arith, nat_tests) in
        let none = before y x xs up.0 (let low : y < x = grind (arith, nat_tests) in omega (arith, low)) in
        absurd (let no : false ≡ true = rw (itself y, apart, none) at (same y) in cc)
    first false false less more = grind (arith, nat_tests)

    rest : (n : ℕ) → x ≡ y → (t : Bool) → (x == n) ≡ t → is_in n xs ≡ is_in n ys
    rest n heads true is =
        let at : n ≤ x = (let e : x ≡ n = grind (arith, nat_tests) in omega (arith, e)) in
        before n x xs up.0 at ∙ sym (before n y ys also.0 (omega (arith, at, heads)))
    rest n heads false is =
        let other : (y == n) ≡ false = ap (λ (m : ℕ). m == n) (sym heads) ∙ is in
        rw (is, other) at (same n)
