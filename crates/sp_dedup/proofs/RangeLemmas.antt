-- Ranges of numbers of which some pass a test: which are in, and which is the greatest.
use Rattle.std.proofs.Common.{◌≡◌, ◌≤◌, ◌<◌, ℕ, zero, suc, ◌+◌, ◌-◌, Bool, true, false, List, [], ◌∷◌, refl, sym, ap, ◌∙◌, arith, cond, nat_le}
use Rattle.std.specs.Prelude.{◌==◌, ◌&&◌, ◌||◌, filter}
use Rattle.std.specs.List.{range_with_len}
use Rattle.std.proofs.lemmas.Bool.Decides.{nat_tests}
use Rattle.sp_rules.proofs.WindowLemmas.{Ascends}
use Rattle.sp_rules.specs.Window.{greatest, is_in}
use Rattle.sp_rules.specs.declared.window.TheConstants.{WINDOW}
use Rattle.sp_dedup.specs.Ring.{last_numbers}

in_more : (t : Bool) (y x : ℕ) (ys : List ℕ) → is_in x (cond t (y ∷ ys) ys) ≡ ((t && (y == x)) || is_in x ys)
in_more true y x ys = refl
in_more false y x ys = refl

-- a number outside the range isn't among those that pass
pub not_among : (p : ℕ → Bool) (first count x : ℕ) → (first ≤ x → x < first + count → ⊥) → is_in x (filter p (range_with_len first count)) ≡ false
not_among p first zero x out = refl
not_among p first (suc count) x out =
    let apart : (first == x) ≡ false = go (first == x) refl in
    let rest : is_in x (filter p (range_with_len (first + 1) count)) ≡ false = not_among p (first + 1) count x (λ from below. out (omega arith)
    (omega arith)) in
    in_more (p first) first x (filter p (range_with_len (first + 1) count)) ∙ rw (apart, rest) (never (p first))
  where
    go : (t : Bool) → (first == x) ≡ t → (first == x) ≡ false
    go false is = is
    go true is = absurd (out (grind (arith, nat_tests)) (grind (arith, nat_tests)))

    never : (t : Bool) → ((t && false) || false) ≡ false
    never true = refl
    never false = refl

-- a number of the range is among those that pass where it passes
pub among : (p : ℕ → Bool) (first count x : ℕ) → first ≤ x → x < first + count → is_in x (filter p (range_with_len first count)) ≡ p x
among p first zero x from below = absurd (omega arith)
among p first (suc count) x from below = in_more (p first) first x (filter p (range_with_len (first + 1) count))
    ∙ go (first == x) refl (λ after. among p (first + 1) count x after (omega arith))
  where
    here : (t : Bool) → ((t && true) || false) ≡ t
    here true = refl
    here false = refl

    there : (t : Bool) (b : Bool) → ((t && false) || b) ≡ b
    there true b = refl
    there false b = refl

    go : (t : Bool) → (first == x) ≡ t → (first + 1 ≤ x → is_in x (filter p (range_with_len (first + 1) count)) ≡ p x) →
        ((p first && (first == x)) || is_in x (filter p (range_with_len (first + 1) count))) ≡ p x
    go true is rest =
        let same : first ≡ x = grind (arith, nat_tests) in
        let past : is_in x (filter p (range_with_len (first + 1) count)) ≡ false = not_among p (first + 1) count x (λ after within. omega (
          arith,
          same,
          after,
        )) in
        rw (is, past) (here (p first) ∙ ap p same)
    go false is rest =
        let apart : first ≡ x → ⊥ = λ same. grind (arith, nat_tests) in
        rw (is, rest (omega (arith, apart))) (there (p first) (p x))

-- those that pass ascend
pub range_ascends : (p : ℕ → Bool) (first count : ℕ) → Ascends (filter p (range_with_len first count))
range_ascends p first zero = tt
range_ascends p first (suc count) = go (p first) (range_ascends p (first + 1) count)
  where
    above : (y : ℕ) → is_in y (filter p (range_with_len (first + 1) count)) ≡ true → first < y
    above y is = at (nat_le y first) refl
      where
        at : (t : Bool) → nat_le y first ≡ t → first < y
        at false e = grind (arith, nat_tests)
        at true e =
            let low : y ≤ first = grind (arith, nat_tests) in
            let none = not_among p (first + 1) count y (λ from below. omega (arith, low, from)) in
            absurd (let no : true ≡ false = sym is ∙ none in cc)

    go : (t : Bool) → Ascends (filter p (range_with_len (first + 1) count))
        → Ascends (cond t (first ∷ filter p (range_with_len (first + 1) count)) (filter p (range_with_len (first + 1) count)))
    go true rest = (above, rest)
    go false rest = rest

-- where the last number of the range passes it is the greatest
pub last_is_greatest : (p : ℕ → Bool) (first count : ℕ) → p (first + count) ≡ true → greatest (filter p (range_with_len first (suc count))) ≡ first + count
last_is_greatest p first zero passes =
    let here : p first ≡ true = ap p (let e : first ≡ first + 0 = omega arith in e) ∙ passes in
    rw here (omega arith)
last_is_greatest p first (suc count) passes =
    let last : p (first + 1 + count) ≡ true = ap p (let e : first + 1 + count ≡ first + suc count = omega arith in e) ∙ passes in
    go (p first) (last_is_greatest p (first + 1) count last)
  where
    go : (t : Bool) → greatest (filter p (range_with_len (first + 1) (suc count))) ≡ first + 1 + count →
        greatest (cond t (first ∷ filter p (range_with_len (first + 1) (suc count))) (filter p (range_with_len (first + 1) (suc count))))
        ≡ first + suc count
    go true rest = omega (arith, rest)
    go false rest = omega (arith, rest)

-- where none passes nothing is left
pub none_pass : (p : ℕ → Bool) (first count : ℕ) → ((x : ℕ) → p x ≡ false) → filter p (range_with_len first count) ≡ []
none_pass p first zero fails = refl
none_pass p first (suc count) fails = rw (fails first) (none_pass p (first + 1) count fails)

-- ---- the last numbers up to one

-- a number that a window knows is among those that pass where it passes
pub in_last : (p : ℕ → Bool) (top x : ℕ) → x ≤ top → top < x + WINDOW → is_in x (filter p (last_numbers top)) ≡ p x
in_last p top x low high = among p (top + 1 - WINDOW) (top + 1 - (top + 1 - WINDOW)) x (omega arith) (omega arith)

pub not_in_last : (p : ℕ → Bool) (top x : ℕ) → (x ≤ top → top < x + WINDOW → ⊥) → is_in x (filter p (last_numbers top)) ≡ false
not_in_last p top x out = not_among p (top + 1 - WINDOW) (top + 1 - (top + 1 - WINDOW)) x (λ from below. out (omega arith) (omega arith))

-- where the last one passes it is the greatest
pub greatest_of_last : (p : ℕ → Bool) (top : ℕ) → p top ≡ true → greatest (filter p (last_numbers top)) ≡ top
greatest_of_last p top passes =
    let count : top + 1 - (top + 1 - WINDOW) ≡ suc (top - (top + 1 - WINDOW)) = omega arith in
    let end : top + 1 - WINDOW + (top - (top + 1 - WINDOW)) ≡ top = omega arith in
    rw count (last_is_greatest p (top + 1 - WINDOW) (top - (top + 1 - WINDOW)) (ap p end ∙ passes) ∙ end)
