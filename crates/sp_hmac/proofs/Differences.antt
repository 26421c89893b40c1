-- The differences of two byte strings, gathered by `|`, are 0 exactly where the strings are equal.
use Rattle.std.proofs.Common.{◌≡◌, ◌↔◌, ℕ, ◌+◌, ◌%◌, ◌<◌, ◌≤◌, List, length, take, get_or, refl, sym, ◌∙◌, ap, arith, add-one, zero, suc, take_all}
use Rattle.std.specs.Int.Bits.{bit_or, bit_xor}
use Rattle.std.specs.Int.{bit_at}
use Rattle.std.proofs.lemmas.Nat.{le_or_l, le_or_r}
use Rattle.std.proofs.lemmas.Nat.Bits.{bit_at_xor, bit_at-lt, bit_at-zero, same_from_bits}
use Rattle.sp_hmac.specs.Same.{difference}
use Rattle.std.proofs.lemmas.List.{take_more_same, take-take, get_or-take}

-- two numbers without a difference are equal
xor_none : (a b : ℕ) → bit_xor a b ≡ 0 → a ≡ b
xor_none a b none = same_from_bits a b (λ i.
    let at : (bit_at a i + bit_at b i) % 2 ≡ 0 = sym (bit_at_xor a b i) ∙ ap (λ (n : ℕ). bit_at n i) none ∙ bit_at-zero i in
    omega (arith, at, bit_at-lt a i, bit_at-lt b i))

-- a number has no difference from itself
xor_self : (a : ℕ) → bit_xor a a ≡ 0
xor_self a = same_from_bits (bit_xor a a) 0 (λ i. bit_at_xor a a i ∙ omega (arith, bit_at-zero i))

-- one more byte of each
differences_more : (xs ys : List ℕ) (i difference : ℕ) → i < length xs → i < length ys → ((difference ≡ 0) ↔ (take i xs ≡ take i ys))
    → (bit_or difference (bit_xor (get_or xs i 0) (get_or ys i 0)) ≡ 0) ↔ (take (i + 1) xs ≡ take (i + 1) ys)
differences_more xs ys i difference lx ly before =
    let x = get_or xs i 0 in
    let y = get_or ys i 0 in (
      λ none.
          let early : difference ≡ 0 = omega (arith, none, le_or_l difference (bit_xor x y)) in
          let here : bit_xor x y ≡ 0 = omega (arith, none, le_or_r difference (bit_xor x y)) in
          take_more_same xs ys i 0 lx ly (before.0 early) (xor_none x y here),
      λ same.
          let front : take i xs ≡ take i ys = sym (take-take i (i + 1) xs (omega arith)) ∙ ap (take i) same ∙ take-take i (i + 1) ys (omega arith) in
          let equal : x ≡ y =
          sym (get_or-take (i + 1) xs i 0 (omega arith)) ∙ ap (λ (zs : List ℕ). get_or zs i 0) same ∙ get_or-take (i + 1) ys i 0 (omega arith) in
          rw (before.1 front, equal, xor_self y) refl,
    )

-- of the first bytes
differences_none : (xs ys : List ℕ) (n : ℕ) → n ≤ length xs → n ≤ length ys → (difference xs ys n ≡ 0) ↔ (take n xs ≡ take n ys)
differences_none xs ys zero lx ly = (λ _. refl, λ _. refl)
differences_none xs ys (suc n) lx ly =
    let more : (difference xs ys (suc n) ≡ 0) ↔ (take (n + 1) xs ≡ take (n + 1) ys) =
    differences_more xs ys n (difference xs ys n) (omega arith) (omega arith) (differences_none xs ys n (omega arith) (omega arith)) in
    rw (← add-one n) more

-- of all bytes
pub same_where_none : (xs ys : List ℕ) (d : ℕ) → d ≡ difference xs ys 32 → length xs ≡ 32 → length ys ≡ 32 → (d ≡ 0) ↔ (xs ≡ ys)
same_where_none xs ys d is lx ly =
    let first : (difference xs ys 32 ≡ 0) ↔ (take 32 xs ≡ take 32 ys) = differences_none xs ys 32 (omega arith) (omega arith) in
    let all_x : take 32 xs ≡ xs = take_all 32 xs (omega arith) in
    let all_y : take 32 ys ≡ ys = take_all 32 ys (omega arith) in
    (λ none. sym all_x ∙ first.0 (sym is ∙ none) ∙ all_y, λ same. is ∙ first.1 (ap (take 32) same))
