-- Where a block is cut out of a message and what stands behind it.
use Rattle.std.proofs.Common.{◌≡◌, ℕ, ◌+◌, ◌-◌, ◌*◌, ◌<◌, ◌≤◌, List, [], ◌++◌, length, take, drop, replicate, refl, sym, ap, ◌∙◌, arith, inl, inr, length-drop}
use borrow.Rule.Slice.PartMut.{put_mid}
use Rattle.std.proofs.Math.Seq.{drop-append-add, take-append-add}
use Rattle.std.proofs.lemmas.Bool.{cases_lt}
use Rattle.std.proofs.lemmas.List.{append-nil, drop-append-le, drop-drop, drop_all, length-append, take-append-le, take_all, take_at}

pub take_of_both : (k : ℕ) (xs ys : List ℕ) → take k (xs ++ ys) ≡ take k xs ++ take (k - length xs) ys
take_of_both k xs ys = elim (cases_lt (length xs) k) [
  | inl more ↦
      let split : k ≡ length xs + (k - length xs) = omega arith in
      ap (λ (n : ℕ). take n (xs ++ ys)) split ∙ take-append-add xs ys (k - length xs)
      ∙ ap (λ (front : List ℕ). front ++ take (k - length xs) ys) (sym (take_all k xs (omega arith)))
  | inr within ↦
      let none : k - length xs ≡ 0 = omega arith in
      rw none (take-append-le k xs ys (omega arith) ∙ sym (append-nil (take k xs)))
]

pub drop_of_both : (k : ℕ) (xs ys : List ℕ) → drop k (xs ++ ys) ≡ drop k xs ++ drop (k - length xs) ys
drop_of_both k xs ys = elim (cases_lt (length xs) k) [
  | inl more ↦
      let split : k ≡ length xs + (k - length xs) = omega arith in
      ap (λ (n : ℕ). drop n (xs ++ ys)) split ∙ drop-append-add xs ys (k - length xs)
      ∙ ap (λ (front : List ℕ). front ++ drop (k - length xs) ys) (sym (drop_all k xs (omega arith)))
  | inr within ↦
      let none : k - length xs ≡ 0 = omega arith in
      rw none (drop-append-le k xs ys (omega arith))
]

-- all that a list has, asked for by its length or by more
pub take_most : (k n : ℕ) (xs : List ℕ) → k ≤ n → length xs ≤ k → take k xs ≡ take n xs
take_most k n xs more all = take_all k xs all ∙ sym (take_all n xs (omega arith))

-- the bytes of block n that stand in the message
pub block_front : (m : List ℕ) (n start end : ℕ) → (64 * n < length m → start ≡ 64 * n) → (length m ≤ 64 * n → start ≡ length m)
    → (64 * n + 64 < length m → end ≡ 64 * n + 64) → (length m ≤ 64 * n + 64 → end ≡ length m)
    → take (end - start) (drop start m) ≡ take 64 (drop (n * 64) m)
block_front m n start end low none high all = elim (cases_lt (64 * n) (length m)) [
  | inl begins ↦
      let at : start ≡ n * 64 = omega (arith, low begins) in
      let long = length-drop (n * 64) m in
      rw at (elim (cases_lt (64 * n + 64) (length m)) [
        | inl whole ↦
            let size : end - n * 64 ≡ 64 = omega (arith, high whole) in
            rw size refl
        | inr cut ↦ take_most (end - n * 64) 64 (drop (n * 64) m) (omega (arith, all (omega arith))) (omega (arith, long, all (omega arith)))
      ])
  | inr after ↦
      let size : end - start ≡ 0 = omega (arith, none (omega arith), all (omega arith)) in
      rw (size, drop_all (n * 64) m (omega arith)) refl
]

-- block n of a message and what stands behind it, from its two parts
pub block_of_parts : (m p first second : List ℕ) (n start end from : ℕ) → (64 * n < length m → start ≡ 64 * n) → (length m ≤ 64 * n → start ≡ length m)
    → (64 * n + 64 < length m → end ≡ 64 * n + 64) → (length m ≤ 64 * n + 64 → end ≡ length m) → from ≡ 64 * n - length m
    → first ≡ take (end - start) (drop start m) → second ≡ take (from + 64 - (end - start) - from) (drop from p)
    → first ++ second ≡ take 64 (drop (n * 64) (m ++ p))
block_of_parts m p first second n start end from low none high all behind first_is second_is =
    let rest = drop (n * 64) m in
    let long = length-drop (n * 64) m in
    let size : from + 64 - (end - start) - from ≡ 64 - length rest = elim (cases_lt (64 * n) (length m)) [
      | inl begins ↦ elim (cases_lt (64 * n + 64) (length m)) [
        | inl whole ↦ omega (arith, long, low begins, high whole)
        | inr cut ↦ omega (arith, long, low begins, all (omega arith))
      ]
      | inr after ↦ omega (arith, long, none (omega arith), all (omega arith))
    ] in
    let place : from ≡ n * 64 - length m = omega (arith, behind) in
    let parts : first ++ second ≡ take 64 rest ++ take (64 - length rest) (drop (n * 64 - length m) p) =
    λ i. (first_is ∙ block_front m n start end low none high all) i
    ++ (second_is ∙ ap (λ (k : ℕ). take k (drop from p)) size ∙ ap (λ (k : ℕ). take (64 - length rest) (drop k p)) place) i in
    parts ∙ sym (ap (take 64) (drop_of_both (n * 64) m p) ∙ take_of_both 64 rest (drop (n * 64 - length m) p))

-- two parts that fill a block, written one after the other
pub written_behind : (first second : List ℕ) (a : ℕ) → length first ≡ a → a ≤ 64 → length second ≡ 64 - a
    → put_mid a (64 - a) (first ++ drop a (replicate 64 0)) second ≡ first ++ second
written_behind first second a long within more =
    let all : List ℕ = first ++ drop a (replicate 64 0) in
    let size : length all ≡ 64 = length-append first (drop a (replicate 64 0)) ∙ omega (arith, length-drop {A = ℕ} a (replicate 64 0)) in
    let front : take a all ≡ first = take_at first (drop a (replicate 64 0)) a long in
    let none : drop (64 - a) (drop a all) ≡ [] = drop-drop (64 - a) a all ∙ drop_all (a + (64 - a)) all (omega (arith, size)) in
    rw (front, none) (ap (λ (xs : List ℕ). first ++ xs) (append-nil second))
