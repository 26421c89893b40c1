-- A mask of any edges of a list.
use Rattle.std.proofs.Common.{◌≡◌, ◌+◌, ◌*◌, ◌/◌, ◌%◌, ◌==◌, ℕ, zero, suc, Bool, true, false, List, [], ◌∷◌, Option, Some, None, cond, ap, ◌∙◌, arith}
use Rattle.std.specs.Prelude.{slice_get}
use Rattle.std.specs.Int.{bit_at}
use Rattle.std.proofs.lemmas.Nat.Bits.{bit_at-suc, bit_at-zero, bit_at_lowest}
use Rattle.sp_msg.specs.Views.{names_edge}

-- the number that has a bit for each element that passes the test
abbrev pub bits : {X : Type 0} → (X → Bool) → List X → ℕ
bits test [] = 0
bits test (x ∷ xs) = cond (test x) 1 0 + 2 * bits test xs

-- whether there is an element at the place, and it passes
abbrev pub passes_at : {X : Type 0} → (X → Bool) → Option X → Bool
passes_at test None = false
passes_at test (Some x) = test x

lowest : (b : Bool) (n : ℕ) → (bit_at (cond b 1 0 + 2 * n) 0 == 1) ≡ b
lowest true n = let odd : (1 + 2 * n) % 2 ≡ 1 = omega arith in ap (λ (k : ℕ). k == 1) (bit_at_lowest (1 + 2 * n) ∙ odd)
lowest false n = let even : (0 + 2 * n) % 2 ≡ 0 = omega arith in ap (λ (k : ℕ). k == 1) (bit_at_lowest (0 + 2 * n) ∙ even)

higher : (b : Bool) (n i : ℕ) → bit_at (cond b 1 0 + 2 * n) (suc i) ≡ bit_at n i
higher true n i = let half : (1 + 2 * n) / 2 ≡ n = omega arith in bit_at-suc (1 + 2 * n) i ∙ ap (λ (k : ℕ). bit_at k i) half
higher false n i = let half : (0 + 2 * n) / 2 ≡ n = omega arith in bit_at-suc (0 + 2 * n) i ∙ ap (λ (k : ℕ). bit_at k i) half

pub bits_are : {X : Type 0} (test : X → Bool) (xs : List X) (i : ℕ) → names_edge (bits test xs) i ≡ passes_at test (slice_get xs i)
bits_are test [] i = ap (λ (k : ℕ). k == 1) (bit_at-zero i)
bits_are test (x ∷ xs) zero = lowest (test x) (bits test xs)
bits_are test (x ∷ xs) (suc i) = ap (λ (k : ℕ). k == 1) (higher (test x) (bits test xs) i) ∙ bits_are test xs i
