-- A string of four parts, one after the other, and each of them.
use Rattle.std.proofs.Common.{◌≡◌, ℕ, zero, suc, ◌+◌, ◌-◌, List, ◌++◌, length, take, drop, map, refl, ◌∙◌, ap, arith}
use Rattle.std.specs.List.{range_with_len, concat, slice_range}
use Rattle.std.specs.Simd.{first_chunks}
use Rattle.std.proofs.lemmas.List.{append_assoc, take_at, drop_at, length-append}

pub record Parts (a b c d whole : List ℕ) (i j k : ℕ) : Type 0 where
  pub first : slice_range whole 0 i ≡ a
  pub second : slice_range whole i j ≡ b
  pub third : slice_range whole j k ≡ c
  pub fourth : drop k whole ≡ d
  pub long : length whole ≡ k + length d

-- a part after a front
part_behind : (front part rest : List ℕ) (i j : ℕ) → length front ≡ i → i + length part ≡ j → slice_range (front ++ part ++ rest) i j ≡ part
part_behind front part rest i j at end =
    let size : length part ≡ j - i = omega arith in
    ap (λ (xs : List ℕ). take (j - i) (drop i xs)) (append_assoc front part rest)
    ∙ ap (take (j - i)) (drop_at front (part ++ rest) i at) ∙ take_at part rest (j - i) size

pub parts : (a b c d : List ℕ) (i j k : ℕ) → length a ≡ i → i + length b ≡ j → j + length c ≡ k → Parts a b c d (a ++ b ++ c ++ d) i j k
parts a b c d i j k la lb lc =
    let long2 : length (a ++ b) ≡ j = length-append a b ∙ omega arith in
    let long3 : length (a ++ b ++ c) ≡ k = length-append (a ++ b) c ∙ omega arith in
    let behind_b : a ++ b ++ c ++ d ≡ a ++ b ++ (c ++ d) = append_assoc (a ++ b) c d in
    let behind_a : a ++ b ++ c ++ d ≡ a ++ (b ++ (c ++ d)) = behind_b ∙ append_assoc a b (c ++ d) in
    record {
      first = ap (λ (xs : List ℕ). take (i - 0) (drop 0 xs)) behind_a ∙ take_at a (b ++ (c ++ d)) (i - 0) (omega arith);
      second = ap (λ (xs : List ℕ). slice_range xs i j) behind_b ∙ part_behind a b (c ++ d) i j la lb;
      third = part_behind (a ++ b) c d j k long2 lc;
      fourth = drop_at (a ++ b ++ c) d k long3;
      long = length-append (a ++ b ++ c) d ∙ omega arith;
    }

-- the pieces of 32 bytes that a string was joined from
pub chunks-concat : (f : ℕ → List ℕ) (a n : ℕ) → ((i : ℕ) → length (f i) ≡ 32)
    → first_chunks 32 n (concat (map f (range_with_len a n))) ≡ map f (range_with_len a n)
chunks-concat f a zero long = refl
chunks-concat f a (suc n) long =
    let rest = concat (map f (range_with_len (a + 1) n)) in
    let front : take 32 (f a ++ rest) ≡ f a = take_at (f a) rest 32 (long a) in
    let behind : drop 32 (f a ++ rest) ≡ rest = drop_at (f a) rest 32 (long a) in
    rw (front, behind, chunks-concat f (a + 1) n long) refl
